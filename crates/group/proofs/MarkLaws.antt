-- Laws of marks in a word: to mark a place marks it and no other.
use mathlib.Core.Path.{◌≡◌, refl, sym, ap, ◌∙◌}
use mathlib.Core.Bool.{Bool, true, false, ◌&&◌, ◌||◌, and-false, or-false, or-true}
use mathlib.Core.List.{List, [], ◌∷◌}
use mathlib.Core.Logic.{◌≢◌}
use Prim.Native.Nat.{ℕ, ◌+◌, ◌^◌, max, ◌≤◌, ◌<◌}
use native.Mathlib.Omega.{arith}
use borrow.Author.Tests.{lt-ltb, ltb-true, eq-eqb, eqb-true, eqb-false}
use lib.Dec.{eqb, ltb}
use lib.ListN.{length, get_or, drop}
use Rattle.std.specs.Prelude.{if◌then◌else◌}
use Rattle.std.specs.Int.{bit_at}
use Rattle.std.specs.Int.Bits.{bit_or}
use Rattle.std.proofs.lemmas.List.{at_drop_more, drop_all}
use Rattle.std.proofs.lemmas.Nat.Bits.{bit_at-zero, bit_at-lt, bit_at_or, bit_at-pow_same, bit_at-pow_other}
use Rattle.group.specs.Groups.{named}
use Rattle.group.specs.Marks.{is_unmarked, with_mark, named_low}

-- place p is marked
abbrev pub is_marked : ℕ → ℕ → Bool
is_marked w p = ltb p 64 && eqb (bit_at w p) 1

pub none_marked : (i : ℕ) → is_marked 0 i ≡ false
none_marked i = rw (bit_at-zero i) (and-false (ltb i 64))

module _ (w p : ℕ) where
  pub marked_here : p < 64 → is_marked (with_mark w p) p ≡ true
  marked_here l =
      rw (lt-ltb p 64 l, bit_at_or w (2 ^ p) p, bit_at-pow_same p) (eq-eqb (max (bit_at w p) 1) 1 (omega (arith, bit_at-lt w p)))

  pub marked_other : (i : ℕ) → i ≢ p → is_marked (with_mark w p) i ≡ is_marked w i
  marked_other i n = by (ltb p 64)
    where
      by : (b : Bool) → is_marked (if b then bit_or w (2 ^ p) else w) i ≡ is_marked w i
      by true = rw (bit_at_or w (2 ^ p) i, bit_at-pow_other p i n) (ap (λ (b : ℕ). ltb i 64 && eqb b 1) (omega arith))
      by false = refl

  pub unmarked_low : is_unmarked w p ≡ true → p < 64
  unmarked_low e = search arith

  pub unmarked_here : is_unmarked w p ≡ true → is_marked w p ≡ false
  unmarked_here e = search arith

  -- another place has no bit, or is marked: to mark it changes nothing
  pub marked_again : is_unmarked w p ≡ false → (i : ℕ) → is_marked (with_mark w p) i ≡ is_marked w i
  marked_again e i = by (eqb i p) refl
    where
      here : (b : Bool) → ltb p 64 ≡ b → is_marked (with_mark w p) p ≡ is_marked w p
      here true q =
          let n = eqb-false (bit_at w p) 0 (rw q at e) in
          marked_here (ltb-true p 64 q) ∙ sym (rw q (eq-eqb (bit_at w p) 1 (omega (arith, bit_at-lt w p, n))))
      here false q = rw q refl

      by : (b : Bool) → eqb i p ≡ b → is_marked (with_mark w p) i ≡ is_marked w i
      by true q = rw (eqb-true i p q) (here (ltb p 64) refl)
      by false q = marked_other i (eqb-false i p q)

-- ---- with each place of a list marked
unfoldable pub with_marks : ℕ → List ℕ → ℕ
with_marks w [] = w
with_marks w (p ∷ ps) = with_marks (with_mark w p) ps

pub marks_end : (w : ℕ) (ps : List ℕ) (i : ℕ) → length ps ≤ i → with_marks w (drop i ps) ≡ w
unfolding with_marks
marks_end w ps i l = rw (drop_all i ps l) refl

pub marks_more : (w : ℕ) (ps : List ℕ) (i : ℕ) → i < length ps → with_marks w (drop i ps) ≡ with_marks (with_mark w (get_or ps i 0)) (drop (i + 1) ps)
unfolding with_marks
marks_more w ps i l = at_drop_more (with_marks w) ps i 0 l

marked-named : (w : ℕ) (ps : List ℕ) (i : ℕ) → i < 64 → is_marked (with_marks w ps) i ≡ (is_marked w i || named ps i)
unfolding with_marks named
marked-named w [] i l = sym (or-false (is_marked w i))
marked-named w (p ∷ ps) i l = marked-named (with_mark w p) ps i l ∙ by (eqb i p) refl
  where
    by : (b : Bool) → eqb i p ≡ b → (is_marked (with_mark w p) i || named ps i) ≡ (is_marked w i || (b || named ps i))
    by true e = rw (eqb-true i p e, marked_here w p (omega (arith, l, eqb-true i p e))) (sym (or-true (is_marked w p)))
    by false e = rw (marked_other w p i (eqb-false i p e)) refl

-- these are the places that it names, if they have a bit
pub marks-named : (ps : List ℕ) (i : ℕ) → is_marked (with_marks 0 ps) i ≡ named_low ps i
marks-named ps i = by (ltb i 64) refl
  where
    by : (b : Bool) → ltb i 64 ≡ b → is_marked (with_marks 0 ps) i ≡ named_low ps i
    by true e = marked-named 0 ps i (ltb-true i 64 e) ∙ rw (none_marked i, e) refl
    by false e = rw e refl
