-- Laws of what a group is answered, place by place of its list.
use mathlib.Core.Path.{◌≡◌, refl, sym, ap, ◌∙◌}
use mathlib.Core.Bool.{Bool, true, false}
use mathlib.Core.List.{List}
use Prim.Native.Nat.{ℕ, ◌+◌, ◌≤◌, ◌<◌}
use native.Mathlib.Omega.{arith}
use borrow.Author.Tests.{lt-ltb, lt-leb, le-leb}
use lib.ListN.{length, get_or, drop}
use Rattle.std.specs.Prelude.{if◌then◌else◌, Ok, Err, is_ok}
use Rattle.std.specs.Result.{result_and}
use Rattle.std.proofs.lemmas.List.{at_drop_more, drop_all}
use Rattle.descriptor.specs.declared.Refusal.TheVariants.{Place}
use Rattle.line.specs.Lines.{Verdict, blank_line}
use Rattle.line.specs.declared.Line.{Line}
use Rattle.dispatcher.specs.Dispatch.{bad_row}
use Rattle.group.specs.Groups.{rate_of, named, outside, first_refusal, verdict_of, rated_row}
use Rattle.group.specs.Marks.{named_low}
use Rattle.group.proofs.RateLaws.{rate-plain, rated_alike}

and_assoc : (u v w : Verdict) → result_and (result_and u v) w ≡ result_and u (result_and v w)
and_assoc (Ok k) v w = refl
and_assoc (Err r) v w = refl

-- the lines of a row take a rate command
module _ (ls : List Line) (P : ℕ) where
  -- what the line at each place would answer
  abbrev pub answers : ℕ → Verdict
  answers p = (rate_of (get_or ls p blank_line) P).verdict

  -- what the group is answered for the places that are left, where those before answered v
  abbrev pub answered : Verdict → List ℕ → Verdict
  answered v ps = if outside ps (length ls) then Err Place else result_and v (first_refusal answers ps)

  pub answered-all : (ps : List ℕ) → bad_row (length ls) ≡ false → answered (Ok 0) ps ≡ verdict_of ls ps P
  unfolding verdict_of
  answered-all ps e = rw e

  pub answered_end : (v : Verdict) (ps : List ℕ) (i : ℕ) → length ps ≤ i → result_and v (Ok 0) ≡ v → answered v (drop i ps) ≡ v
  unfolding outside first_refusal
  answered_end v ps i l plain = rw (drop_all i ps l) plain

  module _ (v : Verdict) (ps : List ℕ) (i : ℕ) (l : i < length ps) where
    abbrev p : ℕ
    p = get_or ps i 0

    -- a place outside the row
    pub answered_outside : length ls ≤ p → answered v (drop i ps) ≡ Err Place
    unfolding outside
    answered_outside o = at_drop_more (answered v) ps i 0 l ∙ rw (le-leb (length ls) p o)

    -- a line
    pub answered_more : p < length ls → answered v (drop i ps) ≡ answered (result_and v (answers p)) (drop (i + 1) ps)
    unfolding outside first_refusal
    answered_more o =
        at_drop_more (answered v) ps i 0 l
        ∙ rw (lt-leb (length ls) p o) (ap (λ (w : Verdict). if outside (drop (i + 1) ps) (length ls) then Err Place else w) (sym (and_assoc v (answers p) (first_refusal answers (drop (i + 1) ps)))))

  -- an accepted answer of a line is 0
  pub plain_more : (v : Verdict) (p : ℕ) → result_and v (Ok 0) ≡ v → result_and (result_and v (answers p)) (Ok 0) ≡ result_and v (answers p)
  plain_more (Ok k) p e = rate-plain (get_or ls p blank_line) P
  plain_more (Err r) p e = refl

-- a row that is taken has at most 64 lines, so each of its places has a bit
pub rated-named : (ls : List Line) (ps : List ℕ) (P : ℕ) → is_ok (verdict_of ls ps P) ≡ true → rated_row (named_low ps) P ls ≡ rated_row (named ps) P ls
unfolding verdict_of
rated-named ls ps P e =
    rated_alike (named_low ps) (named ps) P ls (λ i l. rw (lt-ltb i 64 (omega (arith, l, short (bad_row (length ls)) refl))) refl)
  where
    short : (b : Bool) → bad_row (length ls) ≡ b → length ls ≤ 64
    short true q = absurd (let o = rw q at e in cc)
    short false q = search arith
