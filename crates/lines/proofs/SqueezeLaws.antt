-- Squeezing byte by byte, in place: what is kept stands at the front, and the bytes behind it are as they were.
use mathlib.Core.Bool.{Bool, true, false}
use mathlib.Core.Path.{◌≡◌, sym, ap, ◌∙◌}
use mathlib.Core.List.{List, [], ◌∷◌, ◌++◌, append-nil}
use Prim.Native.Nat.{ℕ, suc, ◌+◌, ◌-◌, ◌≤◌, ◌<◌}
use native.Mathlib.Numerals.{add-one}
use native.Mathlib.Omega.{arith}
use lib.ListN.{length, get_or, drop, set, length-set, length-append, drop_of_length-le}
use lib.Seq.{drop-cons, append_snoc, get_or-append-add, get_or-drop, set_at}
use Rattle.lines.specs.declared.squeezing.Run.{Run}
use Rattle.lines.specs.Squeezing.{run_after, is_redundant, squeezed_from, squeezed}

-- the first j bytes of d are squeezed into the first i of buf, and run says how they end
pub record Squeezing (d : List ℕ) (run : Run) (i j : ℕ) (buf : List ℕ) : Type 0 where
  pub kept : List ℕ
  pub size : length kept ≡ i
  pub behind : i ≤ j
  pub within : j ≤ length d
  pub long : length buf ≡ length d
  pub front : buf ≡ kept ++ drop i d
  pub left : kept ++ squeezed_from run (drop j d) ≡ squeezed d

module _ (d : List ℕ) (run : Run) (i j : ℕ) (buf : List ℕ) (s : Squeezing d run i j buf) where
  -- the next byte is read where it stood at first
  pub unread : get_or buf j 0 ≡ get_or d j 0
  unread =
      let p = s.kept in
      let place : j ≡ length p + (j - i) = omega (arith, s.size, s.behind) in
      let back : i + (j - i) ≡ j = omega (arith, s.behind) in
      ap (λ (l : List ℕ). get_or l j 0) s.front ∙ ap (λ (k : ℕ). get_or (p ++ drop i d) k 0) place ∙ get_or-append-add p (drop i d) (j - i) 0
      ∙ get_or-drop i d (j - i) 0 ∙ ap (λ (k : ℕ). get_or d k 0) back

  -- at the end all that says something is kept
  pub whole : length d ≤ j → s.kept ≡ squeezed d
  unfolding squeezed_from
  whole h =
      let none : drop j d ≡ [] = drop_of_length-le d h in
      sym (append-nil s.kept) ∙ ap (λ (l : List ℕ). s.kept ++ squeezed_from run l) (sym none) ∙ s.left

  -- a byte that says nothing is left out
  pub skip : j < length d → is_redundant run (get_or buf j 0) ≡ true → Squeezing d (run_after run (get_or buf j 0)) i (j + 1) buf
  unfolding squeezed_from
  skip h e =
      let next = drop-cons d j 0 h in
      let on : j + 1 ≡ suc j = omega arith in
      record {
        kept = s.kept;
        size = s.size;
        behind = omega (arith, s.behind);
        within = omega arith;
        long = s.long;
        front = s.front;
        left = rw (on, unread) (rw (next, rw unread at e) at s.left);
      }

  -- any other is kept
  pub keep : j < length d → is_redundant run (get_or buf j 0) ≡ false
      → Squeezing d (run_after run (get_or buf j 0)) (i + 1) (j + 1) (set buf i (get_or buf j 0))
  unfolding squeezed_from
  keep h e =
      let p = s.kept in
      let b = get_or buf j 0 in
      let next = drop-cons d j 0 h in
      let on : j + 1 ≡ suc j = omega arith in
      let here = drop-cons d i 0 (omega (arith, s.behind)) in
      record {
        kept = p ++ (b ∷ []);
        size = omega (arith, length-append p (b ∷ []), s.size);
        behind = omega (arith, s.behind);
        within = omega arith;
        long = length-set buf i b ∙ s.long;
        front =
            ap (λ (l : List ℕ). set l i b) (s.front ∙ ap (λ (l : List ℕ). p ++ l) here) ∙ set_at p (get_or d i 0) (drop (suc i) d) b i s.size
            ∙ sym (append_snoc p b (drop (suc i) d)) ∙ rw add-one;
        left = append_snoc p b _ ∙ rw (on, unread) (rw (next, rw unread at e) at s.left);
      }

  module _ (redundant : Bool) (run' : Run) (i' : ℕ) (buf' : List ℕ) (h : j < length d) (e : redundant ≡ is_redundant run (get_or buf j 0)) (r : run' ≡ run_after run (get_or buf j 0)) where
    -- a turn of the loop that keeps the byte
    pub kept-turn : redundant ≡ false → buf' ≡ set buf i (get_or buf j 0) → i' ≡ i + 1 → Squeezing d run' i' (j + 1) buf'
    kept-turn n b k = rw (r, b, k) (keep h (sym e ∙ n))

    -- and one that leaves it out
    pub skipped_turn : redundant ≡ true → buf' ≡ buf → i' ≡ i → Squeezing d run' i' (j + 1) buf'
    skipped_turn n b k = rw (r, b, k) (skip h (sym e ∙ n))
