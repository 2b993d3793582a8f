-- Parts of a buffer: their lengths, and where they are empty.
use mathlib.Core.Path.{◌≡◌, sym, ap, ◌∙◌}
use mathlib.Core.List.{List, []}
use Prim.Native.Nat.{ℕ, ◌-◌, ◌<◌, min}
use native.Mathlib.Omega.{arith}
use lib.ListN.{length, take, drop, length-take, length-drop}
use mathlib.Core.Logic.{inl, inr}
use Rattle.std.proofs.lemmas.Bool.{cases_lt}
use Rattle.std.proofs.lemmas.List.{take_min}
use Rattle.lines.specs.Spans.{part}

module _ (from to : ℕ) (l : List ℕ) where
  -- the length of a part
  pub length_part : length (part from to l) ≡ min to (length l) - from
  unfolding part
  length_part = omega (arith, length-take (to - from) (drop from l), length-drop from l)

  -- a part that ends where the buffer does
  pub part-clip : take (min to (length l) - from) (drop from l) ≡ part from to l
  unfolding part
  part-clip =
      let n : min to (length l) - from ≡ min (to - from) (length (drop from l)) = omega (arith, length-drop from l) in
      ap (λ (k : ℕ). take k (drop from l)) n ∙ take_min (to - from) (drop from l)

  -- a part that begins past its end or the buffer's
  pub part-empty : min to (length l) < from → part from to l ≡ []
  unfolding part
  part-empty h =
      let none : min (to - from) (length (drop from l)) ≡ 0 = omega (arith, length-drop from l) in
      sym (take_min (to - from) (drop from l)) ∙ ap (λ (k : ℕ). take k (drop from l)) none

  -- a part between places within the buffer
  pub part-within : (s e : ℕ) → e ≡ min to (length l) → s ≡ min from e → take (e - s) (drop s l) ≡ part from to l
  part-within s e p q = elim (cases_lt e from) [
    | inl h ↦ let none : e - s ≡ 0 = omega arith in ap (λ (k : ℕ). take k (drop s l)) none ∙ sym (part-empty (omega arith))
    | inr h ↦ let first : s ≡ from = omega arith in rw (first, p) part-clip
  ]
