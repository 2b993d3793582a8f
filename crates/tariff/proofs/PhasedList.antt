-- The phases of a tariff in their array: one phase, and those after it.
use mathlib.Core.Path.{◌≡◌, refl}
use mathlib.Core.List.{List, [], ◌∷◌}
use Prim.Native.Nat.{ℕ, zero, suc, ◌+◌, ◌≤◌, ◌<◌}
use native.Mathlib.Numerals.{add-one}
use native.Mathlib.Omega.{arith}
use borrow.Author.Tests.{lt-ltb}
use lib.ListN.{take, drop, length, get_or, length-take, drop_of_length-le}
use Rattle.tariff.specs.Tariffs.{phase_at, no_phase}
use Rattle.tariff.specs.declared.Phase.{Phase}

-- the phases after phase i, of the first n
abbrev pub after : List Phase → ℕ → ℕ → List Phase
after a n i = drop (suc i) (take n a)

drop-take : (a : List Phase) (n i : ℕ) → i < n → n ≤ length a → drop i (take n a) ≡ get_or a i no_phase ∷ drop (suc i) (take n a)
drop-take [] n i h w = absurd (omega arith)
drop-take (p ∷ a) zero i h w = absurd (omega arith)
drop-take (p ∷ a) (suc n) zero h w = refl
drop-take (p ∷ a) (suc n) (suc i) h w = drop-take a n i (omega arith) (omega arith)

-- from phase i on
pub phase-split : (a : List Phase) (n i : ℕ) → i < n → n ≤ 8 → n ≤ length a → drop i (take n a) ≡ phase_at a i ∷ after a n i
phase-split a n i h eight whole = rw (lt-ltb i 8 (omega arith)) (drop-take a n i h whole)

pub after-split : (a : List Phase) (n i : ℕ) → i + 1 < n → n ≤ 8 → n ≤ length a
    → after a n i ≡ phase_at a (i + 1) ∷ after a n (i + 1)
after-split a n i h eight whole = rw (add-one i) (phase-split a n (suc i) (omega arith) eight whole)

pub after_last : (a : List Phase) (n i : ℕ) → n ≤ i + 1 → after a n i ≡ []
after_last a n i h = drop_of_length-le (take n a) {i = suc i} (omega (arith, length-take n a))
