-- No whole number is nearer to a fraction than the fraction rounded half up.
use mathlib.Core.Path.{◌≡◌}
use mathlib.Core.Logic.{inl, inr}
use Prim.Native.Nat.{ℕ, ◌+◌, ◌-◌, ◌*◌, ◌≤◌, ◌<◌}
use native.Mathlib.Nat.{mul-le-mul_right, add-mul}
use native.Mathlib.Omega.{arith}
use Rattle.std.proofs.lemmas.Bool.{cases_order}
use borrow.Author.Tests.{leb-true, leb-false}
use borrow.Table.Steps.{cases}
use lib.Dec.{leb}
use Rattle.fractions.specs.Rounding.{rounded_half_up}
use Rattle.phase_total.specs.Rest.{Fraction, apart}
use Rattle.phase_total.proofs.Rest.{rounds}

abbrev over : ℕ → ℕ → Fraction
over p q = record { over = p; under = q }

-- a number more is a denominator more
next : (q i j : ℕ) → i < j → i * q + q ≤ j * q
next q i j l = omega (arith, add-mul i 1 q, mul-le-mul_right {m = i + 1} {n = j} q (omega arith))

module _ (p q : ℕ) (h : 0 < q) where
  above : (m : ℕ) → rounded_half_up p q < m → apart (over p q) (rounded_half_up p q) ≤ apart (over p q) m
  above m l = omega (arith, rounds p q h, next q (rounded_half_up p q) m l)

  below : (m : ℕ) → m < rounded_half_up p q → apart (over p q) (rounded_half_up p q) ≤ apart (over p q) m
  below m l = omega (arith, rounds p q h, next q m (rounded_half_up p q) l)

  -- past the rounded fraction, each number more is further away
  past : (s n : ℕ) → rounded_half_up p q < s → apart (over p q) s ≤ apart (over p q) (s + n)
  past s n l = omega (arith, rounds p q h, next q (rounded_half_up p q) s l, add-mul s n q)

  -- so none is nearer
  rounded : (m : ℕ) → apart (over p q) (rounded_half_up p q) ≤ apart (over p q) m
  rounded m =
      elim (cases_order (rounded_half_up p q) m) [
        | inl same ↦ rw same (omega arith)
        | inr other ↦ elim other [ inl more ↦ above m more | inr fewer ↦ below m fewer ]
      ]

  -- and of s and more none is nearer than it, or than s where that is more
  pub nearest : (s n : ℕ) → apart (over p q) (s + (rounded_half_up p q - s)) ≤ apart (over p q) (s + n)
  nearest s n =
      cases (leb s (rounded_half_up p q))
      (λ t.
      let few = leb-true s (rounded_half_up p q) t in
      let same : s + (rounded_half_up p q - s) ≡ rounded_half_up p q = omega (arith, few) in
      rw same (rounded (s + n)))
      (λ t.
      let many = leb-false s (rounded_half_up p q) t in
      let same : s + (rounded_half_up p q - s) ≡ s = omega (arith, many) in
      rw same (past s n many))
