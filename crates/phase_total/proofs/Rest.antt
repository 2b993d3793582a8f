-- A fraction less a whole number, rounded half up.
use mathlib.Core.Path.{◌≡◌, ap, ◌∙◌}
use Prim.Native.Nat.{ℕ, ◌+◌, ◌-◌, ◌*◌, ◌≤◌, ◌<◌}
use native.Mathlib.Nat.{div-eq_of_lt-le, div-mul-le_self, lt-div-mul-add, mul-le-mul_right, add-mul}
use native.Mathlib.Omega.{arith}
use borrow.Author.Tests.{leb-true, leb-false}
use borrow.Table.Steps.{cases}
use lib.Dec.{leb}
use Rattle.fractions.specs.Rounding.{rounded_half_up}

-- what rounding half up leaves on each side
pub rounds : (p q : ℕ) → 0 < q
    → (2 * (rounded_half_up p q * q) ≤ 2 * p + q) × (2 * p + q < 2 * (rounded_half_up p q * q) + 2 * q)
rounds p q h =
    (omega (arith, div-mul-le_self (2 * p + q) (2 * q)), omega (arith, lt-div-mul-add {a = 2 * p + q} {b = 2 * q} (omega arith)))

-- to round first and take away then is the same
pub less_first : (p q n : ℕ) → 0 < q → rounded_half_up (p - n * q) q ≡ rounded_half_up p q - n
less_first p q n h =
    let r = rounded_half_up p q in
    cases (leb n r)
    (λ t.
    let some : n ≤ r = leb-true n r t in
    let k = r - n in
    let parts : r * q ≡ k * q + n * q = ap (λ (x : ℕ). x * q) (omega arith) ∙ add-mul k n q in
    div-eq_of_lt-le (2 * q) (omega (arith, parts, rounds p q h)) (omega (arith, parts, rounds p q h)))
    (λ t.
    let over : r < n = leb-false n r t in
    let none : r - n ≡ 0 = omega arith in
    rw none (div-eq_of_lt-le (2 * q) (omega arith) (omega (arith, rounds p q h, mul-le-mul_right q over))))
