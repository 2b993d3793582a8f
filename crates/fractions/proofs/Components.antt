-- The laws of a tariff's parameters.
use mathlib.Core.Path.{◌≡◌, sym}
use Prim.Native.Nat.{ℕ, ◌+◌, ◌*◌, ◌/◌, ◌%◌, min, ◌≤◌, ◌<◌}
use native.Mathlib.Nat.{mod-lt, mul-le-mul_left, div-lt_iff_lt-mul, mul-zero, div-eq_of_lt, div-eq_of_lt-le, div-add-mod'}
use native.Mathlib.Omega.{arith}
use Rattle.std.proofs.lemmas.Grind.{div_ceil_times}
use Rattle.fractions.specs.Rounding.{rounded_up}
use Rattle.fractions.specs.Components.{pcn_of, pcx_of, repx_of, repn_of}

-- the quotient, and one more where there is a rest, is the quotient rounded up
pub round_up : (a b : ℕ) → 0 < b → a / b + min 1 (a % b) ≡ rounded_up a b
round_up a b h = sym (div-eq_of_lt-le b (omega (arith, div_ceil_times a b h)) (omega (arith, div_ceil_times a b h)))

-- n times the fraction part, before it is divided by b
share_le : (a b n : ℕ) → 0 < b → n * (a % b) ≤ n * b
share_le a b n h = mul-le-mul_left n (omega (arith, mod-lt a h))

-- repx is at most n, so that repx and repn are n together
pub repx_le : (a b n : ℕ) → 0 < b → repx_of a b n ≤ n
repx_le a b n h =
    let below : repx_of a b n < n + 1 = (div-lt_iff_lt-mul {k = 2 * b} {x = 2 * (n * (a % b)) + b} {y = n + 1} (omega arith)).1 (omega (arith, share_le a b n h)) in
    omega arith

pub reps_sum : (a b n : ℕ) → 0 < b → repx_of a b n + repn_of a b n ≡ n
reps_sum a b n h = omega (arith, repx_le a b n h)

-- a whole a/b gives pcx = pcn
pub whole-pcx : (a b : ℕ) → 0 < b → a % b ≡ 0 → pcx_of a b ≡ pcn_of a b
whole-pcx a b h e = div-eq_of_lt-le b (omega (arith, div-add-mod' a b)) (omega (arith, div-add-mod' a b))

-- and repx = 0
pub whole-repx : (a b n : ℕ) → 0 < b → a % b ≡ 0 → repx_of a b n ≡ 0
whole-repx a b n h e = rw (e, mul-zero) (div-eq_of_lt (omega arith))
