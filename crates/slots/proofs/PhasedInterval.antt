-- The slots of one charge interval of m pulses, q ticks apart.
use Rattle.std.specs.Prelude.{None, Some}
use mathlib.Core.Path.{◌≡◌, refl}
use mathlib.Core.Bool.{cond}
use Prim.Native.Nat.{ℕ, zero, suc, ◌*◌, max, ◌≤◌, ◌<◌}
use native.Mathlib.Decide.{dec_le}
use native.Mathlib.Nat.{mul-le-mul_right, zero-mul}
use native.Mathlib.Omega.{arith}
use borrow.Author.Tests.{eq-eqb, ne_eqb}
use lib.Dec.{eqb, eqb-suc-zero}
use Rattle.tariff.specs.declared.Slot.TheVariants.{Empty, Pulse}
use Rattle.slots.specs.Slots.{interval_slot}
use Rattle.slots.proofs.Any.{any_some, any_none}

-- slot j
pub interval-slot : (m q j : ℕ) → j < max 1 m → interval_slot m q (j * q) ≡ Some (cond (eqb m 0) Empty Pulse)
unfolding interval_slot
interval-slot zero q zero h = rw (eq-eqb (0 * q) 0 (zero-mul q))
interval-slot zero q (suc j) h = absurd (omega arith)
interval-slot (suc m) q j h =
    rw (any_some (suc m) (λ k. eqb (k * q) (j * q)) j (omega arith) (eq-eqb (j * q) (j * q) refl), eqb-suc-zero m)

-- nothing between slot j and the next one, nor past the last one
pub interval-none : (m q j z : ℕ) → j * q < z → (suc j < m → z < suc j * q) → interval_slot m q z ≡ None
unfolding interval_slot
interval-none zero q j z h next = rw (ne_eqb z 0 (λ e. absurd (omega arith)))
interval-none (suc m) q j z h next = rw (any_none (suc m) (λ k. eqb (k * q) z) (λ k less. ne_eqb (k * q) z (other k less (dec_le k j))))
  where
    other : (k : ℕ) → k < suc m → Dec (k ≤ j) → k * q ≡ z → ⊥
    other k less (yes before) e = absurd (omega (arith, mul-le-mul_right q before))
    other k less (no past) e =
        let after : suc j ≤ k = omega arith in
        absurd (omega (arith, mul-le-mul_right q after, next (omega arith)))
