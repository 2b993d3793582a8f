-- A phase has the pulses of its charge intervals, and a short last interval is charged in full.
use Rattle.std.specs.Prelude.{None, Option, Some}
use mathlib.Core.Path.{◌≡◌, refl, sym, ◌∙◌, ap}
use mathlib.Core.Bool.{Bool, true, false, cond}
use mathlib.Core.Logic.{◌⊎◌, inl, inr}
use Prim.Native.Nat.{ℕ, zero, suc, ◌+◌, ◌-◌, ◌*◌, ◌/◌, ◌%◌, max, ◌≤◌, ◌<◌}
use native.Mathlib.Nat.{mul-zero, mul-suc, add-zero, mul-le-mul_right, le-max_left}
use native.Mathlib.Nat.{div-add-mod, div-eq_of_lt, mod-eq_of_lt, mul-add-div, mul-add-mod_self_left, mod-lt}
use native.Mathlib.Omega.{arith}
use borrow.Table.Steps.{cases}
use lib.Dec.{eqb}
use Rattle.pulse_map.specs.Pulses.{pulses_in}
use Rattle.fractions.specs.Rounding.{rounded_up}
use Rattle.rules.specs.Rules.{sound_phase}
use Rattle.tariff.specs.declared.Phase.{Phase}
use Rattle.tariff.specs.declared.Slot.{Slot}
use Rattle.tariff.specs.declared.Slot.TheVariants.{Empty, Pulse}
use Rattle.slots.specs.Slots.{any_below, interval_slot, interval_pulses, phase_slot}
use Rattle.slots.proofs.Count.{count_below, count-more, count_same, count_multiples}
use Rattle.slots.proofs.PhasedSound.{SoundPhase, sound-phase}
use Rattle.slots.proofs.PhasedEntry.{pulses-most}

abbrev pub is_pulse : Option Slot → Bool
is_pulse None = false
is_pulse (Some Empty) = false
is_pulse (Some Pulse) = true

-- ---- one interval

interval-pulse : (m q z : ℕ) → is_pulse (interval_slot m q z) ≡ any_below m (λ j. eqb (j * q) z)
unfolding interval_slot any_below
interval-pulse zero q z = cases (eqb z 0) (λ t. rw t) (λ t. rw t)
interval-pulse (suc m) q z = of (any_below (suc m) (λ j. eqb (j * q) z))
  where
    of : (b : Bool) → is_pulse (cond b (Some Pulse) None) ≡ b
    of true = refl
    of false = refl

interval-at : (p : Phase) (k z : ℕ) → z < 1000 * p.ci → phase_slot p (1000 * p.ci * k + z) ≡ interval_slot (interval_pulses p k) p.pri z
unfolding phase_slot
interval-at p k z h =
    rw (
      mul-add-div {m = 1000 * p.ci} (omega arith) k z,
      mul-add-mod_self_left (1000 * p.ci) k z,
      div-eq_of_lt h,
      mod-eq_of_lt h,
      add-zero k,
    )

-- ---- all intervals

-- the pulses of the first x ticks of a phase
abbrev pub pulses_before : Phase → ℕ → ℕ
pulses_before p x = count_below x (λ k. is_pulse (phase_slot p k))

-- the intervals of a phase of whole intervals, and of one with a short last interval
up-whole : (k c : ℕ) → 1 ≤ c → rounded_up (c * k) c ≡ k
up-whole k c some = rw (mul-add-div {m = c} some k (c - 1), div-eq_of_lt {n = c - 1} {m = c} (omega arith), add-zero k)

up-short : (k c r : ℕ) → 1 ≤ r → r < c → rounded_up (c * k + r) c ≡ suc k
up-short k c r some less =
    let sum : c * k + r + (c - 1) ≡ c * suc k + (r - 1) = omega arith in
    rw (sum, mul-add-div {m = c} (omega arith) (suc k) (r - 1), div-eq_of_lt {n = r - 1} {m = c} (omega arith), add-zero (suc k))

module _ (S : ℕ) (p : Phase) (spaced : 1 ≤ S) (sound : SoundPhase S p) where
  -- the pulses of k intervals
  abbrev charged : ℕ → ℕ
  charged k = pulses_in p.pcx p.repx p.pcn p.repn k

  -- k whole intervals, and an interval of which `ticks` ticks are counted
  one_more_lem : (k ticks : ℕ) → ticks ≤ 1000 * p.ci → max 1 p.pcx * p.pri ≤ ticks
      → pulses_before p (1000 * p.ci * k + ticks) ≡ pulses_before p (1000 * p.ci * k) + interval_pulses p k
  one_more_lem k ticks short room =
      let m = interval_pulses p k in
      let most : m ≤ max 1 p.pcx = omega (arith, pulses-most p k sound.fewer) in
      rw (
        count-more (1000 * p.ci * k) ticks (λ x. is_pulse (phase_slot p x)),
        count_same ticks (λ z. is_pulse (phase_slot p (1000 * p.ci * k + z))) (λ z. any_below m (λ j. eqb (j * p.pri) z))
            (λ z h. ap is_pulse (interval-at p k z (omega arith)) ∙ interval-pulse m p.pri z),
        count_multiples m p.pri ticks (omega (arith, sound.far)) (omega (arith, mul-le-mul_right p.pri most)),
      )

  -- k whole intervals
  whole-intervals : (k : ℕ) → pulses_before p (1000 * p.ci * k) ≡ charged k
  unfolding pulses_in count_below interval_pulses
  whole-intervals zero = rw (mul-zero (1000 * p.ci))
  whole-intervals (suc k) =
      rw (mul-suc (1000 * p.ci) k, one_more_lem k (1000 * p.ci) (omega arith) sound.room, whole-intervals k)

  -- k whole intervals and a short one
  short-interval : (k r : ℕ) → r < p.ci → max 1 p.pcx * p.pri ≤ 1000 * r
      → pulses_before p (1000 * p.ci * k + 1000 * r) ≡ charged (suc k)
  unfolding pulses_in interval_pulses
  short-interval k r less room = rw (one_more_lem k (1000 * r) (omega arith) room, whole-intervals k)

  by_remainder : (p.pd % p.ci ≡ 0) ⊎ (max 1 p.pcx * p.pri ≤ 1000 * (p.pd % p.ci))
      → pulses_before p (1000 * p.pd) ≡ charged (rounded_up p.pd p.ci)
  by_remainder (inl none) =
      let k = p.pd / p.ci in
      let whole : p.pd ≡ p.ci * k = omega (arith, div-add-mod p.pd p.ci) in
      ap (pulses_before p) (omega arith)
      ∙ whole-intervals k
      ∙ ap charged (sym (ap (λ s. rounded_up s p.ci) whole ∙ up-whole k p.ci sound.second))
  by_remainder (inr room) =
      let k = p.pd / p.ci in
      let r = p.pd % p.ci in
      let short : p.pd ≡ p.ci * k + r = omega (arith, div-add-mod p.pd p.ci) in
      let less = mod-lt p.pd {m = p.ci} sound.second in
      let some : 1 ≤ r = omega (arith, sound.far, mul-le-mul_right p.pri (le-max_left 1 p.pcx)) in
      ap (pulses_before p) (omega arith)
      ∙ short-interval k r less room
      ∙ ap charged (sym (ap (λ s. rounded_up s p.ci) short ∙ up-short k p.ci r some less))

-- the ticks of a phase of pd seconds with a pulse are the pulses of its intervals, pd/ci rounded up
pub phase-pulses : (S : ℕ) (p : Phase) → 1 ≤ S → sound_phase S p ≡ true
    → pulses_before p (1000 * p.pd) ≡ pulses_in p.pcx p.repx p.pcn p.repn (rounded_up p.pd p.ci)
phase-pulses S p spaced sound = let s = sound-phase S p sound in by_remainder S p spaced s s.short
