-- The starred examples of the paper hold.
use Rattle.std.specs.Prelude.{Option, Some, None}
use mathlib.Core.Path.{◌≡◌, refl, ◌∙◌}
use mathlib.Core.Bool.{cond}
use Prim.Native.Nat.{ℕ, zero, suc, ◌+◌, ◌*◌}
use native.Mathlib.Omega.{arith}
use Rattle.pulse_map.specs.Map.{map_of, x_groups, n_groups}
use Rattle.pulse_map.specs.Pulses.{pulses_in}
use Rattle.rules.specs.Rules.{sound_em, distance_of, sound_phase}
use Rattle.slots.specs.Slots.{any_below, counted_slot, phase_slot}
use Rattle.descriptor.specs.Refusals.{ruling}
use Rattle.slots.proofs.Count.{count_below}
use Rattle.slots.proofs.PhasePulses.{is_pulse, phase-pulses}
use Rattle.demand.specs.Names.{Slot, Empty, Pulse}
use Rattle.demand.specs.Answers.{answer_after}
use Rattle.demand.specs.Examples.{pulses_below, three_minutes, examples, AllStarred}

one-counted : (m : ℕ) (s : Option Slot) → m + elim s [ None ↦ 0 | Some Empty ↦ 0 | Some Pulse ↦ 1 ] ≡ m + cond (is_pulse s) 1 0
one-counted m None = refl
one-counted m (Some Empty) = refl
one-counted m (Some Pulse) = refl

pulses-counted : (slot : ℕ → Option Slot) (n : ℕ) → pulses_below slot n ≡ count_below n (λ k. is_pulse (slot k))
unfolding pulses_below count_below
pulses-counted slot zero = refl
pulses-counted slot (suc n) = rw (pulses-counted slot n) (one-counted (count_below n (λ k. is_pulse (slot k))) (slot n))

nineteen : pulses_below (phase_slot three_minutes) (1000 * 180) ≡ 19
unfolding sound_phase pulses_in map_of x_groups n_groups
nineteen = pulses-counted (phase_slot three_minutes) (1000 * 180) ∙ phase-pulses 100 three_minutes (omega arith) refl

pub examples_hold : AllStarred examples
unfolding map_of x_groups n_groups any_below counted_slot sound_em distance_of ruling answer_after
examples_hold = (refl, (refl, (refl, (refl, (refl, (refl, (refl, (refl, (refl, (nineteen, (refl, (refl, tt))))))))))))
