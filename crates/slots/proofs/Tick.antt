-- One tick of a good tariff: its slot, its completion, what is ahead of it afterwards, and the ticks to its next slot.
use mathlib.Core.Path.{◌≡◌}
use mathlib.Core.List.{List}
use Prim.Native.Nat.{ℕ, suc, ◌≤◌}
use Rattle.tariff.specs.Tariffs.{schedule_of, timed}
use Rattle.steps.specs.Steps.{step_of}
use Rattle.tariff.specs.declared.Phase.{Phase}
use Rattle.tariff.specs.declared.Tariff.{Tariff}
use Rattle.slots.proofs.Ahead.{Waits, Good, next_of, ahead, completes_in}
use Rattle.slots.proofs.Agree.{Next}
use Rattle.slots.proofs.Step.{by-step}
use Rattle.slots.proofs.Due.{due-slot, due-slots, due_end, due-ends, due-good, due-next}
use Rattle.slots.proofs.Wait.{wait-next, wait_slot, wait-slots, wait_end, wait-ends, wait-good}

module _ (S D : ℕ) (a : List Phase) (n : ℕ) (spaced : 1 ≤ S) (lasts : Waits D) (t : Tariff) (w : ℕ) (g : Good S a n t w) where
  -- the slot of the tick
  pub step-slot : ahead a n t w 1 ≡ (step_of D (schedule_of a n) (timed t w)).slot
  step-slot = by-step D a n t w (λ s. ahead a n t w 1 ≡ s.slot) (due-slot S D a n t w g) (wait_slot a n t w)

  -- the slots after it
  pub step-slots : (y : ℕ) → 1 ≤ y → ahead a n (step_of D (schedule_of a n) (timed t w)).timed.tariff (step_of D (schedule_of a n) (timed t w)).timed.wait y ≡ ahead a n t w (suc y)
  step-slots y l =
      by-step D a n t w (λ s. ahead a n s.timed.tariff s.timed.wait y ≡ ahead a n t w (suc y))
      (λ due. due-slots S D a n t w g due y l)
      (λ more. wait-slots a n t w more y)

  -- the completion at the tick
  pub step_end : completes_in a n D t w 1 ≡ (step_of D (schedule_of a n) (timed t w)).complete
  step_end =
      by-step D a n t w (λ s. completes_in a n D t w 1 ≡ s.complete)
      (due_end S D a n lasts.some t w g)
      (wait_end a n S D lasts.some t w g)

  -- the completion after it
  pub step-ends : (y : ℕ) → 1 ≤ y
      → completes_in a n D (step_of D (schedule_of a n) (timed t w)).timed.tariff (step_of D (schedule_of a n) (timed t w)).timed.wait y ≡ completes_in a n D t w (suc y)
  step-ends y l =
      by-step D a n t w (λ s. completes_in a n D s.timed.tariff s.timed.wait y ≡ completes_in a n D t w (suc y))
      (λ due. due-ends S D a n t w g due y l)
      (λ more. wait-ends a n D t w more y)

  -- the tariff after it is good
  pub good-step : Good S a n (step_of D (schedule_of a n) (timed t w)).timed.tariff (step_of D (schedule_of a n) (timed t w)).timed.wait
  good-step =
      by-step D a n t w (λ s. Good S a n s.timed.tariff s.timed.wait)
      (λ due. due-good S D a n spaced lasts t w g)
      (wait-good a n S t w g)

  -- the ticks to the next slot
  pub next-step : Next S (next_of t w) (next_of (step_of D (schedule_of a n) (timed t w)).timed.tariff (step_of D (schedule_of a n) (timed t w)).timed.wait) (step_of D (schedule_of a n) (timed t w)).slot
  next-step =
      by-step D a n t w (λ s. Next S (next_of t w) (next_of s.timed.tariff s.timed.wait) s.slot)
      (due-next S D a n spaced lasts t w g)
      (wait-next S t w)
