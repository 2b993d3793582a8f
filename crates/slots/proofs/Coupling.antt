-- What runs and what the line keeps agree on the next tick, and still agree after it.
use mathlib.Core.Path.{◌≡◌, refl, sym, ◌∙◌, ap}
use mathlib.Core.Bool.{true, cond, false≢true}
use mathlib.Core.List.{List}
use Prim.Native.Nat.{ℕ, suc, ◌+◌, ◌≤◌}
use native.Mathlib.Omega.{arith}
use borrow.Table.Steps.{cases}
use Rattle.tariff.specs.Tariffs.{schedule_of, timed}
use Rattle.steps.specs.Steps.{due_of, step_of}
use Rattle.tariff.specs.declared.Phase.{Phase}
use Rattle.tariff.specs.declared.Tariff.{Tariff}
use Rattle.tariff.specs.declared.Tariff.TheVariants.{Idle, Endless, Counted, Phased, Ending}
use Rattle.slots.specs.Slots.{Running, nothing, slot_at, completes_at}
use Rattle.slots.proofs.Ahead.{Waits, Good}
use Rattle.slots.proofs.Agree.{Agree}
use Rattle.slots.proofs.Step.{by-step}
use Rattle.slots.proofs.Tick.{step-slot, step-slots, step_end, step-ends}
use Rattle.slots.proofs.Rate.{rate-tick}
use Rattle.slots.proofs.Fresh.{agree-idle}

-- a tariff that completes is over
due-over : (D : ℕ) (a : List Phase) (n : ℕ) (t : Tariff) → (due_of D (schedule_of a n) t).complete ≡ true → (due_of D (schedule_of a n) t).timed.tariff ≡ Idle
unfolding due_of
due-over D a n Idle e = refl
due-over D a n (Endless P) e = absurd (false≢true e)
due-over D a n (Counted m k) e = absurd (false≢true e)
due-over D a n (Phased q) e = absurd (false≢true e)
due-over D a n Ending e = refl

step-over : (D : ℕ) (a : List Phase) (n : ℕ) (t : Tariff) (w : ℕ)
    → (step_of D (schedule_of a n) (timed t w)).complete ≡ true → (step_of D (schedule_of a n) (timed t w)).timed.tariff ≡ Idle
step-over D a n t w =
    by-step D a n t w (λ s. s.complete ≡ true → s.timed.tariff ≡ Idle) (λ due. due-over D a n t) (λ more e. absurd (false≢true e))

module _ (S D : ℕ) (a : List Phase) (n : ℕ) (spaced : 1 ≤ S) (lasts : Waits D) (r : Running) (t : Tariff) (w i : ℕ)
    (g : Good S a n t w) (agree : Agree D a n r t w i) where
  -- the slot of the next tick
  pub agree-now : slot_at r (i + 1) ≡ (step_of D (schedule_of a n) (timed t w)).slot
  agree-now = agree.slots 1 (omega arith) ∙ step-slot S D a n spaced lasts t w g

  -- the completion at the next tick
  pub agree-complete : completes_at D r (i + 1) ≡ (step_of D (schedule_of a n) (timed t w)).complete
  agree-complete = agree.ends 1 (omega arith) ∙ step_end S D a n spaced lasts t w g

  pub runs_on : Agree D a n r (step_of D (schedule_of a n) (timed t w)).timed.tariff (step_of D (schedule_of a n) (timed t w)).timed.wait (i + 1)
  runs_on =
      record {
        slots =
            λ y l. ap (slot_at r) (omega arith) ∙ agree.slots (suc y) (omega arith)
            ∙ sym (step-slots S D a n spaced lasts t w g y l);
        ends =
            λ y l. ap (completes_at D r) (omega arith) ∙ agree.ends (suc y) (omega arith)
            ∙ sym (step-ends S D a n spaced lasts t w g y l);
        rate = rate-tick D a n S r t w i spaced g agree.rate;
      }

  -- what completes at the tick runs no longer
  pub agree-tick : Agree D a n (cond (completes_at D r (i + 1)) nothing r) (step_of D (schedule_of a n) (timed t w)).timed.tariff (step_of D (schedule_of a n) (timed t w)).timed.wait (i + 1)
  agree-tick =
      cases (completes_at D r (i + 1))
      (λ b. rw (b, step-over D a n t w (sym agree-complete ∙ b)) (agree-idle D a n _ (i + 1)))
      (λ b. rw b runs_on)
