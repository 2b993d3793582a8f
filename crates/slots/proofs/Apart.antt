-- The slots ahead of a good tariff are at least 2S apart.
use Rattle.std.specs.Prelude.{None, Option}
use mathlib.Core.Path.{◌≡◌, refl, sym, ◌∙◌}
use mathlib.Core.List.{List}
use mathlib.Core.Logic.{◌≢◌}
use Prim.Native.Nat.{ℕ, zero, suc, ◌+◌, ◌-◌, ◌*◌, ◌≤◌, ◌<◌}
use native.Mathlib.Omega.{arith}
use Rattle.tariff.specs.Tariffs.{schedule_of, timed}
use Rattle.steps.specs.Steps.{step_of}
use Rattle.tariff.specs.declared.Phase.{Phase}
use Rattle.tariff.specs.declared.Slot.{Slot}
use Rattle.tariff.specs.declared.Tariff.{Tariff}
use Rattle.slots.specs.Slots.{from}
use Rattle.slots.proofs.From.{from_past, from-begun}
use Rattle.slots.proofs.Ahead.{Waits, Good, next_of, slots_of, ahead}
use Rattle.slots.proofs.Agree.{Next, waits, empty, pulse}
use Rattle.slots.proofs.Step.{none_left, past-due}
use Rattle.slots.proofs.Tick.{step-slot, step-slots, good-step, next-step}

-- after a slot the next one is 2S away or more
next-far : {S v v' : ℕ} {s : Option Slot} → Next S v v' s → s ≢ None → v' ≢ 0 → 2 * S ≤ v'
next-far (waits p q) some = absurd (some refl)
next-far (empty p far) some = far
next-far (pulse p far) some = far

module _ (S : ℕ) (a : List Phase) (n : ℕ) (spaced : 1 ≤ S) where
  -- slots do not depend on how long a pulse lasts: take one tick
  one-tick : Waits 1
  one-tick = omega arith

  ahead_apart : (x y : ℕ) (t : Tariff) (w : ℕ) → Good S a n t w → ahead a n t w (suc x) ≢ None
      → ahead a n t w (suc y) ≢ None → x < y → x + 2 * S ≤ y
  ahead_apart zero y t w g first second l = omega (arith, far, from-begun (slots_of a n t') (next_of t' w') y later)
    where
      t' : Tariff
      t' = (step_of 1 (schedule_of a n) (timed t w)).timed.tariff

      w' : ℕ
      w' = (step_of 1 (schedule_of a n) (timed t w)).timed.wait

      later : ahead a n t' w' y ≢ None
      later e = second (sym (step-slots S 1 a n spaced one-tick t w g y l) ∙ e)

      far : 2 * S ≤ next_of t' w'
      far =
          next-far (next-step S 1 a n spaced one-tick t w g)
          (λ e. first (step-slot S 1 a n spaced one-tick t w g ∙ e))
          (λ left. later (none_left S a n t' w' (good-step S 1 a n spaced one-tick t w g) left y))
  ahead_apart (suc x) zero t w g first second l = absurd (omega arith)
  ahead_apart (suc x) (suc y) t w g first second l =
      let on = step-slots S 1 a n spaced one-tick t w g in
      omega (
        arith,
        ahead_apart x y (step_of 1 (schedule_of a n) (timed t w)).timed.tariff (step_of 1 (schedule_of a n) (timed t w)).timed.wait (good-step S 1 a n spaced one-tick t w g)
            (λ e. first (sym (on (suc x) (omega arith)) ∙ e))
            (λ e. second (sym (on (suc y) (omega arith)) ∙ e))
            (omega arith),
      )

  -- and so are slots that begin at f, where they are those of a good tariff
  pub from-apart : (g : ℕ → Option Slot) (s : Tariff) → Good S a n s 1 → ((x : ℕ) → slots_of a n s x ≡ g x)
      → (f t u : ℕ) → from f g t ≢ None → from f g u ≢ None → t < u → t + 2 * S ≤ u
  from-apart g s good same f t u first second l =
      let begun = from-begun g f t first in
      let at : (x : ℕ) → g x ≡ ahead a n s 1 (suc x) = λ x. sym (past-due S a n s 1 good (omega arith) x ∙ same x) in
      omega (
        arith,
        ahead_apart (t - f) (u - f) s 1 good
            (λ e. first (from_past g f t begun ∙ at (t - f) ∙ e))
            (λ e. second (from_past g f u (omega arith) ∙ at (u - f) ∙ e))
            (omega arith),
      )
