-- One tick of a tariff of any kind: its wait goes on, or it is over and what it waits for is due.
use Rattle.std.specs.Prelude.{None, Option}
use mathlib.Core.Path.{◌≡◌, refl, sym, ◌∙◌, ap}
use mathlib.Core.Bool.{false}
use mathlib.Core.List.{List}
use Prim.Native.Nat.{ℕ, suc, ◌-◌, ◌≤◌, ◌<◌}
use native.Mathlib.Omega.{arith}
use borrow.Table.Steps.{cases}
use borrow.Author.Tests.{ltb-true, ltb-false}
use lib.Dec.{ltb}
use Rattle.tariff.specs.Tariffs.{schedule_of, timed}
use Rattle.steps.specs.Steps.{stepped, due_of, step_of}
use Rattle.tariff.specs.declared.Phase.{Phase}
use Rattle.tariff.specs.declared.Slot.{Slot}
use Rattle.steps.specs.declared.Stepped.{Stepped}
use Rattle.tariff.specs.declared.Tariff.{Tariff}
use Rattle.tariff.specs.declared.Tariff.TheVariants.{Idle, Endless, Counted, Phased, Ending}
use Rattle.slots.specs.Slots.{from}
use Rattle.slots.proofs.From.{from_past, from-none}
use Rattle.slots.proofs.Ahead.{Waits, Good, next_of, slots_of, ahead}

-- what holds of both ways holds of the tick
pub by-step : (D : ℕ) (a : List Phase) (n : ℕ) (t : Tariff) (w : ℕ) (Q : Stepped → Type 0) → (w ≤ 1 → Q (due_of D (schedule_of a n) t))
    → (1 < w → Q (stepped (timed t (w - 1)) None false)) → Q (step_of D (schedule_of a n) (timed t w))
unfolding step_of
by-step D a n t w Q at-due at-wait =
    cases (ltb 1 w) (λ b. rw b (at-wait (ltb-true 1 w b))) (λ b. rw b (at-due (ltb-false 1 w b)))

-- the slots begin where the wait ends, whether or not one is left
pub ahead-is : (a : List Phase) (n : ℕ) (t : Tariff) (w y : ℕ) → ahead a n t w y ≡ from w (slots_of a n t) y
unfolding slots_of
ahead-is a n Idle w y = from-none (λ _. None) 0 y (λ x. refl) ∙ sym (from-none (λ _. None) w y (λ x. refl))
ahead-is a n (Endless P) w y = refl
ahead-is a n (Counted m k) w y = refl
ahead-is a n (Phased q) w y = refl
ahead-is a n Ending w y = from-none (λ _. None) 0 y (λ x. refl) ∙ sym (from-none (λ _. None) w y (λ x. refl))

-- no slot is left
pub none_left : (S : ℕ) (a : List Phase) (n : ℕ) (t : Tariff) (w : ℕ) → Good S a n t w → next_of t w ≡ 0 → (y : ℕ)
    → ahead a n t w y ≡ None
unfolding slots_of
none_left S a n Idle w g left y = from-none (λ _. None) 0 y (λ x. refl)
none_left S a n (Endless P) w g left y = absurd (omega (arith, g.0))
none_left S a n (Counted m k) w g left y = absurd (omega (arith, g.0))
none_left S a n (Phased q) w g left y = absurd (omega (arith, g.0))
none_left S a n Ending w g left y = from-none (λ _. None) 0 y (λ x. refl)

-- once the wait is over, the slots are those of its kind
begun : (slots : ℕ → Option Slot) (w y : ℕ) → Waits w → w ≤ 1 → from w slots (suc y) ≡ slots y
begun slots w y some due = from_past slots w (suc y) (omega arith) ∙ ap slots (omega arith)

pub past-due : (S : ℕ) (a : List Phase) (n : ℕ) (t : Tariff) (w : ℕ) → Good S a n t w → w ≤ 1 → (y : ℕ)
    → ahead a n t w (suc y) ≡ slots_of a n t y
unfolding slots_of
past-due S a n Idle w g due y = none_left S a n Idle w g refl (suc y)
past-due S a n (Endless P) w g due y = begun (slots_of a n (Endless P)) w y g.0 due
past-due S a n (Counted m k) w g due y = begun (slots_of a n (Counted m k)) w y g.0 due
past-due S a n (Phased q) w g due y = begun (slots_of a n (Phased q)) w y g.0 due
past-due S a n Ending w g due y = none_left S a n Ending w g refl (suc y)
