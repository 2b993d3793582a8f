-- A tick at which what a tariff waits for is due: its slot, or its completion where no slot is left.
use mathlib.Core.Path.{◌≡◌, refl, sym, ◌∙◌}
use mathlib.Core.List.{List}
use Prim.Native.Nat.{ℕ, suc, ◌*◌, ◌/◌, ◌≤◌}
use native.Mathlib.Nat.{zero-add}
use native.Mathlib.Omega.{arith}
use borrow.Table.Steps.{cases}
use borrow.Author.Tests.{eq-eqb, ne_eqb}
use lib.Dec.{eqb}
use Rattle.tariff.specs.Tariffs.{phase_at, schedule_of}
use Rattle.steps.specs.Steps.{pulses_at, due_of}
use Rattle.tariff.specs.declared.Phase.{Phase}
use Rattle.tariff.specs.declared.Tariff.{Tariff}
use Rattle.tariff.specs.declared.Tariff.TheVariants.{Idle, Endless, Counted, Phased, Ending}
use Rattle.slots.proofs.Ahead.{Waits, Good, next_of, slots_of, ahead, completes_in}
use Rattle.slots.proofs.Agree.{Next, waits, empty, pulse}
use Rattle.slots.proofs.Endless.{endless-zero, endless-rest}
use Rattle.slots.proofs.Counted.{counted-pulse, counted-rest, counted-ends, counted_open, counted-good, counted-far}
use Rattle.slots.proofs.PhasedAfter.{after-slot}
use Rattle.slots.proofs.PhasedRest.{rest-after}
use Rattle.slots.proofs.PhasedKept.{good-after, far-after}
use Rattle.slots.proofs.PhasedEnds.{ends-after, open_before}
use Rattle.slots.proofs.Phased.{phased-zero}
use Rattle.slots.proofs.Step.{none_left, past-due}

module _ (S D : ℕ) (a : List Phase) (n : ℕ) where
  -- the first slot ahead is the one that it waits for
  pub first_slot : (t : Tariff) (w : ℕ) → Good S a n t w → slots_of a n t 0 ≡ (due_of D (schedule_of a n) t).slot
  unfolding slots_of due_of
  first_slot Idle w g = refl
  first_slot (Endless P) w g = endless-zero P
  first_slot (Counted m k) w g = rw (zero-add (k * m.period / m.count)) (counted-pulse m.count m.period k g.1.few)
  first_slot (Phased q) w g = phased-zero S a n q g.1
  first_slot Ending w g = refl

  pub due-slot : (t : Tariff) (w : ℕ) → Good S a n t w → w ≤ 1 → ahead a n t w 1 ≡ (due_of D (schedule_of a n) t).slot
  due-slot t w g due = past-due S a n t w g due 0 ∙ first_slot t w g

  -- the slots after it
  due-rest : (t : Tariff) (w : ℕ) → Good S a n t w → (y : ℕ) → 1 ≤ y
      → ahead a n (due_of D (schedule_of a n) t).timed.tariff (due_of D (schedule_of a n) t).timed.wait y ≡ slots_of a n t y
  unfolding slots_of due_of
  due-rest Idle w g y l = none_left S a n Idle 0 tt refl y
  due-rest (Endless P) w g y l = endless-rest P y l
  due-rest (Counted m k) w g y l = counted-rest D a n m k g.1.few y l
  due-rest (Phased q) w g y l = rest-after S a n q g.1 y l (after-slot a n q _ _)
  due-rest Ending w g y l = none_left S a n Idle 0 tt refl y

  pub due-slots : (t : Tariff) (w : ℕ) → Good S a n t w → w ≤ 1 → (y : ℕ) → 1 ≤ y
      → ahead a n (due_of D (schedule_of a n) t).timed.tariff (due_of D (schedule_of a n) t).timed.wait y ≡ ahead a n t w (suc y)
  due-slots t w g due y l = due-rest t w g y l ∙ sym (past-due S a n t w g due y)

  pub due-ends : (t : Tariff) (w : ℕ) → Good S a n t w → w ≤ 1 → (y : ℕ) → 1 ≤ y
      → completes_in a n D (due_of D (schedule_of a n) t).timed.tariff (due_of D (schedule_of a n) t).timed.wait y ≡ completes_in a n D t w (suc y)
  unfolding completes_in due_of
  due-ends Idle w g due y l = refl
  due-ends (Endless P) w g due y l = refl
  due-ends (Counted m k) w g due y l =
      let one : w ≡ 1 = omega (arith, g.0) in
      rw one (counted-ends D a n m k g.1.few y)
  due-ends (Phased q) w g due y l =
      let one : w ≡ 1 = omega (arith, g.0) in
      rw one (ends-after S a n q D g.1 y (after-slot a n q _ _))
  due-ends Ending w g due y l = sym (ne_eqb (suc y) w (λ e. omega arith))

  pub due_end : 1 ≤ D → (t : Tariff) (w : ℕ) → Good S a n t w → w ≤ 1 → completes_in a n D t w 1 ≡ (due_of D (schedule_of a n) t).complete
  unfolding completes_in due_of
  due_end lasts Idle w g due = refl
  due_end lasts (Endless P) w g due = refl
  due_end lasts (Counted m k) w g due = counted_open D a n m k w 1 lasts g.0.some
  due_end lasts (Phased q) w g due = open_before S a n q D g.1 1 w g.0.some
  due_end lasts Ending w g due = eq-eqb 1 w (omega arith)

  module _ (spaced : 1 ≤ S) (lasts : Waits D) where
    pub due-good : (t : Tariff) (w : ℕ) → Good S a n t w → Good S a n (due_of D (schedule_of a n) t).timed.tariff (due_of D (schedule_of a n) t).timed.wait
    unfolding due_of
    due-good Idle w g = tt
    due-good (Endless P) w g = omega (arith, g.1)
    due-good (Counted m k) w g = counted-good D a n m k g.1.few S spaced g.1.far lasts g.1.count g.1.most
    due-good (Phased q) w g = good-after S a n q spaced g.1 (after-slot a n q _ _)
    due-good Ending w g = tt

    pub due-next : (t : Tariff) (w : ℕ) → Good S a n t w → w ≤ 1
        → Next S (next_of t w) (next_of (due_of D (schedule_of a n) t).timed.tariff (due_of D (schedule_of a n) t).timed.wait) (due_of D (schedule_of a n) t).slot
    unfolding due_of
    due-next Idle w g due = waits (λ e. omega arith) refl
    due-next (Endless P) w g due = pulse (omega (arith, g.0)) (λ left. g.1.far)
    due-next (Counted m k) w g due =
        pulse (omega (arith, g.0)) (counted-far D a n m k g.1.few S spaced g.1.far)
    due-next (Phased q) w g due =
        let one : w ≡ 1 = omega (arith, g.0) in
        let far = far-after S a n q spaced g.1 (after-slot a n q _ _) in
        cases (eqb (pulses_at (phase_at a q.phase) q.entry) 0) (λ b. rw b (empty one far)) (λ b. rw b (pulse one far))
    due-next Ending w g due = waits (λ e. omega arith) refl
