-- A tick at which a tariff waits on: all that is ahead of it comes one tick nearer.
use Rattle.std.specs.Prelude.{None}
use mathlib.Core.Path.{◌≡◌, refl, sym, ◌∙◌, ap}
use mathlib.Core.Bool.{Bool, false, not, ◌&&◌, ◌||◌}
use mathlib.Core.List.{List}
use Prim.Native.Nat.{ℕ, suc, ◌-◌, ◌≤◌, ◌<◌}
use native.Mathlib.Omega.{arith}
use borrow.Table.Steps.{cases}
use borrow.Author.Tests.{ne_eqb}
use lib.Dec.{eqb}
use Rattle.tariff.specs.Tariffs.{slot_left}
use Rattle.tariff.specs.declared.Phase.{Phase}
use Rattle.tariff.specs.declared.Tariff.{Tariff}
use Rattle.tariff.specs.declared.Tariff.TheVariants.{Idle, Endless, Counted, Phased, Ending}
use Rattle.slots.specs.Slots.{never_end}
use Rattle.tariff.proofs.PhasedList.{after}
use Rattle.slots.proofs.From.{from-before, from-same}
use Rattle.slots.proofs.Ahead.{Waits, Good, next_of, slots_of, ahead, completes_in}
use Rattle.slots.proofs.Agree.{Next, waits}
use Rattle.slots.proofs.Counted.{counted_open}
use Rattle.slots.proofs.PhasedEnds.{open_before}
use Rattle.slots.proofs.Step.{ahead-is}

pub wait-next : (S : ℕ) (t : Tariff) (w : ℕ) → 1 < w → Next S (next_of t w) (next_of t (w - 1)) None
wait-next S t w more =
    cases (slot_left t) (λ b. rw b (waits (λ e. omega arith) refl)) (λ b. rw b (waits (λ e. omega arith) refl))

nearer : (w : ℕ) → Waits w → 1 < w → Waits (w - 1)
nearer w l more = omega arith

module _ (a : List Phase) (n : ℕ) where
  pub wait_slot : (t : Tariff) (w : ℕ) → 1 < w → ahead a n t w 1 ≡ None
  wait_slot t w more = ahead-is a n t w 1 ∙ from-before (slots_of a n t) w 1 more

  pub wait-slots : (t : Tariff) (w : ℕ) → 1 < w → (y : ℕ) → ahead a n t (w - 1) y ≡ ahead a n t w (suc y)
  wait-slots t w more y =
      ahead-is a n t (w - 1) y
      ∙ from-same (slots_of a n t) (slots_of a n t) (w - 1) y w (suc y) (λ x. refl) (omega arith)
      ∙ sym (ahead-is a n t w (suc y))

  pub wait-ends : (D : ℕ) (t : Tariff) (w : ℕ) → 1 < w → (y : ℕ) → completes_in a n D t (w - 1) y ≡ completes_in a n D t w (suc y)
  unfolding completes_in
  wait-ends D Idle w more y = refl
  wait-ends D (Endless P) w more y = refl
  wait-ends D (Counted m k) w more y = grind arith
  wait-ends D (Phased q) w more y =
      ap (λ (b : Bool). not (eqb q.left 0 || never_end (after a n q.phase)) && b) (grind arith)
  wait-ends D Ending w more y = grind arith

  module _ (S : ℕ) where
    pub wait-good : (t : Tariff) (w : ℕ) → Good S a n t w → 1 < w → Good S a n t (w - 1)
    wait-good Idle w g more = tt
    wait-good (Endless P) w g more = (nearer w g.0 more, g.1)
    wait-good (Counted m k) w g more = (nearer w g.0 more, g.1)
    wait-good (Phased q) w g more = (nearer w g.0 more, g.1)
    wait-good Ending w g more = nearer w g more

    pub wait_end : (D : ℕ) → 1 ≤ D → (t : Tariff) (w : ℕ) → Good S a n t w → 1 < w → completes_in a n D t w 1 ≡ false
    unfolding completes_in
    wait_end D lasts Idle w g more = refl
    wait_end D lasts (Endless P) w g more = refl
    wait_end D lasts (Counted m k) w g more = counted_open D a n m k w 1 lasts (omega arith)
    wait_end D lasts (Phased q) w g more = open_before S a n q D g.1 1 w (omega arith)
    wait_end D lasts Ending w g more = ne_eqb 1 w (λ e. omega arith)
