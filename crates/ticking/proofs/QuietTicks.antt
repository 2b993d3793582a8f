-- On a quiet line a tick only moves time on.
use Rattle.std.proofs.Common.{◌≡◌, ℕ, ◌-◌, ◌≤◌, Bool, true, false, ◌&&◌, ◌||◌, ltb, leb, Option, None, Some, refl, ap, arith, ltb-false}
use mathlib.Core.Bool.{and-eq-true_iff, false≢true}
use borrow.Author.Tests.{not-true}
use Rattle.std.proofs.lemmas.Bool.{eqb-true}
use borrow.Table.Steps.{cases}
use Rattle.answers.specs.Fronts.{silent}
use Rattle.std.specs.Option.{option_map}
use Rattle.tariff.specs.Tariffs.{room_of, is_idle, timed}
use Rattle.tariff.specs.declared.Timed.{Timed}
use Rattle.steps.specs.Steps.{stepped, due_of, step_of}
use Rattle.tariff.specs.declared.Schedule.{Schedule}
use Rattle.tariff.specs.declared.Tariff.{Tariff}
use Rattle.tariff.specs.declared.Tariff.TheVariants.{Idle, Endless, Counted, Phased, Ending}
use Rattle.burst.specs.Bursts.{held_more, older_of, completes_of, aged_of, is_due, any_due, rests, burst_quiet}
use Rattle.burst.specs.declared.Burst.{Burst}
use Rattle.state.specs.States.{ends_at, count_by, quiet_of, waited_of}
use Rattle.state.specs.declared.State.{State}
use Rattle.ticking.specs.Moves.{since_front, burst_after, happens, moved_by}

-- what the four parts of `quiet_of` say
record Quiet (D S : ℕ) (s : State) : Type 0 where
  waits : (ltb 1 s.timed.wait || is_idle s.timed.tariff) ≡ true
  runs : aged_of D s.burst ≡ record { burst = option_map older_of s.burst; complete = false }
  rests : (any_due (option_map older_of s.burst) && leb S (held_more S s.since)) ≡ false
  holds : ends_at D s.since (held_more S s.since) ≡ false

-- a burst that does not run is not complete
unrun : (D : ℕ) (b : Burst) → ltb 0 b.distance ≡ false → completes_of D b ≡ false
unfolding completes_of
unrun D b e = rw e

-- a burst that rests is not complete, and no pulse of it may start
resting : (D : ℕ) (passed : Bool) (b : Burst) → rests D passed b ≡ true →
    (completes_of D b ≡ false) × ((is_due (older_of b) && passed) ≡ false)
unfolding rests
resting D passed b h =
    cases (ltb 0 b.distance)
    (λ e. let both = (and-eq-true_iff _ _).0 (rw e at h) in (not-true (completes_of D b) both.0, not-true _ both.1))
    (λ e. let none-owed : b.owed ≡ 0 = eqb-true b.owed 0 (rw e at h) in (unrun D b e, rw none-owed))

-- the same of a burst or none that is quiet
burst-rests : (D : ℕ) (passed : Bool) (b : Option Burst) → burst_quiet D passed b ≡ true →
    (aged_of D b ≡ record { burst = option_map older_of b; complete = false }) × ((any_due (option_map older_of b) && passed) ≡ false)
unfolding burst_quiet aged_of
burst-rests D passed None h = (refl, refl)
burst-rests D passed (Some b) h = let both = resting D passed b h in (rw both.0, both.1)

quiet-parts : (D S : ℕ) (s : State) → quiet_of D S s ≡ true → Quiet D S s
unfolding quiet_of
quiet-parts D S s h =
    let a = (and-eq-true_iff _ _).0 h in
    let b = (and-eq-true_iff _ _).0 a.1 in
    let c = burst-rests D (leb S (held_more S s.since)) s.burst b.1 in
    record { waits = a.0; runs = c.0; rests = c.1; holds = not-true _ b.0 }

-- the tariff waits on, the burst runs on, and no burst pulse may start
module _ (D : ℕ) (ps : Schedule) where
  idle-waits : (t : Tariff) (w : ℕ) → w ≤ 1 → is_idle t ≡ true → due_of D ps t ≡ stepped (timed t (w - 1)) None false
  unfolding due_of
  idle-waits Idle w l h = ap (λ (x : ℕ). stepped (timed Idle x) None false) (omega arith)
  idle-waits (Endless P) w l h = absurd (false≢true h)
  idle-waits (Counted m k) w l h = absurd (false≢true h)
  idle-waits (Phased q) w l h = absurd (false≢true h)
  idle-waits Ending w l h = absurd (false≢true h)

  step_waits : (x : Timed) → (ltb 1 x.wait || is_idle x.tariff) ≡ true
      → step_of D ps x ≡ stepped (timed x.tariff (x.wait - 1)) None false
  unfolding step_of
  step_waits x h = cases (ltb 1 x.wait) (λ e. rw e) (λ e. rw e (idle-waits x.tariff x.wait (ltb-false 1 x.wait e) (rw e at h)))

no_more : (a b c : Bool) → (a && b) ≡ false → (a && (b && c)) ≡ false
no_more true true true h = h
no_more true true false h = refl
no_more true false c h = refl
no_more false b c h = refl

module _ (D S : ℕ) (ps : Schedule) (s : State) where
  pub quiet_moves : quiet_of D S s ≡ true → moved_by D S ps s ≡ record { state = waited_of S s; tick = silent; event = false }
  unfolding moved_by waited_of count_by since_front burst_after happens
  quiet_moves h =
      let q : Quiet D S s = quiet-parts D S s h in
      let still = no_more (any_due (option_map older_of s.burst)) (leb S (held_more S s.since)) (room_of S (timed s.timed.tariff (s.timed.wait - 1))) q.rests in
      rw (step_waits D ps s.timed q.waits, q.runs, still, q.holds)
