-- The rate of an em with C = 0: what runs and what the line keeps agree on it, a tick on and after a change.
use mathlib.Core.Path.{◌≡◌, refl, sym, ◌∙◌}
use mathlib.Core.Bool.{true, false, true≢false}
use mathlib.Core.List.{List}
use Prim.Native.Nat.{ℕ, ◌+◌, ◌≤◌}
use native.Mathlib.Omega.{arith}
use borrow.Table.Steps.{cases}
use lib.Dec.{ltb}
use Rattle.tariff.specs.Tariffs.{phase_at, schedule_of, em_of, rate_of, is_endless, timed}
use Rattle.steps.specs.Steps.{pulses_at, after_counted, due_of, step_of}
use Rattle.tariff.specs.declared.Em.{Em}
use Rattle.tariff.specs.declared.Phase.{Phase}
use Rattle.tariff.specs.declared.Position.{Position}
use Rattle.tariff.specs.declared.Tariff.{Tariff}
use Rattle.tariff.specs.declared.Tariff.TheVariants.{Idle, Endless, Counted, Phased, Ending}
use Rattle.tariff.specs.declared.Timed.{Timed}
use Rattle.slots.specs.Slots.{Running, runs_endless, rated}
use Rattle.slots.proofs.Ahead.{Good}
use Rattle.slots.proofs.Agree.{Agree, SameRate, steady, other}
use Rattle.slots.proofs.Endless.{first-waits, first-due}
use Rattle.slots.proofs.PhasedAfter.{AfterSlot, next-slot, next-interval, next-phase, no-phase, after-slot}
use Rattle.slots.proofs.Step.{by-step}
use Rattle.slots.proofs.Fresh.{agree-em}

-- no other kind turns into an em with C = 0
counted-other : (D : ℕ) (m : Em) (k : ℕ) → is_endless (after_counted D m k).tariff ≡ false
unfolding after_counted
counted-other D m k = cases (ltb (k + 1) m.count) (λ b. rw b) (λ b. rw b)

phased-other : {a : List Phase} {n m : ℕ} {q : Position} {p : Phase} {x : Timed} → AfterSlot a n q p m x
    → is_endless x.tariff ≡ false
phased-other (next-slot more) = refl
phased-other (next-interval last more) = refl
phased-other (next-phase last some short further) = refl
phased-other (no-phase last some short end) = refl

module _ (D : ℕ) (a : List Phase) (n : ℕ) where
  due-other : (t : Tariff) → is_endless t ≡ false → is_endless (due_of D (schedule_of a n) t).timed.tariff ≡ false
  unfolding due_of
  due-other Idle o = refl
  due-other (Endless P) o = o
  due-other (Counted m k) o = counted-other D m k
  due-other (Phased q) o = phased-other (after-slot a n q (phase_at a q.phase) (pulses_at (phase_at a q.phase) q.entry))
  due-other Ending o = refl

  -- a tick on
  pub rate-tick : (S : ℕ) (r : Running) (t : Tariff) (w i : ℕ) → 1 ≤ S → Good S a n t w → SameRate i r t w
      → SameRate (i + 1) r (step_of D (schedule_of a n) (timed t w)).timed.tariff (step_of D (schedule_of a n) (timed t w)).timed.wait
  unfolding due_of
  rate-tick S r t w i spaced g (steady {f = f} {P = P} e) =
      by-step D a n (Endless P) w (λ s. SameRate (i + 1) r s.timed.tariff s.timed.wait)
      (λ due. steady (first-due f P i (omega (arith, g.1.far)) (e ∙ omega (arith, g.0))))
      (λ more. steady (first-waits f P i w more e ∙ omega arith))
  rate-tick S r t w i spaced g (other p q) =
      by-step D a n t w (λ s. SameRate (i + 1) r s.timed.tariff s.timed.wait) (λ due. other p (due-other t q)) (λ more. other p q)

  -- after a change
  rate-changes : (S : ℕ) (r : Running) (t : Tariff) (w i P : ℕ) → Good S a n t w → SameRate i r t w → is_endless t ≡ true
      → Agree D a n (rated r i P) (rate_of P t) w i
  unfolding rated em_of rate_of
  rate-changes S r t w i P g (steady e) runs = rw e (agree-em D a n 0 P i w g.0.some)
  rate-changes S r t w i P g (other p q) runs = absurd (true≢false (sym runs ∙ q))

  pub agree-rate : (S : ℕ) (r : Running) (t : Tariff) (w i : ℕ) → Good S a n t w → Agree D a n r t w i → is_endless t ≡ true
      → (P : ℕ) → Agree D a n (rated r i P) (rate_of P t) w i
  agree-rate S r t w i g agree runs P = rate-changes S r t w i P g agree.rate runs

-- an em with C = 0 runs exactly where the line keeps one
runs_alike : (r : Running) (t : Tariff) (w i : ℕ) → SameRate i r t w → runs_endless r ≡ is_endless t
runs_alike r t w i (steady e) = refl
runs_alike r t w i (other p q) = p ∙ sym q

pub rate-runs : (D : ℕ) (a : List Phase) (n : ℕ) (r : Running) (t : Tariff) (w i : ℕ) → Agree D a n r t w i
    → runs_endless r ≡ is_endless t
rate-runs D a n r t w i agree = runs_alike r t w i agree.rate
