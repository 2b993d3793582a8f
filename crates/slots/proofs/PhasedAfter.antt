-- The ways in which a phased tariff goes on after a slot.
use mathlib.Core.Bool.{◌||◌}
use mathlib.Core.List.{List}
use Prim.Native.Nat.{ℕ, suc, ◌+◌, ◌-◌, ◌*◌, ◌≤◌, ◌<◌}
use native.Mathlib.Omega.{arith}
use borrow.Author.Tests.{ltb-true, ltb-false}
use borrow.Table.Steps.{cases}
use lib.Dec.{eqb, ltb}
use Rattle.tariff.specs.Tariffs.{phase_at, phase_start, position, schedule_of, timed}
use Rattle.steps.specs.Steps.{next_entry, after_phase, after_interval, after_phased}
use Rattle.tariff.specs.declared.Phase.{Phase}
use Rattle.tariff.specs.declared.Position.{Position}
use Rattle.tariff.specs.declared.Tariff.TheVariants.{Phased, Ending}
use Rattle.tariff.specs.declared.Timed.{Timed}

-- after the slot of a position in phase p, in an interval of m pulses: the next slot of the interval, the next interval
-- of the phase, the next phase, or none
pub data AfterSlot (a : List Phase) (n : ℕ) (q : Position) (p : Phase) (m : ℕ) : Timed → Type 0 where
  next-slot : suc q.slot < m → AfterSlot a n q p m (timed (Phased (position q.phase q.entry q.left (q.slot + 1))) p.pri)
  next-interval : m ≤ suc q.slot → (1 ≤ q.left → p.ci < q.left)
      → AfterSlot a n q p m
      (timed (Phased (position q.phase (next_entry p q.entry) (q.left - p.ci) 0)) (1000 * p.ci - q.slot * p.pri))
  next-phase : m ≤ suc q.slot → 1 ≤ q.left → q.left ≤ p.ci → q.phase + 1 < n
      → AfterSlot a n q p m
      (timed (Phased (phase_start (q.phase + 1) (phase_at a (q.phase + 1)))) (1000 * q.left - q.slot * p.pri))
  no-phase : m ≤ suc q.slot → 1 ≤ q.left → q.left ≤ p.ci → n ≤ q.phase + 1
      → AfterSlot a n q p m (timed Ending (1000 * q.left - q.slot * p.pri))

module _ (a : List Phase) (n : ℕ) (q : Position) (p : Phase) (m : ℕ) where
  last-interval : m ≤ suc q.slot → 1 ≤ q.left → q.left ≤ p.ci
      → AfterSlot a n q p m (after_phase (schedule_of a n) q.phase (1000 * q.left - q.slot * p.pri))
  unfolding after_phase
  last-interval last some short =
      cases (ltb (q.phase + 1) n)
      (λ t. rw t (next-phase last some short (ltb-true (q.phase + 1) n t)))
      (λ t. rw t (no-phase last some short (ltb-false (q.phase + 1) n t)))

  last-slot : m ≤ suc q.slot → AfterSlot a n q p m (after_interval (schedule_of a n) q p)
  unfolding after_interval
  last-slot last =
      cases (eqb q.left 0 || ltb p.ci q.left)
      (λ t. rw t (next-interval last (λ some. grind arith)))
      (λ t. rw t (last-interval last (grind arith) (grind arith)))

  pub after-slot : AfterSlot a n q p m (after_phased (schedule_of a n) q p m)
  unfolding after_phased
  after-slot =
      cases (ltb (q.slot + 1) m)
      (λ t. let s = ltb-true (q.slot + 1) m t in rw t (next-slot (omega arith)))
      (λ t. let s = ltb-false (q.slot + 1) m t in rw t (last-slot (omega arith)))
