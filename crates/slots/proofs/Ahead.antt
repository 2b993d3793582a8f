-- What a tariff has ahead, by where it stands: its slots and its completion, y ticks from now.
use Rattle.std.specs.Prelude.{None, Option}
use mathlib.Core.Path.{◌≡◌}
use mathlib.Core.Bool.{Bool, true, false, cond, not, ◌&&◌, ◌||◌}
use mathlib.Core.List.{List}
use Prim.Native.Nat.{ℕ, ◌+◌, ◌-◌, ◌*◌, ◌/◌, ◌%◌, max, ◌≤◌, ◌<◌}
use lib.Dec.{ltb, eqb}
use lib.ListN.{take, length}
use Rattle.rules.specs.Rules.{sound_phases}
use Rattle.tariff.specs.Tariffs.{phase_at, slot_left}
use Rattle.steps.specs.Steps.{pulses_at}
use Rattle.tariff.specs.declared.Em.{Em}
use Rattle.tariff.specs.declared.Phase.{Phase}
use Rattle.tariff.specs.declared.Position.{Position}
use Rattle.tariff.specs.declared.Slot.{Slot}
use Rattle.tariff.specs.declared.Tariff.{Tariff}
use Rattle.tariff.specs.declared.Tariff.TheVariants.{Idle, Endless, Counted, Phased, Ending}
use Rattle.slots.specs.Slots.{endless_slot, counted_slot, interval_slot, interval_pulses, phased_slot, never_end, seconds}
use Rattle.slots.specs.Slots.{from}
use Rattle.tariff.proofs.PhasedList.{after}

-- the ticks to the next slot where the wait is w, 0 if none is left
abbrev pub next_of : Tariff → ℕ → ℕ
next_of t w = cond (slot_left t) w 0

-- x ticks after the start of a charge interval with map entry e, while its phase lasts
unfoldable pub phase_from : Phase → ℕ → ℕ → Option Slot
phase_from p e x = interval_slot (interval_pulses p (e + x / (1000 * p.ci))) p.pri (x % (1000 * p.ci))

-- the same where the phase has l seconds left from that start on, 0 if it is endless, and the phases ps follow
unfoldable pub phases_from : Phase → List Phase → ℕ → ℕ → ℕ → Option Slot
phases_from p ps e l x = cond (eqb l 0 || ltb x (1000 * l)) (phase_from p e x) (phased_slot ps (x - 1000 * l))

module _ (a : List Phase) (n : ℕ) where
  -- the slots of a tariff, in ticks from its next slot
  unfoldable pub slots_of : Tariff → ℕ → Option Slot
  slots_of Idle x = None
  slots_of (Endless P) x = endless_slot P x
  slots_of (Counted m k) x = counted_slot m.count m.period (x + k * m.period / m.count)
  slots_of (Phased q) x =
      phases_from (phase_at a q.phase) (after a n q.phase) q.entry q.left (x + q.slot * (phase_at a q.phase).pri)
  slots_of Ending x = None

  -- the slot y ticks from now
  abbrev pub ahead : Tariff → ℕ → ℕ → Option Slot
  ahead t w y = from (next_of t w) (slots_of t) y

  -- the tariff completes y ticks from now
  unfoldable pub completes_in : ℕ → Tariff → ℕ → ℕ → Bool
  completes_in D Idle w y = false
  completes_in D (Endless P) w y = false
  completes_in D (Counted m k) w y =
      eqb y (w + ((m.count - 1) * m.period / m.count - k * m.period / m.count) + D)
  completes_in D (Phased q) w y =
      let rest = after a n q.phase in
      not (eqb q.left 0 || never_end rest)
      && eqb y (w + (1000 * q.left - q.slot * (phase_at a q.phase).pri) + 1000 * seconds rest)
  completes_in D Ending w y = eqb y w

-- l seconds are left of a phase of pd seconds at the start of one of its intervals, 0 if it is endless
pub record Left (p : Phase) (l : ℕ) : Type 0 where
  pub most : l ≤ p.pd
  pub some : l ≡ 0 → p.pd ≡ 0
  pub short : l % p.ci ≡ p.pd % p.ci

pub record Waits (w : ℕ) : Type 0 where
  pub some : 1 ≤ w
  pub most : w ≤ 86400000

pub record EndlessGood (S P : ℕ) : Type 0 where
  pub far : 2 * S ≤ P
  pub most : P ≤ 86400000

pub record CountedGood (S : ℕ) (m : Em) (k : ℕ) : Type 0 where
  pub few : k < m.count
  pub count : m.count ≤ 65535
  pub far : 2 * S ≤ m.period / m.count
  pub most : m.period ≤ 86400000

pub record PhasedGood (S : ℕ) (a : List Phase) (n : ℕ) (q : Position) : Type 0 where
  pub few : q.phase < n
  pub eight : n ≤ 8
  pub whole : n ≤ length a
  pub sound : sound_phases S (take n a) ≡ true
  pub entry : q.entry < (phase_at a q.phase).repx + (phase_at a q.phase).repn
  pub left : Left (phase_at a q.phase) q.left
  pub pulse : q.slot < max 1 (pulses_at (phase_at a q.phase) q.entry)

-- what holds of a tariff that commands can produce, and of its wait, on a line of spacing S
abbrev pub Good : ℕ → List Phase → ℕ → Tariff → ℕ → Type 0
Good S a n Idle w = Unit {0}
Good S a n (Endless P) w = Waits w × EndlessGood S P
Good S a n (Counted m k) w = Waits w × CountedGood S m k
Good S a n (Phased q) w = Waits w × PhasedGood S a n q
Good S a n Ending w = Waits w
