-- A tariff one tick on: what the code computes.
use Rattle.std.specs.Prelude.{Bool, true, false, if◌then◌else◌, ◌||◌, ℕ, ◌+◌, ◌-◌, ◌*◌, ◌/◌, nat_lt, ◌==◌, Option}
use Rattle.std.specs.Prelude.{None, Some}
use Rattle.fractions.specs.Answers.{Result, refused, given}
use Rattle.pulse_map.specs.Pulses.{pulses_of}
use Rattle.pulse_map.specs.Map.{Entry}
use Rattle.pulse_map.specs.Answers.{element_answer}
use Rattle.tariff.specs.Tariffs.{phase_at, position, phase_start, timed}
use Rattle.tariff.specs.declared.Em.{Em}
use Rattle.tariff.specs.declared.Phase.{Phase}
use Rattle.tariff.specs.declared.Position.{Position}
use Rattle.tariff.specs.declared.Schedule.{Schedule}
use Rattle.tariff.specs.declared.Slot.{Slot}
use Rattle.tariff.specs.declared.Slot.TheVariants.{Empty, Pulse}
use Rattle.tariff.specs.declared.Tariff.{Tariff}
use Rattle.tariff.specs.declared.Tariff.TheVariants.{Idle, Endless, Counted, Phased, Ending}
use Rattle.tariff.specs.declared.Timed.{Timed}
use Rattle.steps.specs.declared.Stepped.{Stepped}

-- the pulses of a charge interval with map entry e; none where the map has no such entry
abbrev pub pulses_by : ℕ → ℕ → Result Entry → ℕ
pulses_by pcx pcn (refused number) = 0
pulses_by pcx pcn (given entry) = pulses_of pcx pcn entry

unfoldable pub pulses_at : Phase → ℕ → ℕ
pulses_at p e = pulses_by p.pcx p.pcn (element_answer p.repx p.repn e)

-- the map repeats
unfoldable pub next_entry : Phase → ℕ → ℕ
next_entry p e = if nat_lt (e + 1) (p.repx + p.repn) then e + 1 else 0

-- the ticks from slot k of an em with C > 0 to slot k + 1
unfoldable pub distance_after : ℕ → ℕ → ℕ → ℕ
distance_after C P k = (k + 1) * P / C - k * P / C

abbrev pub stepped : Timed → Option Slot → Bool → Stepped
stepped x s done = record { timed = x; slot = s; complete = done }

-- after slot k of an em with C > 0, whose last pulse ends D ticks later
unfoldable pub after_counted : ℕ → Em → ℕ → Timed
after_counted D m k =
    if nat_lt (k + 1) m.count then timed (Counted m (k + 1)) (distance_after m.count m.period k)
    else timed Ending D

-- after the last interval of phase i, which ends w ticks after its last slot: the next phase, if there is one
unfoldable pub after_phase : Schedule → ℕ → ℕ → Timed
after_phase ps i w =
    if nat_lt (i + 1) ps.count then timed (Phased (phase_start (i + 1) (phase_at ps.phases (i + 1)))) w
    else timed Ending w

-- after the last slot of an interval of a phase, which is p: the next interval of the phase, if there is one
unfoldable pub after_interval : Schedule → Position → Phase → Timed
after_interval ps q p =
    if q.left == 0 || nat_lt p.ci q.left
    then timed (Phased (position q.phase (next_entry p q.entry) (q.left - p.ci) 0)) (1000 * p.ci - q.slot * p.pri)
    else after_phase ps q.phase (1000 * q.left - q.slot * p.pri)

-- after a slot of an interval of m pulses
unfoldable pub after_phased : Schedule → Position → Phase → ℕ → Timed
after_phased ps q p m =
    if nat_lt (q.slot + 1) m then timed (Phased (position q.phase q.entry q.left (q.slot + 1))) p.pri
    else after_interval ps q p

-- what is due when the wait is over: a slot, or the completion
unfoldable pub due_of : ℕ → Schedule → Tariff → Stepped
due_of D ps Idle = stepped (timed Idle 0) None false
due_of D ps (Endless P) = stepped (timed (Endless P) P) (Some Pulse) false
due_of D ps (Counted m k) = stepped (after_counted D m k) (Some Pulse) false
due_of D ps (Phased q) =
    let m = pulses_at (phase_at ps.phases q.phase) q.entry in
    stepped (after_phased ps q (phase_at ps.phases q.phase) m) (Some (if m == 0 then Empty else Pulse)) false
due_of D ps Ending = stepped (timed Idle 0) None true

-- one tick: one less to wait, or what is due
unfoldable pub step_of : ℕ → Schedule → Timed → Stepped
step_of D ps x = if nat_lt 1 x.wait then stepped (timed x.tariff (x.wait - 1)) None false else due_of D ps x.tariff
