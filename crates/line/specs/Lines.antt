-- What each command makes of a line and answers: what the code computes.
use Rattle.std.specs.Prelude.{Bool, if◌then◌else◌, List, ℕ, ◌+◌, max, length, Option, None, Some, Result, Ok, Err}
use Rattle.tariff.specs.Tariffs.{em_of, phased_of, is_endless, schedule_of, timed}
use Rattle.tariff.specs.declared.Em.{Em as OneEm}
use Rattle.tariff.specs.declared.Phase.{Phase}
use Rattle.tariff.specs.declared.Schedule.{Schedule}
use Rattle.tariff.specs.declared.Tariff.{Tariff}
use Rattle.tariff.specs.declared.Tariff.TheVariants.{Idle}
use Rattle.tariff.specs.declared.Timed.{Timed}
use Rattle.phase_lists.specs.Lists.{Lists, phases_of, lists_in}
use Rattle.phase_lists.specs.Tables.{no_phases, eight_of, schedule_in}
use Rattle.descriptor.specs.Refusals.{ruling, sound_configuration, descriptor_causes, period_causes, ticket_causes}
use Rattle.descriptor.specs.Rulings.{descriptor_ruling}
use Rattle.descriptor.specs.Cancelled.{cancelled_by}
use Rattle.descriptor.specs.Names.{Ruling}
use Rattle.descriptor.specs.declared.TariffPart.{TariffPart}
use Rattle.descriptor.specs.declared.TariffPart.TheVariants.{None as NoTariff, Keep as KeepTariff}
use Rattle.descriptor.specs.declared.TariffPart.TheVariants.{Rate, Em, Phased}
use Rattle.descriptor.specs.declared.BurstPart.{BurstPart}
use Rattle.descriptor.specs.declared.BurstPart.TheVariants.{None as NoBurst, Keep as KeepBurst, Start}
use Rattle.descriptor.specs.declared.Refusal.{Refusal}
use Rattle.descriptor.specs.declared.Refusal.TheVariants.{Configuration, Grammar, Content}
use Rattle.descriptor.specs.declared.Parts.{Parts as TheParts}
use Rattle.descriptor.specs.declared.Descriptor.{Descriptor}
use Rattle.descriptor.specs.declared.Descriptor.TheVariants.{Parts, Text}
use Rattle.descriptor.specs.declared.Hook.{Hook}
use Rattle.descriptor.specs.declared.Hook.TheVariants.{Keep, Stop}
use Rattle.grammar.specs.Meaning.{Reading, unreadable, senseless, descriptor, reading_of}
use Rattle.burst.specs.Bursts.{no_burst, start_of, is_running, burst_owed}
use Rattle.state.specs.Rules.{one_more}
use Rattle.state.specs.States.{zero_counters, with_tariff, with_burst, with_counters, stopped, with_rate}
use Rattle.state.specs.States.{origin_wait, is_on}
use Rattle.state.specs.declared.State.{State}
use Rattle.state.specs.declared.Moved.{Moved}
use Rattle.ticking.specs.Moves.{moved_by}
use Rattle.line.specs.declared.Line.{Line}
use Rattle.line.specs.declared.Answered.{Answered}
use Rattle.line.specs.declared.Asked.{Asked}
use Rattle.line.specs.declared.Audited.{Audited}
use Rattle.line.specs.declared.Ticked.{Ticked}

-- a call's answer: the burst pulses cancelled, or why it was turned down
abbrev pub Verdict : Type 0
Verdict = Result ℕ Refusal

-- ---- making a line

-- no tariff, burst or report period, and counters and serial 0
abbrev pub idle_line : ℕ → ℕ → ℕ → ℕ → Line
idle_line D S clock since =
    record {
      pulse = D;
      spacing = S;
      serial = 0;
      state =
          record {
            timed = timed Idle 0;
            clock = clock;
            since = since;
            burst = no_burst;
            counters = zero_counters None;
          };
      schedule = schedule_of no_phases 0;
    }

-- with no earlier front its rules ask nothing
unfoldable pub fresh_line : ℕ → ℕ → ℕ → Line
fresh_line D S clock = idle_line D S clock S

-- begins no pulse: 2S is above every interval that an em or a phase may have, and a burst pulse waits for S ticks
unfoldable pub blank_line : Line
blank_line = idle_line 0 4294967295 0 0

-- where the configuration is refused, no line is made
unfoldable pub make_of : ℕ → ℕ → ℕ → Result Line Refusal
make_of D G clock = if sound_configuration D G then Ok (fresh_line D (D + G) clock) else Err Configuration

-- the line that is made, or a blank one where none is
abbrev pub made_or_blank : Result Line Refusal → Line
made_or_blank (Ok l) = l
made_or_blank (Err r) = blank_line

-- what making a line is answered: no burst pulse is cancelled, or why it was turned down
abbrev pub making_verdict_of : Result Line Refusal → Verdict
making_verdict_of (Ok l) = Ok 0
making_verdict_of (Err r) = Err r

-- ---- accepted and refused commands

abbrev pub with_serial : Line → ℕ → Line
with_serial l n =
    record {
      pulse = l.pulse;
      spacing = l.spacing;
      serial = n;
      state = l.state;
      schedule = l.schedule;
    }

-- an accepted command adds 1 to the serial of the line that it leaves; k burst pulses are cancelled
abbrev pub accepting : Line → ℕ → Answered
accepting l k = record { line = with_serial l (one_more l.serial); verdict = Ok k }

-- a refused one leaves the line as it was
abbrev pub refusing : Line → Refusal → Answered
refusing l r = record { line = l; verdict = Err r }

-- by what the table of refusals makes of it
abbrev pub answered_by : Ruling → Line → Line → ℕ → Answered
answered_by (Ok tt) l changed k = accepting changed k
answered_by (Err r) l changed k = refusing l r

-- ---- descriptors and hook events

abbrev pub with_state : Line → State → Line
with_state l s =
    record {
      pulse = l.pulse;
      spacing = l.spacing;
      serial = l.serial;
      state = s;
      schedule = l.schedule;
    }

-- a fresh tariff, before its origin
abbrev pub fresh_of : Line → Tariff → Timed
fresh_of l t = timed t (origin_wait l.spacing l.state)

-- a fresh em zeroes the counters
abbrev pub with_em : Line → OneEm → Line
with_em l m =
    with_state l (with_tariff l.state (fresh_of l (em_of m.count m.period)) (zero_counters l.state.counters.rp))

-- the phases of a list, at the front of the eight
abbrev pub scheduled : List Phase → Schedule
scheduled ps = schedule_of (eight_of ps) (length ps)

abbrev pub with_schedule : Line → Schedule → Line
with_schedule l ps =
    record {
      pulse = l.pulse;
      spacing = l.spacing;
      serial = l.serial;
      state = with_tariff l.state (fresh_of l (phased_of ps.phases)) l.state.counters;
      schedule = ps;
    }

unfoldable pub tariff_changed : TariffPart → Schedule → Line → Line
tariff_changed NoTariff ps l = with_state l (stopped l.state)
tariff_changed KeepTariff ps l = l
tariff_changed (Rate P) ps l = with_state l (with_rate l.state P)
tariff_changed (Em m) ps l = with_em l m
tariff_changed Phased ps l = with_schedule l ps

unfoldable pub burst_changed : BurstPart → Line → Line
burst_changed NoBurst l = with_state l (with_burst l.state no_burst)
burst_changed KeepBurst l = l
burst_changed (Start n P) l = with_state l (with_burst l.state (Some (start_of n (max P l.spacing))))

unfoldable pub describe_of : Line → TariffPart → Lists → BurstPart → Answered
describe_of l t ls b =
    let s = l.state in
    answered_by (ruling (descriptor_causes l.spacing (is_endless s.timed.tariff) (is_running s.burst) t ls b)) l
    (burst_changed b (tariff_changed t (scheduled (phases_of ls)) l))
    (cancelled_by b (burst_owed s.burst))

-- the same with the phases in a table, as the code has them
abbrev pub described_by : Line → TheParts → Answered
described_by l d =
    let s = l.state in
    answered_by
    (descriptor_ruling l.spacing (is_endless s.timed.tariff) (is_running s.burst) d.tariff d.table d.burst)
    l
    (burst_changed d.burst (tariff_changed d.tariff (schedule_in d.table) l))
    (cancelled_by d.burst (burst_owed s.burst))

-- as a text: refused where it does not read, and then where it makes no sense; else as the descriptor that it reads as
abbrev pub read_answer : Line → Reading → Answered
read_answer l unreadable = refusing l Grammar
read_answer l senseless = refusing l Content
read_answer l (descriptor t ls b) = describe_of l t ls b

unfoldable pub describe_text_of : Line → List ℕ → Answered
describe_text_of l text = read_answer l (reading_of text)

-- what a descriptor means, by its parts or as a text
abbrev pub meant_by : Descriptor → Reading
meant_by (Parts t ls b) = descriptor t (lists_in ls) b
meant_by (Text text) = reading_of text.now

unfoldable pub hook_of : Line → Hook → Answered
hook_of l Keep = accepting l 0
hook_of l Stop = accepting (with_state l (with_burst (stopped l.state) no_burst)) (burst_owed l.state.burst)

-- ---- asking and committing

abbrev pub if_allowed : Ruling → Line → Answered → Answered
if_allowed (Ok tt) l given = given
if_allowed (Err r) l given = refusing l r

-- a commit is turned down for its ticket or for the serial, or gets what its descriptor is given without a ticket
unfoldable pub commit_of : Line → ℕ → Answered → Answered
commit_of l ticket given = if_allowed (ruling (ticket_causes ticket l.serial)) l given

-- asking tells what a commit with the serial would be answered; the ticket is the serial, and the line is as it was
unfoldable pub ask_of : Line → Answered → Asked
ask_of l given = record { line = l; verdict = (commit_of l l.serial given).verdict; ticket = l.serial }

-- ---- report period and audit

abbrev pub with_period : Line → Option ℕ → Line
with_period l rp =
    let n = l.state.counters in
    with_state l (with_counters l.state (record { cpc = n.cpc; pcslr = n.pcslr; rp = rp }))

unfoldable pub period_of : Line → ℕ → Answered
period_of l n = answered_by (ruling (period_causes n)) l (with_period l (Some n)) 0

unfoldable pub no_period_of : Line → Answered
no_period_of l = accepting (with_period l None) 0

unfoldable pub audit_of : Line → Audited
audit_of l = record { line = l; cpc = l.state.counters.cpc; pcslr = l.state.counters.pcslr }

-- ---- one tick

abbrev pub move_of : Line → Moved
move_of l = moved_by l.pulse l.spacing l.schedule l.state

unfoldable pub tick_of : Line → Ticked
tick_of l = record { line = with_state l (move_of l).state; tick = (move_of l).tick }

unfoldable pub on_of : Line → Bool
on_of l = is_on l.pulse l.state.since
