-- The history of a list of calls, each made on the line that the one before handed back or left.
use Rattle.std.specs.Prelude.{List, [], ◌∷◌, ℕ, Ok, Err}
use Rattle.std.specs.Prelude.{None, Some}
use Rattle.tariff.specs.Tariffs.{is_endless}
use Rattle.descriptor.specs.Refusals.{refusal_number, ruling}
use Rattle.burst.specs.Bursts.{is_running}
use Rattle.line.specs.Lines.{make_of, made_or_blank, read_answer, commit_of, ask_of, hook_of, period_of, no_period_of}
use Rattle.line.specs.Lines.{audit_of, tick_of, on_of}
use Rattle.line.specs.declared.Line.{Line}
use Rattle.line.specs.Lines.{Verdict}
use Rattle.line.specs.declared.Answered.{Answered}
use Rattle.line.specs.declared.Asked.{Asked}
use Rattle.line.specs.declared.Audited.{Audited}
use Rattle.line.specs.declared.Ticked.{Ticked}
use Rattle.phase_lists.specs.Lists.{Lists}
use Rattle.grammar.specs.Meaning.{Reading, descriptor, reading_of}
use Rattle.demand.specs.Names.{Ruling, TariffPart, BurstPart}
use Rattle.demand.specs.Calls.{Call, describe, ask, hook, period, no_period, audit, tick}
use Rattle.demand.specs.Calls.{Answer, accepted, refused, asked, counters, ticked, Entry, causes}

-- a descriptor by its parts, and one as a text
abbrev pub parts : TariffPart → Lists → BurstPart → Call
parts t ls b = describe None (descriptor t ls b)

abbrev pub text : List ℕ → Call
text bytes = describe None (reading_of bytes)

-- a commit
abbrev pub commit : ℕ → Reading → Call
commit ticket d = describe (Some ticket) d

-- the number and the value of each case of a verdict
abbrev pub verdict_told : Verdict → Answer
verdict_told (Ok k) = accepted k
verdict_told (Err r) = refused (refusal_number r)

-- a call's answer and the line after it
pub data Outcome : Type 0 where
  outcome : (a : Answer) (l : Line) → Outcome

abbrev pub answered : Answered → Outcome
answered r = outcome (verdict_told r.verdict) r.line

abbrev pub ticketed : Asked → Outcome
ticketed r = outcome (asked (verdict_told r.verdict) r.ticket) r.line

abbrev pub audited : Audited → Outcome
audited r = outcome (counters r.cpc r.pcslr) r.line

abbrev pub moved : Ticked → Outcome
moved r = outcome (ticked r.tick) r.line

unfoldable pub step : Line → Call → Outcome
step l (describe None d) = answered (read_answer l d)
step l (describe (Some ticket) d) = answered (commit_of l ticket (read_answer l d))
step l (ask d) = ticketed (ask_of l (read_answer l d))
step l (hook event) = answered (hook_of l event)
step l (period rp) = answered (period_of l rp)
step l no_period = answered (no_period_of l)
step l audit = audited (audit_of l)
step l tick = moved (tick_of l)

-- what the table of refusals makes of a call on this line
abbrev pub ruling_of : Line → Call → Ruling
ruling_of l c = ruling (causes l.spacing (is_endless l.state.timed.tariff) (is_running l.state.burst) l.serial c)

-- the entry of a call that was answered a and left the line l
abbrev pub entry_for : Call → Answer → Line → Entry
entry_for c a l = record { call = c; answer = a; clock = l.state.clock; on = on_of l }

-- a history, newest first, and the line after it
pub data Past : Type 0 where
  past : (h : List Entry) (l : Line) → Past

abbrev pub noted : List Entry → Call → Outcome → Past
noted h c (outcome a l) = past (entry_for c a l ∷ h) l

abbrev pub after_call : Past → Call → Past
after_call (past h l) c = noted h c (step l c)

unfoldable pub after_calls : Past → List Call → Past
after_calls p [] = p
after_calls p (c ∷ cs) = after_calls (after_call p c) cs

abbrev pub entries : Past → List Entry
entries (past h l) = h

abbrev pub line_after : Past → Line
line_after (past h l) = l

-- from a line of pulse length D and gap G as it is made, or from a blank one where they are refused
unfoldable pub history : ℕ → ℕ → ℕ → List Call → List Entry
history D G clock cs = entries (after_calls (past [] (made_or_blank (make_of D G clock))) cs)
