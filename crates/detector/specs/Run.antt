-- A list of calls from a fresh detector: each gets the detector that the one before handed back.
use Rattle.std.specs.Prelude.{Bool, List, [], ◌∷◌}
use Rattle.detector.specs.declared.Detector.{Detector}
use Rattle.detector.specs.declared.request.Events.{Events}
use Rattle.detector.specs.State.{Outcome, fresh, request_of, tick_of, audit_of}
use Rattle.detector.specs.History.{Entry, asked, ticked, audited}

-- A call on a detector.
pub data Call : Type 0 where
  ask : (events : Events) → Call
  tick : (pulse : Bool) → Call
  audit : Call

-- What a call leaves: the detector, and the call with its answer.
abbrev pub call : Detector → Call → Outcome Entry
call d (ask events) =
    record { detector = (request_of d events).detector; answer = asked events (request_of d events).answer }
call d (tick pulse) = record { detector = (tick_of d pulse).detector; answer = ticked pulse (tick_of d pulse).answer }
call d audit =
    record { detector = (audit_of d).detector; answer = audited (audit_of d).lri (audit_of d).cpc (audit_of d).pcslr }

-- The calls so far with their answers, newest first, and the detector that they leave.
pub record Past : Type 0 where
  pub entries : List Entry
  pub detector : Detector

-- One call more.
abbrev pub next : Past → Call → Past
next p c = record { entries = (call p.detector c).answer ∷ p.entries; detector = (call p.detector c).detector }

-- More calls, oldest first.
unfoldable pub from : Past → List Call → Past
from p [] = p
from p (c ∷ cs) = from (next p c) cs

-- A list of calls from a fresh detector.
abbrev pub run : List Call → Past
run cs = from (record { entries = []; detector = fresh }) cs

-- The detector that the list leaves.
abbrev pub after : List Call → Detector
after cs = (run cs).detector

-- The list's history.
abbrev pub history : List Call → List Entry
history cs = (run cs).entries
