-- A descriptor, with a ticket or without: what it is answered, and the line after it, by its ruling.
use Rattle.std.specs.Prelude.{None, Some, Option}
use mathlib.Core.Path.{◌≡◌, refl, sym, ap, ◌∙◌}
use mathlib.Core.Bool.{Bool}
use Prim.Native.Nat.{ℕ}
use native.Mathlib.Omega.{arith}
use Rattle.tariff.specs.Tariffs.{is_endless}
use Rattle.phase_lists.specs.Lists.{phases_of}
use Rattle.descriptor.specs.Refusals.{ruling, ticket_causes}
use Rattle.descriptor.specs.Rulings.{and_then}
use Rattle.descriptor.specs.Cancelled.{cancelled_by}
use Rattle.burst.specs.Bursts.{is_running, burst_owed}
use Rattle.line.specs.Lines.{describe_of, read_answer, commit_of, answered_by, if_allowed, scheduled, tariff_changed, burst_changed}
use Rattle.line.specs.declared.Line.{Line}
use Rattle.line.specs.declared.Answered.{Answered}
use Rattle.grammar.specs.Meaning.{Reading, unreadable, senseless, descriptor}
use Rattle.demand.specs.Names.{Ruling, Ok, Err}
use Rattle.demand.specs.Calls.{describe, asks, reading_causes, causes}
use Rattle.demand.specs.Machine.{ruling_of, answered, step}
use Rattle.descriptor.proofs.Causes.{none_after, ruling_append}

-- the line that an accepted descriptor leaves, but for its serial
abbrev pub change_of : Reading → Line → Line
change_of unreadable l = l
change_of senseless l = l
change_of (descriptor t ls b) l = burst_changed b (tariff_changed t (scheduled (phases_of ls)) l)

-- the burst pulses that it cancels
abbrev pub cancels : Reading → Line → ℕ
cancels d l = cancelled_by (asks (describe None d)).burst (burst_owed l.state.burst)

abbrev pub described_by : Ruling → Reading → Line → Answered
described_by u d l = answered_by u l (change_of d l) (cancels d l)

read_is : (l : Line) (d : Reading) → read_answer l d ≡ described_by (ruling_of l (describe None d)) d l
unfolding describe_of ruling
read_is l unreadable = refl
read_is l senseless = refl
read_is l (descriptor t ls b) = refl

-- causes that stand before those of the descriptor
first-ruled : (u v : Ruling) (d : Reading) (l : Line) → if_allowed u l (described_by v d l) ≡ described_by (and_then u v) d l
first-ruled (Ok tt) v d l = refl
first-ruled (Err r) v d l = refl

pub describe-step : (l : Line) (k : Option ℕ) (d : Reading) → step l (describe k d) ≡ answered (described_by (ruling_of l (describe k d)) d l)
unfolding step commit_of
describe-step l None d = ap answered (read_is l d)
describe-step l (Some ticket) d =
    let own = reading_causes l.spacing (is_endless l.state.timed.tariff) (is_running l.state.burst) d in
    let first = ticket_causes ticket l.serial in
    ap answered
    (ap (if_allowed (ruling first) l) (read_is l d)
    ∙ first-ruled (ruling first) (ruling own) d l
    ∙ ap (λ (u : Ruling). described_by u d l) (sym (ruling_append first own)))

-- a commit that is allowed is allowed without its ticket
pub allowed-reading : (S : ℕ) (e b : Bool) (serial : ℕ) (k : Option ℕ) (d : Reading) → ruling (causes S e b serial (describe k d)) ≡ Ok tt → ruling (reading_causes S e b d) ≡ Ok tt
allowed-reading S e b serial None d h = h
allowed-reading S e b serial (Some ticket) d h = (none_after (ticket_causes ticket serial) (reading_causes S e b d) h).1

-- and reads, and makes sense
pub unreadable-refused : (S : ℕ) (e b : Bool) (serial : ℕ) (k : Option ℕ) → ruling (causes S e b serial (describe k unreadable)) ≡ Ok tt → ⊥
unfolding ruling
unreadable-refused S e b serial k h =
    let no = allowed-reading S e b serial k unreadable h in let o : ◌≡◌ {A = ℕ} 0 1 = cc in omega arith

pub senseless-refused : (S : ℕ) (e b : Bool) (serial : ℕ) (k : Option ℕ) → ruling (causes S e b serial (describe k senseless)) ≡ Ok tt → ⊥
unfolding ruling
senseless-refused S e b serial k h =
    let no = allowed-reading S e b serial k senseless h in let o : ◌≡◌ {A = ℕ} 0 1 = cc in omega arith
