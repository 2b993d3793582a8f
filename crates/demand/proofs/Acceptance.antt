-- A call is accepted exactly when no cause to refuse it applies, and else gets the lowest number that applies. A commit
-- has causes of its own, which stand before those of its descriptor: what it is answered is in Tickets.
use Rattle.std.specs.Prelude.{None, Some}
use mathlib.Core.Path.{◌≡◌, refl}
use mathlib.Core.Bool.{Bool}
use mathlib.Core.List.{List, []}
use Prim.Native.Nat.{ℕ, ◌≤◌}
use native.Mathlib.Omega.{arith}
use Rattle.slots.specs.Slots.{runs_endless}
use Rattle.descriptor.specs.Refusals.{refusal_number, Cause, ruling}
use Rattle.descriptor.specs.declared.Refusal.{Refusal}
use Rattle.descriptor.specs.Cancelled.{cancelled_by}
use Rattle.descriptor.proofs.Table.{Applies, Ascending, none-applies, refused-applies, refused_lowest, descriptor_ascends, period_ascends}
use Rattle.grammar.specs.Meaning.{Reading, unreadable, senseless, descriptor}
use Rattle.demand.specs.Names.{Ruling, Ok, Err}
use Rattle.demand.specs.Calls.{Call, describe, ask, hook, period, no_period, audit, tick, Answer, accepted, refused, asked, counters, ticked, Entry, asks, reading_causes, causes}
use Rattle.demand.specs.History.{ticks, burst_in, owed, burst_runs, running}
use Rattle.demand.specs.Serials.{serial_in}
use Rattle.demand.specs.Answers.{ruling_after, answer_after}
use Rattle.demand.proofs.AnswerKinds.{ruled_answer}

-- every call but a commit: its causes stand in the order of their numbers
abbrev pub Ordered : Call → Type 0
Ordered (describe None d) = Unit {0}
Ordered (describe (Some ticket) d) = ⊥
Ordered (ask d) = Unit {0}
Ordered (hook event) = Unit {0}
Ordered (period rp) = Unit {0}
Ordered no_period = Unit {0}
Ordered audit = Unit {0}
Ordered tick = Unit {0}

reading_ascends : (S : ℕ) (e b : Bool) (d : Reading) → Ascending 0 (reading_causes S e b d)
reading_ascends S e b unreadable = (omega arith, tt)
reading_ascends S e b senseless = (omega arith, tt)
reading_ascends S e b (descriptor t ls p) = descriptor_ascends S e b t ls p

pub causes_ascend : (S : ℕ) (e b : Bool) (serial : ℕ) (c : Call) → Ordered c → Ascending 0 (causes S e b serial c)
causes_ascend S e b serial (describe None d) o = reading_ascends S e b d
causes_ascend S e b serial (describe (Some ticket) d) o = absurd o
causes_ascend S e b serial (ask d) o = tt
causes_ascend S e b serial (hook event) o = tt
causes_ascend S e b serial (period rp) o = period_ascends rp
causes_ascend S e b serial no_period o = tt
causes_ascend S e b serial audit o = tt
causes_ascend S e b serial tick o = tt

abbrev pub NoCause : List Cause → Type 0
NoCause cs = (r : Refusal) → Applies r cs → ⊥

-- n is the number of a cause that applies, and no larger than that of any that applies
pub record Lowest (n : ℕ) (cs : List Cause) : Type 0 where
  pub why : Refusal
  pub number : refusal_number why ≡ n
  pub applies : Applies why cs
  pub least : (q : Refusal) → Applies q cs → n ≤ refusal_number q

-- what an answer tells of the causes
abbrev pub Judged : List Cause → Answer → Type 0
Judged cs (accepted k) = NoCause cs
Judged cs (refused n) = Lowest n cs
Judged cs (asked would ticket) = NoCause cs
Judged cs (counters cpc pcslr) = NoCause cs
Judged cs (ticked t) = NoCause cs

ruled-judged : (cs : List Cause) (k : ℕ) → Ascending 0 cs → (u : Ruling) → ruling cs ≡ u → Judged cs (ruled_answer u k)
ruled-judged cs k a (Ok tt) e = none-applies cs e
ruled-judged cs k a (Err r) e =
    record { why = r; number = refl; applies = refused-applies cs r e; least = λ q. refused_lowest 0 cs r q a e }

module _ (D S : ℕ) (h : List Entry) where
  abbrev pub causes_after : Call → List Cause
  causes_after c = causes S (runs_endless (running D S h)) (burst_runs D (burst_in h) (ticks h)) (serial_in h) c

  command-judged : (c : Call) → Ordered c → Judged (causes_after c) (ruled_answer (ruling_after D S h c) (cancelled_by (asks c).burst (owed h)))
  command-judged c o = ruled-judged (causes_after c) _ (causes_ascend S (runs_endless (running D S h)) (burst_runs D (burst_in h) (ticks h)) (serial_in h) c o) (ruling_after D S h c) refl

  pub judged : (c : Call) → Ordered c → Judged (causes_after c) (answer_after D S h c)
  unfolding answer_after ruling
  judged (describe k d) o = command-judged (describe k d) o
  judged (ask d) o = none-applies [] refl
  judged (hook event) o = command-judged (hook event) o
  judged (period rp) o = command-judged (period rp) o
  judged no_period o = command-judged no_period o
  judged audit o = none-applies [] refl
  judged tick o = none-applies [] refl
