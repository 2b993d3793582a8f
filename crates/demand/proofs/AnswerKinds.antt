-- The kinds of answer: to a command, to asking, to an audit and to a tick.
use mathlib.Core.Path.{◌≡◌, refl, sym, ap}
use mathlib.Core.Bool.{false}
use mathlib.Core.List.{List}
use Prim.Native.Nat.{ℕ, ◌+◌}
use Rattle.descriptor.specs.Cancelled.{cancelled_by}
use Rattle.descriptor.specs.Refusals.{refusal_number}
use Rattle.grammar.specs.Meaning.{unreadable, senseless, descriptor}
use Rattle.demand.specs.Names.{KeepHook, Stop, Ruling, Ok, Err}
use Rattle.demand.specs.Calls.{Call, describe, ask, hook, period, no_period, audit, tick, Answer, accepted, refused, asked, counters, ticked, Entry, asks}
use Rattle.demand.specs.History.{ticks, owed, since_report}
use Rattle.demand.specs.Answers.{ruling_after, command_answer, tick_after, answer_after}
use Rattle.demand.proofs.Counters.{total}

-- the burst pulses cancelled, or the number of the refusal
abbrev pub ruled_answer : Ruling → ℕ → Answer
ruled_answer u k = elim u [ Ok tt ↦ accepted k | Err r ↦ refused (refusal_number r) ]

module _ (D S : ℕ) (h : List Entry) where
  pub ruled : (c : Call) {u : Ruling} → ruling_after D S h c ≡ u → ruled_answer u (cancelled_by (asks c).burst (owed h)) ≡ command_answer D S h c
  ruled c e = ap (λ (u : Ruling). ruled_answer u (cancelled_by (asks c).burst (owed h))) (sym e)

  pub data Kind (c : Call) : Answer → Type 0 where
    to_command : (u : Ruling) → ruling_after D S h c ≡ u → (asks c).tick ≡ false → Kind c (ruled_answer u (cancelled_by (asks c).burst (owed h)))
    to_ask : {would : Answer} {ticket : ℕ} → asks c ≡ asks audit → Kind c (asked would ticket)
    to_audit : asks c ≡ asks audit → Kind c (counters (total h) (since_report h))
    to_tick : asks c ≡ asks tick → Kind c (ticked (tick_after D S h (ticks h + 1)))

  kind-after : (c : Call) → Kind c (answer_after D S h c)
  unfolding answer_after
  kind-after (describe k unreadable) = to_command (ruling_after D S h (describe k unreadable)) refl refl
  kind-after (describe k senseless) = to_command (ruling_after D S h (describe k senseless)) refl refl
  kind-after (describe k (descriptor t ls b)) = to_command (ruling_after D S h (describe k (descriptor t ls b))) refl refl
  kind-after (ask d) = to_ask refl
  kind-after (hook KeepHook) = to_command (ruling_after D S h (hook KeepHook)) refl refl
  kind-after (hook Stop) = to_command (ruling_after D S h (hook Stop)) refl refl
  kind-after (period rp) = to_command (ruling_after D S h (period rp)) refl refl
  kind-after no_period = to_command (ruling_after D S h no_period) refl refl
  kind-after audit = to_audit refl
  kind-after tick = to_tick refl

  pub kind : (c : Call) {a : Answer} → a ≡ answer_after D S h c → Kind c a
  kind c e = rw e (kind-after c)
