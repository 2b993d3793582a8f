-- What the paper has each call answer, after a history.
use Rattle.std.specs.Prelude.{Bool, false, ◌&&◌, List, ℕ, ◌+◌, ◌-◌, min}
use Rattle.std.specs.Prelude.{Some}
use Rattle.demand.specs.Names.{Tick, Ruling, Ok, Err, cancelled_by, if_front, ruling, refusal_number}
use Rattle.demand.specs.Names.{one_more, report_due, front_at, slot_at, quiet_for, completes_at, runs_endless}
use Rattle.demand.specs.Calls.{Call, describe, ask, hook, period, no_period, audit, tick, asks, causes}
use Rattle.demand.specs.Calls.{Entry, Answer, accepted, refused, asked, counters, ticked}
use Rattle.demand.specs.History.{ticks, last_front, passed, burst_in, owed, burst_completes, burst_runs, burst_ready}
use Rattle.demand.specs.History.{running, fronts_since_em, since_report, period_in}
use Rattle.demand.specs.Serials.{serial_in}

-- pulses of D ticks, fronts at least S apart
module _ (D S : ℕ) (h : List Entry) where
  -- a burst pulse may start at tick now: one is owed, the distances have passed, and now + S is not past the next slot
  abbrev pub burst_may_start : ℕ → Bool
  burst_may_start now =
      burst_ready S (burst_in h) now && (passed S (last_front h) now && quiet_for (running D S h) now (S - 1))

  abbrev pub tick_after : ℕ → Tick
  tick_after now =
      let f = front_at (slot_at (running D S h) now) (burst_may_start now) in
      record {
        tariff = completes_at D (running D S h) now;
        burst = burst_completes D (burst_in h) now;
        front = f;
        report = if_front f (report_due (period_in h) (one_more (since_report h))) false;
      }

  -- what the table of refusals makes of a command
  abbrev pub ruling_after : Call → Ruling
  ruling_after c =
      ruling (causes S (runs_endless (running D S h)) (burst_runs D (burst_in h) (ticks h)) (serial_in h) c)

  -- the burst pulses cancelled, or the number of the refusal
  abbrev pub command_answer : Call → Answer
  command_answer c =
      elim (ruling_after c)
      [ Ok tt ↦ accepted (cancelled_by (asks c).burst (owed h)) | Err r ↦ refused (refusal_number r) ]

  -- asking answers what a commit with the serial would be answered, and the serial
  unfoldable pub answer_after : Call → Answer
  answer_after (describe ticket d) = command_answer (describe ticket d)
  answer_after (ask d) = asked (command_answer (describe (Some (serial_in h)) d)) (serial_in h)
  answer_after (hook event) = command_answer (hook event)
  answer_after (period rp) = command_answer (period rp)
  answer_after no_period = command_answer no_period
  answer_after audit = counters (min 4294967295 (fronts_since_em h)) (since_report h)
  answer_after tick = ticked (tick_after (ticks h + 1))
