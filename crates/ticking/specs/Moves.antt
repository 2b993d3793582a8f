-- One tick of a line: what the code computes.
use Rattle.std.specs.Prelude.{ℕ, ◌+◌, ◌%◌, ◌^◌, Bool, true, ◌&&◌, ◌||◌, nat_le, Option, None, Some}
use Rattle.std.specs.Option.{option_map}
use Rattle.answers.specs.Fronts.{if_front, if_burst}
use Rattle.answers.specs.declared.Front.{Front}
use Rattle.tariff.specs.Tariffs.{room_of}
use Rattle.tariff.specs.declared.Schedule.{Schedule}
use Rattle.tariff.specs.declared.Slot.{Slot}
use Rattle.steps.specs.Steps.{step_of}
use Rattle.burst.specs.Bursts.{held_more, aged_of, any_due, begun_of}
use Rattle.burst.specs.declared.Burst.{Burst}
use Rattle.state.specs.States.{count_by, ends_at}
use Rattle.state.specs.declared.State.{State}
use Rattle.state.specs.declared.Moved.{Moved}
use Rattle.ticking.specs.Rules.{front_at}

-- after a tick with this front or none: the ticks since the last front, and the burst
unfoldable pub since_front : Option Front → ℕ → ℕ
since_front f since = if_front f 0 since

unfoldable pub burst_after : Option Front → Option Burst → Option Burst
burst_after f b = if_burst f (option_map begun_of b) b

-- something happened: a slot, an empty one too, a front, a completion, or the end of a pulse
unfoldable pub happens : Option Slot → Option Front → Bool → Bool → Bool
happens s f complete ended = elim s [ None ↦ if_front f true (complete || ended) | Some slot ↦ true ]

-- the clock goes up; what is over ends; a slot due now, or else a burst pulse, begins; counters and report
unfoldable pub moved_by : ℕ → ℕ → Schedule → State → Moved
moved_by D S ps s =
    let t = step_of D ps s.timed in
    let b = aged_of D s.burst in
    let since = held_more S s.since in
    let may = any_due b.burst && (nat_le S since && room_of S t.timed) in
    let f = front_at t.slot may in
    let c = count_by f s.counters in
    record {
      state =
          record {
            timed = t.timed;
            clock = (s.clock + 1) % 2 ^ 32;
            since = since_front f since;
            burst = burst_after f b.burst;
            counters = c.counters;
          };
      tick = record { tariff = t.complete; burst = b.complete; front = f; report = c.report };
      event = happens t.slot f t.complete (ends_at D s.since since);
    }
