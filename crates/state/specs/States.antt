-- What the code makes of the state of a line: its parts, its counters, and a tick at which nothing happens.
use Rattle.std.specs.Prelude.{ℕ, ◌+◌, ◌-◌, ◌%◌, ◌^◌, max, Bool, true, false, if◌then◌else◌, not, ◌&&◌, ◌||◌, nat_le}
use Rattle.std.specs.Prelude.{nat_lt}
use Rattle.std.specs.Prelude.{Option}
use Rattle.std.specs.Option.{option_map}
use Rattle.answers.specs.Fronts.{if_front}
use Rattle.answers.specs.declared.Front.{Front}
use Rattle.tariff.specs.Tariffs.{rate_of, is_idle, timed}
use Rattle.tariff.specs.declared.Tariff.TheVariants.{Idle}
use Rattle.tariff.specs.declared.Timed.{Timed}
use Rattle.burst.specs.Bursts.{held_more, older_of, burst_quiet}
use Rattle.burst.specs.declared.Burst.{Burst}
use Rattle.state.specs.Rules.{one_more, report_due}
use Rattle.state.specs.declared.Counters.{Counters}
use Rattle.state.specs.declared.Count.{Count}
use Rattle.state.specs.declared.State.{State}

-- ---- its parts

-- another tariff, and these counters
abbrev pub with_tariff : State → Timed → Counters → State
with_tariff s x n = record { timed = x; clock = s.clock; since = s.since; burst = s.burst; counters = n }

abbrev pub with_burst : State → Option Burst → State
with_burst s b = record { timed = s.timed; clock = s.clock; since = s.since; burst = b; counters = s.counters }

abbrev pub with_counters : State → Counters → State
with_counters s n = with_tariff s s.timed n

-- no tariff runs
abbrev pub stopped : State → State
stopped s = with_tariff s (timed Idle 0) s.counters

-- a rate: the next slot stays
abbrev pub with_rate : State → ℕ → State
with_rate s P = with_tariff s (timed (rate_of P s.timed.tariff) s.timed.wait) s.counters

-- the ticks to the origin of a fresh tariff
abbrev pub origin_wait : ℕ → State → ℕ
origin_wait S s = max 1 (S - s.since)

-- ---- the counters

abbrev pub zero_counters : Option ℕ → Counters
zero_counters rp = record { cpc = 0; pcslr = 0; rp = rp }

-- a front adds 1 to both counters, and may give a report
unfoldable pub count_of : Counters → Count
count_of n =
    if report_due n.rp (one_more n.pcslr)
    then record { counters = record { cpc = one_more n.cpc; pcslr = 0; rp = n.rp }; report = true }
    else record { counters = record { cpc = one_more n.cpc; pcslr = one_more n.pcslr; rp = n.rp }; report = false }

-- after a tick with this front or none
unfoldable pub count_by : Option Front → Counters → Count
count_by f n = if_front f (count_of n) (record { counters = n; report = false })

-- ---- a tick

-- a pulse is on: fewer than D ticks since the last front
abbrev pub is_on : ℕ → ℕ → Bool
is_on D since = nat_lt since D

-- a pulse that was on is over
abbrev pub ends_at : ℕ → ℕ → ℕ → Bool
ends_at D before now = is_on D before && not (is_on D now)

-- nothing is due, nothing ends and no burst pulse may start
unfoldable pub quiet_of : ℕ → ℕ → State → Bool
quiet_of D S s =
    let since = held_more S s.since in
    (nat_lt 1 s.timed.wait || is_idle s.timed.tariff)
    && (not (ends_at D s.since since) && burst_quiet D (nat_le S since) s.burst)

-- a quiet tick changes these numbers alone
unfoldable pub waited_of : ℕ → State → State
waited_of S s =
    record {
      timed = timed s.timed.tariff (s.timed.wait - 1);
      clock = (s.clock + 1) % 2 ^ 32;
      since = held_more S s.since;
      burst = option_map older_of s.burst;
      counters = s.counters;
    }
