-- The numbers that the paper holds: the counters and the ticks since the last pulse.
use Rattle.std.specs.Prelude.{ℕ, suc, min}

-- The counters' top.
abbrev pub top_count : ℕ
top_count = 4294967295

-- A count, held at 4,294,967,295.
abbrev pub held_count : ℕ → ℕ
held_count n = min n top_count

-- The top of the ticks since the last pulse.
abbrev pub top_ticks : ℕ
top_ticks = 1000000000

-- Ticks, held at 1,000,000,000.
abbrev pub held_ticks : ℕ → ℕ
held_ticks n = min n top_ticks

-- e: the ticks from the last pulse to this tick, held; `since` is what they were at the tick before.
abbrev pub elapsed : ℕ → ℕ
elapsed since = held_ticks (suc since)
