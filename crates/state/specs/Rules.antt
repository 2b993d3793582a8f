-- Rules of the counters that the paper gives in a sentence each: counts and reports.
use Rattle.std.specs.Prelude.{ℕ, ◌+◌, min, Bool, false, nat_le, Option, None, Some}

-- counts are held at 4,294,967,295
abbrev pub one_more : ℕ → ℕ
one_more n = min (n + 1) 4294967295

-- a front that leaves pcslr at n gives a report if a period rp is set and n is at or above it
abbrev pub report_due : Option ℕ → ℕ → Bool
report_due None n = false
report_due (Some rp) n = nat_le rp n
