-- The pulses of a phase's charge intervals: its map repeats.
use Rattle.std.specs.Prelude.{ℕ, zero, suc, ◌+◌, ◌%◌, get_or}
use Rattle.pulse_map.specs.Map.{Entry, X, N, map_of}

-- the pulses of an interval: pcx for X and pcn for N
abbrev pub pulses_of : ℕ → ℕ → Entry → ℕ
pulses_of pcx pcn X = pcx
pulses_of pcx pcn N = pcn

-- the entry of interval i: map entry i mod (repx + repn)
abbrev pub entry_of : ℕ → ℕ → ℕ → Entry
entry_of repx repn i = get_or (map_of repx repn) (i % (repx + repn)) N

-- the pulses of the first k intervals, one by one
unfoldable pub pulses_in : ℕ → ℕ → ℕ → ℕ → ℕ → ℕ
pulses_in pcx repx pcn repn zero = 0
pulses_in pcx repx pcn repn (suc i) = pulses_in pcx repx pcn repn i + pulses_of pcx pcn (entry_of repx repn i)
