-- What the paper answers of a map: refusal 11, or what was asked for.
use Rattle.std.specs.Prelude.{if◌then◌else◌, ℕ, ◌+◌, get_or, take}
use Rattle.fractions.specs.Answers.{Result, refused, given}
use Rattle.pulse_map.specs.Map.{Entry, N, map_of, xs_in}
use Rattle.pulse_map.specs.Pulses.{pulses_in}
use Rattle.pulse_map.specs.Refusals.{no_map}

-- element i of a map
abbrev pub element_answer : ℕ → ℕ → ℕ → Result Entry
element_answer repx repn i = if no_map repx repn (i + 1) then refused 11 else given (get_or (map_of repx repn) i N)

-- the X's among a map's first k elements
abbrev pub xs_answer : ℕ → ℕ → ℕ → Result ℕ
xs_answer repx repn k = if no_map repx repn k then refused 11 else given (xs_in (take k (map_of repx repn)))

-- the pulses of a phase's first k charge intervals
abbrev pub pulses_answer : ℕ → ℕ → ℕ → ℕ → ℕ → Result ℕ
pulses_answer pcx repx pcn repn k = if no_map repx repn 0 then refused 11 else given (pulses_in pcx repx pcn repn k)
