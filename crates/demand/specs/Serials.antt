-- The serial: how many calls were accepted, read from a history.
use Rattle.std.specs.Prelude.{List, ℕ, min}
use Rattle.demand.specs.Calls.{Answer, accepted, refused, asked, counters, ticked, Entry}
use Rattle.demand.specs.History.{sum}

-- a descriptor, a hook event, a setting or a clearing of the report period that is accepted is a change
abbrev pub is_change : Answer → ℕ
is_change a = elim a [ accepted k ↦ 1 | refused n ↦ 0 | asked w n ↦ 0 | counters m n ↦ 0 | ticked t ↦ 0 ]

abbrev pub changes : List Entry → ℕ
changes h = sum (λ e. is_change e.answer) h

-- from 0, held at its top
abbrev pub serial_in : List Entry → ℕ
serial_in h = min 4294967295 (changes h)
