-- The phases of a descriptor, read and met in one pass.
use Rattle.std.specs.Prelude.{if◌then◌else◌, List, ◌++◌, ℕ, ◌-◌, min, length, replicate}
use Rattle.tariff.specs.Tariffs.{no_phase, schedule_of}
use Rattle.tariff.specs.declared.Phase.{Phase}
use Rattle.tariff.specs.declared.Schedule.{Schedule}
use Rattle.rules.specs.Carried.{none_met, carried}
use Rattle.phase_lists.specs.Lists.{Lists, first_phases, one_length}
use Rattle.phase_lists.specs.declared.PhaseTable.{PhaseTable}

abbrev pub no_phases : List Phase
no_phases = replicate 8 no_phase

-- the phases at the array's front, and the rest of it filled up
abbrev pub eight_of : List Phase → List Phase
eight_of ps = ps ++ replicate (8 - length ps) no_phase

abbrev pub no_table : PhaseTable
no_table = record { carry = none_met; phases = no_phases }

-- the phases of a table, and how many there are
abbrev pub schedule_in : PhaseTable → Schedule
schedule_in t = schedule_of t.phases t.carry.count

-- how many phases there are to meet: none where the lengths differ
unfoldable pub phase_count : Lists → ℕ
phase_count ls = if one_length ls then length ls.pri else 0

-- on a line of spacing S: what the phases of seven lists leave to carry, and the first eight of them
unfoldable pub table_of : ℕ → Lists → PhaseTable
table_of S ls =
    let n = phase_count ls in
    record { carry = carried S (first_phases ls n); phases = eight_of (first_phases ls (min n 8)) }
