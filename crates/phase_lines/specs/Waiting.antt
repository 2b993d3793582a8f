-- A descriptor that waits for its phase lines, and what it means once they have come.
use Rattle.std.specs.Prelude.{ℕ, ◌-◌, Option, Some, None}
use Rattle.std.specs.Option.{option_map}
use Rattle.tariff.specs.declared.Phase.{Phase}
use Rattle.descriptor.specs.declared.BurstPart.{BurstPart}
use Rattle.descriptor.specs.declared.TariffPart.TheVariants.{Phased}
use Rattle.descriptor.specs.declared.Descriptor.{Descriptor}
use Rattle.grammar.specs.Meaning.{Reading, descriptor}
use Rattle.line.specs.Lines.{meant_by}
use Rattle.phase_lines.specs.declared.Waiting.{Waiting}
use Rattle.phases.specs.Holding.{none_held, lists_of_phases}
use Rattle.phase_lines.specs.Gathering.{with_line}

-- before the first of k lines
abbrev pub waiting_for : ℕ → BurstPart → Waiting
waiting_for k u = record { missing = k; burst = u; phases = Some none_held }

-- with one line more, so that one fewer is missing
abbrev pub waiting_with : Waiting → Option Phase → Waiting
waiting_with w p = record { missing = w.missing - 1; burst = w.burst; phases = with_line w.phases p }

-- what it means by the lines that have come; nothing where one of them was bad
abbrev pub meaning_of : Waiting → Option Reading
meaning_of w = option_map (λ s. descriptor Phased (lists_of_phases s) w.burst) w.phases

-- what a descriptor means, where there is one
abbrev pub meant_in : Option Descriptor → Option Reading
meant_in None = None
meant_in (Some d) = Some (meant_by d)
