-- The paper's number and values of each answer, and a map as the code has it.
use Rattle.std.specs.Prelude.{List, ℕ, Result, Ok, Err}
use Rattle.fractions.specs.Components.{Components}
use Rattle.fractions.specs.Answers as answers
use Rattle.fractions.specs.Answers.{refused, given}
use Rattle.fractions.specs.declared.Parameters.{Parameters}
use Rattle.arrayvec.specs.ArrayVec.{ArrayVec}
use Rattle.tariff.specs.declared.Phase.{Phase}
use Rattle.phases.specs.declared.Phases.{Phases}
use Rattle.phase_total.specs.declared.Refusal.{Refusal}
use Rattle.phase_total.specs.declared.Refusal.TheVariants.{Seconds, Tariff, Phase as BadPhase}

abbrev pub refusal_number : Refusal → ℕ
refusal_number Seconds = 18
refusal_number Tariff = 9
refusal_number BadPhase = 6

-- the phases that are written, or the number of a refusal
abbrev pub windows_told : Result (ArrayVec Phase) Refusal → answers.Result (List Phase)
windows_told (Ok ws) = given ws.items
windows_told (Err r) = refused (refusal_number r)

-- the same in the form that a descriptor lends
abbrev pub phases_told : Result Phases Refusal → answers.Result Phases
phases_told (Ok s) = given s
phases_told (Err r) = refused (refusal_number r)

-- a map, as the code has it
abbrev pub map_in : Parameters → Components
map_in p = record { pcn = p.pcn; pcx = p.pcx; repx = p.repx; repn = p.repn }
