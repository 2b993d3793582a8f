-- The paper's number and values of each case that a public function returns.
use Rattle.std.specs.Prelude.{ℕ, Option, Some, None}
use Rattle.fractions.specs.Answers.{Result, refused, given}
use Rattle.pulse_map.specs.Map.{Entry, X, N}
use Rattle.pulse_map.specs.declared.Element.{Element}
use Rattle.pulse_map.specs.declared.Element.TheVariants.{X as ElementX, N as ElementN}

-- an element of a map; none is 11
abbrev pub element_told : Option Element → Result Entry
element_told None = refused 11
element_told (Some ElementX) = given X
element_told (Some ElementN) = given N

-- a number of X's or of pulses; none is 11
abbrev pub count_told : Option ℕ → Result ℕ
count_told None = refused 11
count_told (Some n) = given n
