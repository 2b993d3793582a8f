-- What the paper answers of a/b pulses over n elements: refusal 9, or the two components.
use Rattle.std.specs.Prelude.{Bool, if◌then◌else◌, ◌||◌, ℕ, nat_lt, ◌==◌, Option, Some, None}
use Rattle.fractions.specs.Components.{pcx_of, Components, components_of}
use Rattle.fractions.specs.declared.Parameters.{Parameters}

-- a refusal with its number, or what is given
pub data Result (A : Type 0) : Type 0 where
  refused : (number : ℕ) → Result A
  given : (value : A) → Result A

-- n outside low to high
abbrev pub outside : ℕ → ℕ → ℕ → Bool
outside n low high = nat_lt n low || nat_lt high n

-- 9: b = 0, n outside 1 to 100, or pcx over 65,535
unfoldable pub no_tariff : ℕ → ℕ → ℕ → Bool
no_tariff a b n = b == 0 || (outside n 1 100 || nat_lt 65535 (pcx_of a b))

-- a/b pulses over n elements
abbrev pub parameters_answer : ℕ → ℕ → ℕ → Result Components
parameters_answer a b n = if no_tariff a b n then refused 9 else given (components_of a b n)

-- the parameters of a tariff; none is 9
abbrev pub parameters_told : Option Parameters → Result Components
parameters_told None = refused 9
parameters_told (Some p) = given (record { pcn = p.pcn; pcx = p.pcx; repx = p.repx; repn = p.repn })
