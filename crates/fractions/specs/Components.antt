-- A tariff of a/b pulses per charge interval over n elements: its pulse counts and how often each stands in the map.
use Rattle.std.specs.Prelude.{ℕ, ◌-◌, ◌*◌, ◌/◌, ◌%◌}
use Rattle.fractions.specs.Rounding.{rounded_up, rounded_half_up}

-- a/b, rounded down
abbrev pub pcn_of : ℕ → ℕ → ℕ
pcn_of a b = a / b

-- a/b, rounded up
abbrev pub pcx_of : ℕ → ℕ → ℕ
pcx_of a b = rounded_up a b

-- n times the fraction part of a/b, which is (a % b)/b, rounded half up
abbrev pub repx_of : ℕ → ℕ → ℕ → ℕ
repx_of a b n = rounded_half_up (n * (a % b)) b

-- the other elements
abbrev pub repn_of : ℕ → ℕ → ℕ → ℕ
repn_of a b n = n - repx_of a b n

-- the two components {pcx repx}{pcn repn}
pub record Components : Type 0 where
  pub pcn : ℕ
  pub pcx : ℕ
  pub repx : ℕ
  pub repn : ℕ

-- the components of a/b over n elements
abbrev pub components_of : ℕ → ℕ → ℕ → Components
components_of a b n = record { pcn = pcn_of a b; pcx = pcx_of a b; repx = repx_of a b n; repn = repn_of a b n }
