-- An exact fraction, never rounded on the way: what a whole number leaves of it, and how far another is from it.
use Rattle.std.specs.Prelude.{ℕ, ◌+◌, ◌-◌, ◌*◌}
use Rattle.fractions.specs.Rounding.{rounded_half_up}

-- over / under
pub record Fraction : Type 0 where
  pub over : ℕ
  pub under : ℕ

-- a fraction less a whole number, and 0 where that is below 0
abbrev pub less : Fraction → ℕ → Fraction
less f n = record { over = f.over - n * f.under; under = f.under }

-- rounded half up
abbrev pub half_up : Fraction → ℕ
half_up f = rounded_half_up f.over f.under

-- how far a fraction and a whole number are apart, in parts of 1/under
abbrev pub apart : Fraction → ℕ → ℕ
apart f n = (f.over - n * f.under) + (n * f.under - f.over)
