-- The ways in which the paper rounds p/q; rounding down is p / q itself.
use Rattle.std.specs.Prelude.{ℕ, ◌+◌, ◌-◌, ◌*◌, ◌/◌}

-- p/q, rounded up
abbrev pub rounded_up : ℕ → ℕ → ℕ
rounded_up p q = (p + (q - 1)) / q

-- p/q, rounded half up
abbrev pub rounded_half_up : ℕ → ℕ → ℕ
rounded_half_up p q = (2 * p + q) / (2 * q)
