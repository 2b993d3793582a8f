-- Ranges, as the paper words them: "low to high".
use Rattle.std.specs.Prelude.{Bool, ◌&&◌, ℕ, nat_le}

-- n within low to high
abbrev pub within : ℕ → ℕ → ℕ → Bool
within low high n = nat_le low n && nat_le n high
