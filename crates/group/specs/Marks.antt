-- The places of a row that are marked in a word, a bit each: what the code keeps of those whose line is rated.
use Rattle.std.specs.Prelude.{Bool, if◌then◌else◌, ◌&&◌, List, ℕ, ◌^◌, nat_lt, ◌==◌}
use Rattle.std.specs.Int.{bit_at}
use Rattle.std.specs.Int.Bits.{bit_or}
use Rattle.group.specs.Groups.{named}

-- place p has a bit, which is not set
abbrev pub is_unmarked : ℕ → ℕ → Bool
is_unmarked w p = nat_lt p 64 && (bit_at w p == 0)

-- with its bit set, if it has one
abbrev pub with_mark : ℕ → ℕ → ℕ
with_mark w p = if nat_lt p 64 then bit_or w (2 ^ p) else w

-- place i is named, and has a bit
abbrev pub named_low : List ℕ → ℕ → Bool
named_low ps i = nat_lt i 64 && named ps i
