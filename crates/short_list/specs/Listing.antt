-- Lists of numbers with a fixed room.
use Rattle.std.specs.Prelude.{ℕ, if◌then◌else◌, List, [], ◌∷◌, ◌++◌, length, nat_lt}

abbrev pub no_items : List ℕ
no_items = []

-- a number more: past the room it is left out
abbrev pub pushed : ℕ → List ℕ → ℕ → List ℕ
pushed room ns v = if nat_lt (length ns) room then ns ++ (v ∷ []) else ns
