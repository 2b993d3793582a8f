-- The table of a function's values.
use Rattle.std.specs.Prelude.{ℕ, zero, suc, List, [], ◌∷◌}

-- f i, f (i + 1), .. : n values
abbrev pub table : (ℕ → ℕ) → ℕ → ℕ → List ℕ
table f i zero = []
table f i (suc n) = f i ∷ table f (suc i) n
