-- A line without the bytes that say nothing: a run of blanks says what one blank says, and more than eleven zeros what
-- eleven say. A number of a script is the same then, or still too large; one of a text still has more than ten digits.
use Rattle.std.specs.Prelude.{Bool, false, if◌then◌else◌, ◌&&◌, ◌||◌, List, [], ◌∷◌, ℕ, ◌+◌, min, ◌==◌, nat_le}
use Rattle.lines.specs.declared.squeezing.Run.{Run}

abbrev pub is_blank : ℕ → Bool
is_blank b = b == 32

abbrev pub is_zero : ℕ → Bool
is_zero b = b == 48

-- before the first byte
abbrev pub no_run : Run
no_run = record { blank = false; zeros = 0 }

-- with one more byte
abbrev pub run_after : Run → ℕ → Run
run_after r b = record { blank = is_blank b; zeros = if is_zero b then min (r.zeros + 1) 11 else 0 }

-- whether one more byte says nothing
abbrev pub is_redundant : Run → ℕ → Bool
is_redundant r b = (is_blank b && r.blank) || (is_zero b && nat_le 11 r.zeros)

unfoldable pub squeezed_from : Run → List ℕ → List ℕ
squeezed_from r [] = []
squeezed_from r (b ∷ l) = let rest = squeezed_from (run_after r b) l in if is_redundant r b then rest else b ∷ rest

abbrev pub squeezed : List ℕ → List ℕ
squeezed l = squeezed_from no_run l
