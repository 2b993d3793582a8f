-- The code of a name and the value of a number, as the code has them.
use Rattle.std.specs.Prelude.{ℕ, ◌+◌, ◌*◌, ◌%◌, min, List, [], ◌∷◌}

-- a name's code with one letter more: in base 32, held at 2 ^ 40
abbrev pub next_letter : ℕ → ℕ → ℕ
next_letter c b = min (32 * min c 1_099_511_627_776 + b % 32) 1_099_511_627_776

abbrev pub code_after : ℕ → List ℕ → ℕ
code_after c [] = c
code_after c (b ∷ w) = code_after (next_letter c b) w

abbrev pub code_of : List ℕ → ℕ
code_of w = code_after 0 w

-- a number's value with one digit more: the number before is held at 2 ^ 40, which ten digits do not reach
abbrev pub next_digit : ℕ → ℕ → ℕ
next_digit c b = 10 * min c 1_099_511_627_776 + b % 16

abbrev pub number_after : ℕ → List ℕ → ℕ
number_after c [] = c
number_after c (b ∷ w) = number_after (next_digit c b) w

abbrev pub number_of : List ℕ → ℕ
number_of w = number_after 0 w
