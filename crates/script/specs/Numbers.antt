-- A number: one or more decimal digits of a value up to 4,294,967,295.
use Rattle.std.specs.Prelude.{ℕ, ◌+◌, ◌-◌, ◌*◌, Bool, true, ◌&&◌, List, [], ◌∷◌, nat_le, if◌then◌else◌}
use Rattle.std.specs.Prelude.{Option, Some, None}

-- the largest number
abbrev pub top : ℕ
top = 4_294_967_295

-- whether a byte is one of `0` to `9`
abbrev pub is_digit : ℕ → Bool
is_digit b = nat_le 48 b && nat_le b 57

-- whether every byte is a digit
abbrev pub all_digits : List ℕ → Bool
all_digits [] = true
all_digits (b ∷ l) = is_digit b && all_digits l

-- the value of digits that follow those of the value v
abbrev pub value_after : ℕ → List ℕ → ℕ
value_after v [] = v
value_after v (b ∷ l) = value_after (10 * v + (b - 48)) l

-- the value of digits
abbrev pub value_of : List ℕ → ℕ
value_of l = value_after 0 l

-- the number that a word is, if it is one
abbrev pub number_of : List ℕ → Option ℕ
number_of [] = None
number_of (b ∷ l) =
    if all_digits (b ∷ l) && nat_le (value_of (b ∷ l)) top then Some (value_of (b ∷ l)) else None
