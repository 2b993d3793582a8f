-- A number is read digit by digit: each digit takes the value on, and a value past the top never comes back.
use Rattle.std.proofs.Common.{◌≡◌, refl, ℕ, ◌+◌, ◌-◌, ◌*◌, ◌≤◌, ◌<◌, true, false, ◌&&◌, nat_le, List, [], ◌∷◌, length, get_or, drop, arith, rules}
use Rattle.std.specs.Prelude.{Option, Some, None, if◌then◌else◌}
use Rattle.std.proofs.lemmas.Bool.Decides.{nat_tests}
use Rattle.std.proofs.lemmas.Str.Parse.{IsNumeralModel, numerals_by_fold}
use Rattle.std.proofs.lemmas.List.{drop_more}
use Rattle.script.specs.Numbers.{top, is_digit, all_digits, value_after, value_of, number_of}

-- the digits and values of the specs are those of `parse`
pub numerals : IsNumeralModel (λ l. all_digits l ≡ true) value_of
numerals = numerals_by_fold _ (search rules) value_after (search rules)

-- digits up to the top are the number of their value
pub valued : (l : List ℕ) → all_digits l ≡ true → 0 < length l → value_of l ≤ top → number_of l ≡ Some (value_of l)
valued [] d s t = absurd (omega (arith, s))
valued (b ∷ l) d s t = grind (arith, nat_tests)

-- the number that goes on with the bytes l after the digits of the value v
unfoldable pub number_after : ℕ → List ℕ → Option ℕ
number_after v l = if all_digits l && nat_le (value_after v l) top then Some (value_after v l) else None

-- more digits make no smaller value
grows : (v : ℕ) (l : List ℕ) → v ≤ value_after v l
grows v [] = omega arith
grows v (b ∷ l) = let g = grows (10 * v + (b - 48)) l in omega arith

-- a value past the top is no number, whatever follows
pub past_top : (v : ℕ) (l : List ℕ) → top < v → number_after v l ≡ None
unfolding number_after
past_top v l h = let g = grows v l in grind (arith, nat_tests)

-- no more digits: the value is the number
pub no_more : (v : ℕ) → v ≤ top → number_after v [] ≡ Some v
unfolding number_after
no_more v h = grind (arith, nat_tests)

-- a word that is not empty is the number of its digits after none
pub from_zero : (l : List ℕ) → 0 < length l → number_after 0 l ≡ number_of l
unfolding number_after
from_zero [] h = absurd (omega (arith, h))
from_zero (b ∷ l) h = refl

-- an empty word is no number
pub empty-word : (l : List ℕ) → length l ≡ 0 → number_of l ≡ None
empty-word [] h = refl
empty-word (b ∷ l) h = absurd (omega (arith, h))

module _ (v : ℕ) (l : List ℕ) (i : ℕ) (within : i < length l) where
  -- a digit takes the value on
  pub digit-on : is_digit (get_or l i 0) ≡ true → number_after v (drop i l) ≡ number_after (10 * v + (get_or l i 0 - 48)) (drop (i + 1) l)
  unfolding number_after
  digit-on digit = rw (drop_more l i 0 within, digit) refl

  -- another byte makes no number
  pub no-digit : is_digit (get_or l i 0) ≡ false → number_after v (drop i l) ≡ None
  unfolding number_after
  no-digit other = rw (drop_more l i 0 within, other) refl
