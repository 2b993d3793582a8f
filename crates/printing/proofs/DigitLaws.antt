-- The decimal digits of a number are what std writes of it.
use Rattle.std.proofs.Common.{◌≡◌, ◌^◌, ◌<◌, ℕ, arith}
use Rattle.std.specs.Fmt.{decimal}
use Rattle.std.proofs.lemmas.Bool.Decides.{nat_tests}
use Rattle.std.proofs.lemmas.Fmt.{AppendsLastDigit, decimal_from_appends, length-decimal-le}
use Rattle.printing.specs.Text.{digits_in, digits_of}

last_digit : AppendsLastDigit digits_in
last_digit = record {
  one = λ k n h. grind (arith, nat_tests);
  more = λ k n h. grind (arith, nat_tests);
}

pub digits_decimal : (n : ℕ) → n < 2 ^ 32 → digits_of n ≡ decimal n
unfolding digits_of
digits_decimal n h = decimal_from_appends digits_in last_digit 10 n (omega arith) (length-decimal-le 10 n (omega arith) (omega arith) (omega arith))
