-- A number that is printed reads back as itself.
use Rattle.std.proofs.Common.{◌≡◌, ◌∙◌, ap, ℕ, ◌≤◌, arith}
use Rattle.std.specs.Prelude.{Some}
use Rattle.std.specs.Fmt.{decimal}
use Rattle.std.proofs.lemmas.Fmt.{decimal_nonempty, digits_decimal, digits_value-decimal}
use Rattle.script.specs.Numbers.{top, value_of, number_of}
use Rattle.script.proofs.NumberLaws.{numerals, valued}
use Rattle.printing.specs.Text.{digits_of}
use Rattle.printing.proofs.DigitLaws as printed

-- what is printed of a number reads back as that number
pub read_back : (n : ℕ) → n ≤ top → number_of (digits_of n) ≡ Some n
read_back n h =
    let value : value_of (decimal n) ≡ n = digits_value-decimal numerals n (omega arith) in
    let read = valued (decimal n) (digits_decimal numerals n (omega arith)) (decimal_nonempty n (omega arith)) (rw value h) in
    ap number_of (printed.digits_decimal n (omega arith)) ∙ read ∙ ap Some value
