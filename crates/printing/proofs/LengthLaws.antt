-- Each text has room.
use Rattle.std.proofs.Common.{ℕ, zero, suc, ◌+◌, ◌/◌, ◌%◌, ◌≤◌, Bool, true, false, cond, ltb, List, [], ◌∷◌, ◌++◌, length, arith, length-append}
use Rattle.std.specs.Prelude.{Option, None, Some}
use Rattle.answers.specs.declared.Front.{Front}
use Rattle.answers.specs.declared.Front.TheVariants.{Tariff, Burst}
use Rattle.answers.specs.declared.Tick.{Tick}
use Rattle.printing.specs.Bytes.{bytes}
use Rattle.printing.specs.Text.{digit, digits_in, digits_of, answer_text, when, tariff_letter, burst_letter, complete_text, front_text, report_text, tick_text, bit, notice_text, pair_text, counters_text, asked_text}
use Rattle.printing.specs.declared.Answer.{Answer}
use Rattle.printing.specs.declared.Answer.TheVariants.{Ok, No, Bad}

length_cond : (b : Bool) (xs ys : List ℕ) (m : ℕ) → length xs ≤ m → length ys ≤ m → length (cond b xs ys) ≤ m
length_cond true xs ys m h k = h
length_cond false xs ys m h k = k

length_digits_in : (k n : ℕ) → length (digits_in k n) ≤ k
length_digits_in zero n = omega arith
length_digits_in (suc k) n =
    let more = digits_in k (n / 10) in
    length_cond (ltb n 10) (digit n ∷ []) (more ++ (digit (n % 10) ∷ [])) (suc k) (omega arith)
    (omega (arith, length-append more (digit (n % 10) ∷ []), length_digits_in k (n / 10)))

-- a number between two texts
length_around : (head : List ℕ) (n : ℕ) (tail : List ℕ) → length (head ++ digits_of n ++ tail) ≤ length head + 10 + length tail
unfolding digits_of
length_around head n tail =
    omega (arith, length-append (head ++ digits_in 10 n) tail, length-append head (digits_in 10 n), length_digits_in 10 n)

pub length_answer : (answer : Answer) → length (answer_text answer) ≤ 69
length_answer (Ok n) = omega (arith, length_around (bytes "ok ") n (bytes "\n"))
length_answer (No n) = omega (arith, length_around (bytes "no ") n (bytes "\n"))
length_answer Bad = omega arith

pub length_pair : (head : List ℕ) (a b : ℕ) → length (pair_text head a b) ≤ length head + 22
length_pair head a b = omega (arith, length_around (head ++ digits_of a ++ bytes " ") b (bytes "\n"), length_around head a (bytes " "))

pub length_asked : (answer : Answer) (ticket : ℕ) → length (asked_text answer ticket) ≤ 69
length_asked (Ok n) ticket = omega (arith, length_pair (bytes "ok ") n ticket)
length_asked (No n) ticket = omega (arith, length_pair (bytes "no ") n ticket)
length_asked Bad ticket = omega arith

pub length_counters : (cpc pcslr : ℕ) → length (counters_text cpc pcslr) ≤ 69
length_counters cpc pcslr = omega (arith, length_pair (bytes "a ") cpc pcslr)

pub length_notice : (tick place : ℕ) (tariff burst : Bool) (reports : ℕ) → length (notice_text tick place tariff burst reports) ≤ 69
length_notice tick place tariff burst reports =
    let one = bytes "n " ++ digits_of tick ++ bytes " " in
    let two = one ++ digits_of place ++ bytes " " in
    let three = two ++ digits_of (bit tariff) ++ bytes " " in
    let four = three ++ digits_of (bit burst) ++ bytes " " in
    omega (
      arith,
      length_around (bytes "n ") tick (bytes " "),
      length_around one place (bytes " "),
      length_around two (bit tariff) (bytes " "),
      length_around three (bit burst) (bytes " "),
      length_around four reports (bytes "\n"),
    )

length_when : (b : Bool) (xs : List ℕ) (m : ℕ) → length xs ≤ m → length (when b xs) ≤ m
length_when b xs m h = length_cond b xs [] m h (omega arith)

length_begun : (clock cpc : ℕ) (letter : List ℕ) → length (bytes "f " ++ digits_of clock ++ letter ++ digits_of cpc ++ bytes "\n") ≤ 23 + length letter
length_begun clock cpc letter =
    omega (arith, length_around (bytes "f " ++ digits_of clock ++ letter) cpc (bytes "\n"), length_around (bytes "f ") clock letter)

length_front : (clock cpc : ℕ) (front : Option Front) → length (front_text clock cpc front) ≤ 26
length_front clock cpc None = omega arith
length_front clock cpc (Some Tariff) = length_begun clock cpc (bytes " b ")
length_front clock cpc (Some Burst) = length_begun clock cpc (bytes " m ")

pub length_tick : (clock cpc : ℕ) (tick : Tick) → length (tick_text clock cpc tick) ≤ 69
length_tick clock cpc tick =
    let first = when tick.tariff (complete_text clock tariff_letter) in
    let second = when tick.burst (complete_text clock burst_letter) in
    let third = front_text clock cpc tick.front in
    let last = when tick.report (report_text clock) in
    let a : length first ≤ 15 = length_when tick.tariff (complete_text clock tariff_letter) 15 (length_around (bytes "c ") clock (bytes " b\n")) in
    let b : length second ≤ 15 = length_when tick.burst (complete_text clock burst_letter) 15 (length_around (bytes "c ") clock (bytes " m\n")) in
    let c : length third ≤ 26 = length_front clock cpc tick.front in
    let d : length last ≤ 13 = length_when tick.report (report_text clock) 13 (length_around (bytes "r ") clock (bytes "\n")) in
    omega (arith, length-append (first ++ second ++ third) last, length-append (first ++ second) third, length-append first second, a, b, c, d)
