-- The text that `meter` and `card` print.
use Rattle.std.specs.Prelude.{Bool, true, false, if◌then◌else◌, List, [], ◌∷◌, ◌++◌, ℕ, zero, suc, ◌+◌, ◌/◌, ◌%◌}
use Rattle.std.specs.Prelude.{Option, None, Some, nat_lt}
use Prim.Native.String.{String, ◌++◌ as ◌&◌}
use Rattle.answers.specs.declared.Front.{Front}
use Rattle.answers.specs.declared.Front.TheVariants.{Tariff, Burst}
use Rattle.answers.specs.declared.Tick.{Tick}
use Rattle.printing.specs.Bytes.{bytes}
use Rattle.printing.specs.declared.Answer.{Answer}
use Rattle.printing.specs.declared.Answer.TheVariants.{Ok, No, Bad}

-- the byte of a digit
abbrev pub digit : ℕ → ℕ
digit d = 48 + d

-- the decimal digits of a number of at most k digits, with no zero in front
abbrev pub digits_in : ℕ → ℕ → List ℕ
digits_in zero n = []
digits_in (suc k) n = if nat_lt n 10 then digit n ∷ [] else digits_in k (n / 10) ++ (digit (n % 10) ∷ [])

-- the decimal digits of a number of 32 bits
unfoldable pub digits_of : ℕ → List ℕ
digits_of n = digits_in 10 n

-- an answer's line: `ok` and the cancelled count, `no` and the number, or `bad`
abbrev pub answer_text : Answer → List ℕ
answer_text (Ok n) = bytes "ok " ++ digits_of n ++ bytes "\n"
answer_text (No n) = bytes "no " ++ digits_of n ++ bytes "\n"
answer_text Bad = bytes "bad\n"

-- a line that is printed only where it is told
abbrev pub when : Bool → List ℕ → List ℕ
when b text = if b then text else []

-- b stands for the tariff, and m for the burst
abbrev pub tariff_letter : String
tariff_letter = "b"

abbrev pub burst_letter : String
burst_letter = "m"

-- the line of a completion: `c`, clock and letter
abbrev pub complete_text : ℕ → String → List ℕ
complete_text clock letter = bytes "c " ++ digits_of clock ++ bytes (" " & letter & "\n")

-- the line of a front: `f`, clock, letter and cpc
abbrev pub begun_text : ℕ → String → ℕ → List ℕ
begun_text clock letter cpc = bytes "f " ++ digits_of clock ++ bytes (" " & letter & " ") ++ digits_of cpc ++ bytes "\n"

-- the line of the front of a tick, if it has one
abbrev pub front_text : ℕ → ℕ → Option Front → List ℕ
front_text clock cpc None = []
front_text clock cpc (Some Tariff) = begun_text clock tariff_letter cpc
front_text clock cpc (Some Burst) = begun_text clock burst_letter cpc

-- the line of a report: `r` and clock
abbrev pub report_text : ℕ → List ℕ
report_text clock = bytes "r " ++ digits_of clock ++ bytes "\n"

-- a tick's lines: the completions, the tariff's before the burst's, then the front, then the report
abbrev pub tick_text : ℕ → ℕ → Tick → List ℕ
tick_text clock cpc t =
    when t.tariff (complete_text clock tariff_letter)
    ++ when t.burst (complete_text clock burst_letter)
    ++ front_text clock cpc t.front
    ++ when t.report (report_text clock)

-- a mark as a number
abbrev pub bit : Bool → ℕ
bit false = 0
bit true = 1

-- the line of a notice: `n`, the tick, the place of the line, the marks of the tariff and of the burst, the reports
abbrev pub notice_text : ℕ → ℕ → Bool → Bool → ℕ → List ℕ
notice_text tick place tariff burst reports =
    bytes "n " ++ digits_of tick ++ bytes " " ++ digits_of place
    ++ bytes " " ++ digits_of (bit tariff) ++ bytes " " ++ digits_of (bit burst)
    ++ bytes " " ++ digits_of reports ++ bytes "\n"

-- a line of two numbers after a head
abbrev pub pair_text : List ℕ → ℕ → ℕ → List ℕ
pair_text head a b = head ++ digits_of a ++ bytes " " ++ digits_of b ++ bytes "\n"

-- the line of the counters: `a`, cpc and pcslr
abbrev pub counters_text : ℕ → ℕ → List ℕ
counters_text cpc pcslr = pair_text (bytes "a ") cpc pcslr

-- the line that answers an ask: `ok` and the count or `no` and the number, then the ticket, or `bad`
abbrev pub asked_text : Answer → ℕ → List ℕ
asked_text (Ok n) ticket = pair_text (bytes "ok ") n ticket
asked_text (No n) ticket = pair_text (bytes "no ") n ticket
asked_text Bad ticket = bytes "bad\n"
