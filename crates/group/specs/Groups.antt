-- A rate command for a group of lines in a row: taken by all of them or by none.
use Rattle.std.specs.Prelude.{Bool, if◌then◌else◌, List, [], ◌∷◌, ℕ, suc, nat_le, ◌==◌, length, get_or, Ok, Err, is_ok}
use Rattle.std.specs.List.{list_any}
use Rattle.std.specs.Result.{result_and}
use Rattle.phase_lists.specs.Lists.{no_lists}
use Rattle.descriptor.specs.declared.TariffPart.TheVariants.{Rate}
use Rattle.descriptor.specs.declared.BurstPart.TheVariants.{Keep}
use Rattle.descriptor.specs.declared.Refusal.TheVariants.{Row, Place}
use Rattle.line.specs.Lines.{Verdict, describe_of, blank_line}
use Rattle.line.specs.declared.Line.{Line}
use Rattle.line.specs.declared.Answered.{Answered}
use Rattle.dispatcher.specs.Dispatch.{bad_row}

-- a rate command, burst keep, on one line: its answer, and the line after it
abbrev pub rate_of : Line → ℕ → Answered
rate_of l P = describe_of l (Rate P) no_lists Keep

-- ---- a list of places

-- place i is named
unfoldable pub named : List ℕ → ℕ → Bool
named ps i = list_any (λ p. i == p) ps

-- a place is outside a row of n
unfoldable pub outside : List ℕ → ℕ → Bool
outside ps n = list_any (λ p. nat_le n p) ps

-- the refusal of the first place in list order that refuses, where f says what the line at each place would answer
unfoldable pub first_refusal : (ℕ → Verdict) → List ℕ → Verdict
first_refusal f [] = Ok 0
first_refusal f (p ∷ ps) = result_and (f p) (first_refusal f ps)

-- ---- the group

-- the answer: 14 for the row, then 15 for a place, and then the refusal of a line
unfoldable pub verdict_of : List Line → List ℕ → ℕ → Verdict
verdict_of ls ps P =
    if bad_row (length ls) then Err Row else
    if outside ps (length ls) then Err Place else
    first_refusal (λ p. (rate_of (get_or ls p blank_line) P).verdict) ps

-- each line at whose place f holds takes the rate command once
unfoldable pub rated_row : (ℕ → Bool) → ℕ → List Line → List Line
rated_row f P [] = []
rated_row f P (l ∷ ls) = (if f 0 then (rate_of l P).line else l) ∷ rated_row (λ i. f (suc i)) P ls

-- the row after it: a refused group leaves it as it was
unfoldable pub row_of : List Line → List ℕ → ℕ → List Line
row_of ls ps P = if is_ok (verdict_of ls ps P) then rated_row (named ps) P ls else ls
