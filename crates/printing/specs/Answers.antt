-- What the answer of a call is printed as.
use Rattle.std.specs.Prelude.{ℕ, Result, Ok, Err}
use Rattle.descriptor.specs.Refusals.{refusal_number}
use Rattle.descriptor.specs.declared.Refusal.{Refusal}
use Rattle.printing.specs.declared.Answer.{Answer}
use Rattle.printing.specs.declared.Answer.TheVariants.{Ok as Done, No}

-- `ok` and the cancelled count where it was accepted, `no` and the refusal's number where not
abbrev pub answer_of : Result ℕ Refusal → Answer
answer_of (Ok cancelled) = Done cancelled
answer_of (Err why) = No (refusal_number why)
