-- The line takes the phases, since they were written for its spacing.
use Rattle.std.proofs.Common.{◌≡◌, ◌∙◌, ap, refl, sym, Result, Ok, Err}
use Rattle.std.specs.Result.{IsOk}
use Rattle.fractions.specs.Answers.{given}
use Rattle.phases.specs.declared.Phases.{Phases}
use Rattle.phase_total.specs.declared.Refusal.{Refusal}
use Rattle.phase_total.specs.Told.{phases_told}
use Rattle.phase_total.specs.Windows.{phases_by}
use Rattle.phase_total.specs.Examples.{the-two}
use Rattle.phase_total.proofs.Claims.{claims}
use Rattle.line_examples.proofs.takes_count.Goals as goal

-- where phases are told, they are there
is_there : (r : Result Phases Refusal) (s : Phases) → phases_told r ≡ given s → IsOk r
is_there (Ok t) s e = refl
is_there (Err why) s e = cc

pub unwrap-phases-requires : goal.unwrap-phases-requires
unwrap-phases-requires c =
    is_there c.phases.result _ (rw c.requires at c.phases.ensures ∙ ap phases_by the-two)

pub returns : goal.returns
returns c =
    let written = sym (rw c.unwrap-phases.ensures at c.phases.ensures) in
    let taken = claims.taken _ _ c.unwrap-phases.result written c.args.line refl in
    rw (c.accepted.ensures, c.describe.ensures, c.descriptor-given.ensures, taken.kept) refl
