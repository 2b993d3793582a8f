-- `rate` meets its contract: a refused group leaves the row as it was.
use Rattle.std.proofs.Common.{rules}
use Rattle.group.specs.Groups.{row_of}
use Rattle.group.proofs.AskLaws.{rated-named}
use Rattle.group.proofs.rating.rate.Goals as goal

pub returns-in_err-cancelled-clause-row_after : goal.returns-in_err-cancelled-clause-row_after
unfolding row_of
returns-in_err-cancelled-clause-row_after c = search rules

pub returns-clause-row_after : goal.returns-clause-row_after
unfolding row_of
returns-clause-row_after c = search (rules, rated-named)
