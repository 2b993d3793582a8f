-- What is held is the phases of the list so far.
use Rattle.std.proofs.Common.{◌≡◌, take}
use Rattle.phases.specs.Holding.{holding}
use Rattle.phases.proofs.Phases.of.Given as goal

abbrev pub invariant-loop-p : goal.invariant-loop-p
invariant-loop-p l = l.phases ≡ holding (take l.p-index l.list)
