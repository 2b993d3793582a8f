-- The loop's invariant: the places are read up to the rest.
use Rattle.std.proofs.Common.{◌-◌, length}
use Rattle.script.specs.Words.{words_of}
use Rattle.script.specs.Cards.{numbers}
use Rattle.script.proofs.GroupLaws.{Begun}
use Rattle.script.proofs.groups.next_places.Given as goal

abbrev pub invariant-loop-rest : goal.invariant-loop-rest
invariant-loop-rest l = Begun l.places (words_of l.rest) (numbers 64 (words_of l.fn.line))

abbrev pub decreases-loop-rest : goal.decreases-loop-rest
decreases-loop-rest l = 64 - length l.places
