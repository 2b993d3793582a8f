-- `read`'s loop: scanner and notes are those after the bytes before b.
use Rattle.std.specs.Prelude.{Some}
use Rattle.std.proofs.Common.{◌≡◌}
use Rattle.sg.proofs.Loop.{held, state}
use Rattle.sg.proofs.read.Given as goal

abbrev pub invariant-loop-b : goal.invariant-loop-b
invariant-loop-b l = record { held-is : held l.text l.b-index ≡ Some (state l.scanner l.notes) }
