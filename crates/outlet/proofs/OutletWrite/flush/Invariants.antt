-- What is written and held back stays the same.
use Rattle.std.specs.Io.KnownBytes.{Keeps}
use Rattle.arrayvec.specs.ArrayVec.{array_vec_len}
use Rattle.outlet.specs.Held.{known_of}
use Rattle.outlet.proofs.OutletWrite.flush.Given as goal

abbrev pub invariant-loop-self : goal.invariant-loop-self
invariant-loop-self g l = Keeps (known_of g.W.Write.contents l.initial.self) (known_of g.W.Write.contents l.self)

abbrev pub decreases-loop-self : goal.decreases-loop-self
decreases-loop-self g l = array_vec_len l.self.held
