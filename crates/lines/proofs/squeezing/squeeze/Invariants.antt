-- The first `j` bytes are squeezed into the first `kept`.
use Rattle.lines.proofs.SqueezeLaws.{Squeezing}
use Rattle.lines.proofs.squeezing.squeeze.Given as goal

abbrev pub invariant-loop-j : goal.invariant-loop-j
invariant-loop-j l = Squeezing l.initial.buf l.run l.kept l.j l.buf
