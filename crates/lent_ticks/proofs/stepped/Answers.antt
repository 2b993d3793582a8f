-- One more step makes of the value what it makes of the value so far.
use Rattle.std.proofs.Common.{rules}
use Rattle.lent_ticks.proofs.stepped.Goals as goal

pub loop-preserved : goal.loop-preserved
loop-preserved g c =
    (c.loop.invariant.0, λ once moves. rw (moves _ _ c.step.ensures) (rw (c.loop.invariant.1 once moves) (search rules)))
