-- Each read fills more of the buffer.
use Rattle.std.proofs.Common.{◌≤◌, ◌-◌, length}
use Rattle.lent_ticks.proofs.read_full.Given as goal

abbrev pub invariant-loop-got : goal.invariant-loop-got
invariant-loop-got g l = l.done ≤ length l.buf

abbrev pub decreases-loop-got : goal.decreases-loop-got
decreases-loop-got g l = length l.buf - l.done
