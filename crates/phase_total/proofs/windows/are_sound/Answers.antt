-- What all phases leave says whether they are sound.
use Rattle.std.proofs.Common.{take_all}
use Rattle.rules.proofs.OnePass.{carried-sound}
use Rattle.phase_total.proofs.windows.are_sound.Goals as goal

pub returns : goal.returns
returns c = rw (c.loop-p.invariant, take_all _ _ c.loop-p-test.false) (carried-sound _ _)
