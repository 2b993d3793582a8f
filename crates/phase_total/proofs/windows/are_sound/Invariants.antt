-- What is carried is what the phases so far leave.
use Rattle.std.proofs.Common.{◌≡◌, take}
use Rattle.rules.specs.Carried.{carried}
use Rattle.phase_total.proofs.windows.are_sound.Given as goal

abbrev pub invariant-loop-p : goal.invariant-loop-p
invariant-loop-p l = l.carry ≡ carried l.spacing (take l.p-index l.phases)
