-- `put_front` meets its contract.
use Rattle.std.proofs.Common.{sym}
use Rattle.printing.proofs.RoomLaws.{unextended}
use Rattle.printing.proofs.ticks.put_front.Goals as goal

pub returns-in-None : goal.returns-in-None
returns-in-None c = rw c.in-None.is (sym (unextended c.args.text.now))
