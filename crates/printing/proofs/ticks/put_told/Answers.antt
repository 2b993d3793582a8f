-- `put_told` meets its contract.
use Rattle.std.proofs.Common.{sym}
use Rattle.printing.proofs.RoomLaws.{unextended}
use Rattle.printing.proofs.ticks.put_told.Goals as goal

pub returns-else-told : goal.returns-else-told
returns-else-told c = rw c.if-told.false (sym (unextended c.args.text.now))
