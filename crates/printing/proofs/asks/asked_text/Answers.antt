-- `asked_text` meets its contract.
use Rattle.std.proofs.Common.{refl}
use Rattle.printing.specs.declared.Answer.TheVariants.{Ok, No}
use Rattle.printing.proofs.RoomLaws.{whole}
use Rattle.printing.proofs.LengthLaws.{length_asked}
use Rattle.printing.proofs.asks.asked_text.Goals as goal

pub returns-in-Ok : goal.returns-in-Ok
returns-in-Ok c = rw c.in-Ok.is (whole _ (length_asked (Ok c.in-Ok.cancelled) c.args.ticket) refl c.pair.ensures)

pub returns-in-No : goal.returns-in-No
returns-in-No c = rw c.in-No.is (whole _ (length_asked (No c.in-No.number) c.args.ticket) refl c.pair-in-No.ensures)
