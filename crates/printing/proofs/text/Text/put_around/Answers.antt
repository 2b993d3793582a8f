-- `Text::put_around` meets its contract.
use Rattle.printing.proofs.RoomLaws.{then_number}
use Rattle.printing.proofs.text.Text.put_around.Goals as goal

pub returns : goal.returns
returns c = then_number _ _ c.args.n c.args.tail.now c.put.ensures c.put_number.ensures
