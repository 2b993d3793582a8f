-- `pair` meets its contract.
use Rattle.printing.specs.Bytes.{bytes}
use Rattle.printing.proofs.RoomLaws.{then_number}
use Rattle.printing.proofs.text.pair.Goals as goal

pub returns : goal.returns
returns c = rw c.new-text.ensures at (then_number _ _ c.args.b (bytes "\n") c.put_around.ensures c.put_number.ensures)
