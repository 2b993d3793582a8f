-- `put_letter` meets its contract.
use Rattle.printing.specs.Bytes.{bytes}
use Rattle.printing.proofs.RoomLaws.{then_number}
use Rattle.printing.proofs.ticks.put_letter.Goals as goal

pub returns : goal.returns
returns c = then_number _ _ c.args.cpc (bytes "\n") c.put_around.ensures c.put_number.ensures
