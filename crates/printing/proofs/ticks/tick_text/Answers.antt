-- `tick_text` meets its contract.
use Rattle.printing.proofs.RoomLaws.{then, whole}
use Rattle.printing.proofs.LengthLaws.{length_tick}
use Rattle.printing.proofs.ticks.tick_text.Goals as goal

pub returns : goal.returns
returns c =
    let completions = then _ _ _ c.put_told.ensures c.put_told-2.ensures in
    let parts = then _ _ _ (then _ _ _ completions c.put_front.ensures) c.put_told-3.ensures in
    whole _ (length_tick c.args.clock c.args.cpc c.args.tick) c.new-text.ensures parts
