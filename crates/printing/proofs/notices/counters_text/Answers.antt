-- `counters_text` meets its contract.
use Rattle.std.proofs.Common.{refl}
use Rattle.printing.specs.Text.{counters_text}
use Rattle.printing.proofs.RoomLaws.{whole}
use Rattle.printing.proofs.LengthLaws.{length_counters}
use Rattle.printing.proofs.notices.counters_text.Goals as goal

pub returns : goal.returns
returns c = let a = c.args in whole (counters_text a.cpc a.pcslr) (length_counters a.cpc a.pcslr) refl c.pair.ensures
