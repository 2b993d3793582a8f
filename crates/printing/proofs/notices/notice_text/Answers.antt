-- `notice_text` meets its contract.
use Rattle.printing.specs.Bytes.{bytes}
use Rattle.printing.specs.Text.{bit}
use Rattle.printing.proofs.RoomLaws.{then_number, whole}
use Rattle.printing.proofs.LengthLaws.{length_notice}
use Rattle.printing.proofs.notices.notice_text.Goals as goal

pub returns : goal.returns
returns c =
    let a = c.args in
    let two = then_number _ _ a.place (bytes " ") c.put_around.ensures c.put_number.ensures in
    let three = then_number _ _ (bit a.tariff) (bytes " ") two (rw c.from.ensures at c.put_number-2.ensures) in
    let four = then_number _ _ (bit a.burst) (bytes " ") three (rw c.from-2.ensures at c.put_number-3.ensures) in
    let five = then_number _ _ a.reports (bytes "\n") four c.put_number-4.ensures in
    whole _ (length_notice a.tick a.place a.tariff a.burst a.reports) c.new-text.ensures five
