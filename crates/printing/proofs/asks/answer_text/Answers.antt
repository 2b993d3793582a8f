-- `answer_text` meets its contract.
use Rattle.printing.specs.declared.Answer.TheVariants.{Ok, No, Bad}
use Rattle.printing.proofs.RoomLaws.{whole}
use Rattle.printing.proofs.LengthLaws.{length_answer}
use Rattle.printing.proofs.asks.answer_text.Goals as goal

pub returns-in-Ok : goal.returns-in-Ok
returns-in-Ok c = rw c.in-Ok.is (whole _ (length_answer (Ok c.in-Ok.cancelled)) c.new-text.ensures c.put_around.ensures)

pub returns-in-No : goal.returns-in-No
returns-in-No c = rw c.in-No.is (whole _ (length_answer (No c.in-No.number)) c.new-text.ensures c.put_around-in-No.ensures)

pub returns-in-Bad : goal.returns-in-Bad
returns-in-Bad c = rw c.in-Bad.is (whole _ (length_answer Bad) c.new-text.ensures c.put.ensures)
