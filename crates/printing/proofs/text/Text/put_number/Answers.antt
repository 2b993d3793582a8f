-- `Text::put_number` meets its contract.
use Rattle.std.proofs.Common.{◌≡◌, arith, ◌^◌, ◌<◌}
use Rattle.printing.specs.Text.{digits_of}
use Rattle.printing.specs.Room.{extended}
use Rattle.printing.proofs.DigitLaws.{digits_decimal}
use Rattle.printing.proofs.RoomLaws.{then}
use Rattle.printing.proofs.text.Text.put_number.Goals as goal

pub returns : goal.returns
returns c =
    let small : c.args.n < 2 ^ 32 = omega arith in
    let number : c.put.new.self ≡ extended c.args.self.now (digits_of c.args.n) =
    rw (digits_decimal c.args.n small, ← c.format.ensures.text, ← c.as_bytes.ensures.value) c.put.ensures
    in
    then _ _ _ number c.put-2.ensures
