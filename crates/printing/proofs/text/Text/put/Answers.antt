-- `Text::put` meets its contract.
use Rattle.std.proofs.Common.{◌≡◌, ◌+◌, ◌≤◌, ◌++◌, length, refl, rules}
use Rattle.printing.proofs.RoomLaws.{written, fitted}
use Rattle.printing.proofs.text.Text.put.Goals as goal

pub returns-then-is_err : goal.returns-then-is_err
returns-then-is_err c =
    let h = c.write-some.ensures in
    let stays : c.try_extend_from_slice.new.self.items ≡ c.self.inside.bytes.items = search rules in
    rw (← c.self.view_is) (written c.self.inside.bytes.items _ c.args.bytes.now c.write-some.new.self.items refl (rw (h.count, stays) at h.bytes))

pub returns-else-is_err : goal.returns-else-is_err
returns-else-is_err c =
    let fits : length c.self.inside.bytes.items + length c.args.bytes.now ≤ 69 = search rules in
    let more : c.try_extend_from_slice.new.self.items ≡ c.self.inside.bytes.items ++ c.args.bytes.now = search rules in
    rw (← c.self.view_is) (fitted c.self.inside.bytes.items c.args.bytes.now c.try_extend_from_slice.new.self.items fits more)
