-- After a number more the list is as long as it was, and the places behind the numbers hold 0.
use Rattle.std.proofs.Common.{arith, ◌∙◌}
use Rattle.std.proofs.lemmas.List.{length-set}
use Rattle.short_list.proofs.Behind.{behind}
use Rattle.short_list.proofs.ShortList.push.Goals as goal

-- src/lib.rt:59:13
pub invariant_of-self : goal.invariant_of-self
invariant_of-self g c =
    let held = c.self.inside in (
      omega (arith, c.if-self.true),
      length-set held.list held.count c.args.v ∙ c.self.told,
      behind g.row.CAP held.count c.args.v held.list c.self.invariant.2,
    )
