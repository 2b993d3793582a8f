use Rattle.std.proofs.Common.{arith}
use Rattle.std.proofs.lemmas.List.Edits.{map_over_more}
use Rattle.std.proofs.lemmas.Grind.{common_steps}
use Rattle.lent_ticks.specs.Runs.{ticked_once}
use Rattle.lent_ticks.proofs.tick_row.Goals as goal

pub loop-line-preserved : goal.loop-line-preserved
loop-line-preserved c =
    rw c.tick_in_place.ensures.moved (map_over_more ticked_once _ _ _ _ (omega arith) c.loop-line.invariant (grind (arith, common_steps)))
