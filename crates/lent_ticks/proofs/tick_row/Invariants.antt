-- The lines before a place are ticked, and the others are as they were.
use Rattle.std.proofs.Common.{◌≡◌, ◌++◌, map, take, drop}
use Rattle.lent_ticks.specs.Runs.{ticked_once}
use Rattle.lent_ticks.proofs.tick_row.Given as goal

abbrev pub invariant-loop-line : goal.invariant-loop-line
invariant-loop-line l =
    l.line-items ≡ map ticked_once (take l.line-index l.fn.row) ++ drop l.line-index l.fn.row
