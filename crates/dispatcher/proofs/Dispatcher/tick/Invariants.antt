-- The first i lines are ticked, and what their ticks told is gathered.
use Rattle.std.proofs.Common.{◌≡◌}
use Rattle.dispatcher.proofs.RowLaws.{row_at, gathered_to}
use Rattle.dispatcher.proofs.Dispatcher.tick.Given as goal

abbrev pub invariant-loop-i : goal.invariant-loop-i
invariant-loop-i l = record {
  rows : l.row ≡ row_at l.i l.initial.row;
  gathers : l.dispatcher ≡ gathered_to l.initial.dispatcher l.i l.initial.row;
}
