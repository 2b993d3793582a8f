-- After i phases the table of `read` is that of the first i.
use Rattle.std.proofs.Common.{◌≡◌}
use Rattle.phase_lists.specs.Lists.{lists_in}
use Rattle.phase_lists.proofs.PhaseTables.{first_table}
use Rattle.phase_lists.proofs.PhaseLists.read.Given as goal

abbrev pub invariant-loop-i : goal.invariant-loop-i
invariant-loop-i l = l.table ≡ first_table l.spacing (lists_in l.self) l.i
