-- `Line::described_by_parts` meets its contract: a descriptor by its table of phases is answered as by its lists.
use Rattle.line.proofs.Described.{describe-is}
use Rattle.line.proofs.Line.described_by_parts.Goals as goal

pub returns : goal.returns
returns c = rw (← describe-is, ← c.phases_for-table.ensures, c.described.ensures)
