-- `Line::described_by_text` meets its contract: a text's answer from what the reader keeps of it is that from its whole lists.
use Rattle.line.proofs.Described.{text-is}
use Rattle.line.proofs.Line.described_by_text.Goals as goal

pub returns-in-Err : goal.returns-in-Err
returns-in-Err c = rw (← text-is, ← c.read.ensures, c.in-Err.is, c.refusing.ensures)

pub returns-in-Ok : goal.returns-in-Ok
returns-in-Ok c = rw (← text-is, ← c.read.ensures, c.in-Ok.is, c.described.ensures, c.phases-table.ensures)
