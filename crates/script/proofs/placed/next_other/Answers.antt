use Rattle.std.proofs.Common.{arith, rules, sym, ◌≡◌, ◌∙◌}
use Rattle.std.proofs.lemmas.Slice.Eq.{text_from_reads}
use Rattle.printing.specs.Bytes.{bytes}
use Rattle.script.specs.Words.{words_of}
use Rattle.script.specs.Readers.{first}
use Rattle.script.proofs.placed.next_other.Goals as goal

pub returns-in-commit : goal.returns-in-commit
returns-in-commit c =
    let w = c.next_word in
    let spelled : first (words_of c.args.line.now) ≡ bytes "commit" = sym w.ensures.first ∙ text_from_reads _ (bytes "commit") (omega arith) (search rules) in
    rw spelled (rw (w.ensures.others, w.ensures.past) at c.next_commit.ensures)
