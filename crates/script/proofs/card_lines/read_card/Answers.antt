use Rattle.std.proofs.Common.{◌≡◌, refl, ap, ◌∙◌, ℕ, Bool, true, false, List}
use Rattle.std.specs.Prelude.{Option, Some, None, if◌then◌else◌}
use Rattle.std.specs.Borrow.{Bor}
use Rattle.script.specs.Words.{words_of}
use Rattle.script.specs.Readers.{no_word, whole}
use Rattle.script.specs.Told.{told, line_of, line_in, told_line}
use Rattle.script.specs.declared.CardCommand.{CardCommand}
use Rattle.script.proofs.card_lines.read_card.Goals as goal

-- a line is read whole just where its words are
whole_line : (read : Option (CardCommand × Bor (List ℕ))) → line_in (whole (told read)) ≡ whole (told_line read)
whole_line None = refl
whole_line (Some (c, rest)) = one (no_word (words_of rest.now))
  where
    one : (t : Bool) → line_in (if t then Some c else None) ≡ (if t then Some (line_of c) else None)
    one true = refl
    one false = refl

pub returns : goal.returns
returns c = rw c.whole.ensures (whole_line _ ∙ ap whole c.next_card_command.ensures)
