use Rattle.std.proofs.Common.{◌∙◌}
use Rattle.script.proofs.WordLaws.{none_left}
use Rattle.script.proofs.words.ended.Goals as goal

pub returns : goal.returns
returns c = c.is_empty.ensures ∙ none_left c.args.line.now _ c.past_blanks.ensures
