use Rattle.std.proofs.Common.{◌∙◌}
use Rattle.script.proofs.WordLaws.{first_word, left_of, other_words}
use Rattle.script.proofs.words.next_word.Goals as goal

pub returns-clause-first : goal.returns-clause-first
returns-clause-first c = c.split_at.ensures.front ∙ first_word c.args.line.now _ c.past_blanks-line.ensures (cc)

pub returns-clause-past : goal.returns-clause-past
returns-clause-past c = c.split_at.ensures.back ∙ left_of c.args.line.now _ c.past_blanks-line.ensures (cc)

pub returns-clause-others : goal.returns-clause-others
returns-clause-others c = other_words c.args.line.now (returns-clause-past c)
