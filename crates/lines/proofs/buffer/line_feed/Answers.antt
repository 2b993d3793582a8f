use Rattle.std.proofs.Common.{rules, tests}
use Rattle.std.proofs.lemmas.Iterator.{YieldsList-from_slice}
use Rattle.std.proofs.lemmas.Iterator.Search.{position_from_yields_List}
use Rattle.lines.specs.Spans.{is_line_feed}
use Rattle.lines.proofs.buffer.line_feed.Goals as goal

pub returns : goal.returns
returns c =
    position_from_yields_List is_line_feed _ _ _ c.position.ensures.ran (YieldsList-from_slice c.args.bytes.now cc) (λ x b q k. search (rules, tests))
