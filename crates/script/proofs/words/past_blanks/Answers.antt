use Rattle.std.proofs.Common.{true}
use Rattle.script.proofs.WordLaws.{run_rest}
use Rattle.script.proofs.words.past_blanks.Goals as goal

pub returns : goal.returns
returns c = run_rest true c.args.line.now _ (cc)
