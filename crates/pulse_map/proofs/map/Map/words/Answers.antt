use Rattle.std.proofs.Common.{arith}
use Rattle.pulse_map.proofs.Words.{hundred-words, ten-words}
use Rattle.pulse_map.proofs.map.Map.words.Goals as goal

pub returns-in-100 : goal.returns-in-100
returns-in-100 c = rw (c.hundred_word.ensures, c.hundred_word-in-100.ensures) (hundred-words c.args.self.xs c.args.self.ns (omega arith))

pub returns-in-10 : goal.returns-in-10
returns-in-10 c = rw (c.into.ensures, c.ten_word.ensures) (ten-words c.args.self.xs c.args.self.ns (omega arith))
