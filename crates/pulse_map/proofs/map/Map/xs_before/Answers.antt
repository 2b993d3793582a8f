use Rattle.std.proofs.Common.{arith}
use Rattle.pulse_map.specs.Map.{map_of}
use Rattle.pulse_map.proofs.Words.{words_xs}
use Rattle.pulse_map.proofs.map.Map.xs_before.Goals as goal

pub returns-in-Some : goal.returns-in-Some
returns-in-Some c =
    let m = c.args.self in
    rw (c.low_ones.ensures, c.low_ones-in-Some.ensures, c.min.ensures, c.saturating_sub.ensures, c.in-Some.ensures)
    (words_xs (map_of m.xs m.ns) c.args.k (omega arith))
