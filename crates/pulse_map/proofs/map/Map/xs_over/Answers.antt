use Rattle.std.proofs.Common.{arith}
use Rattle.pulse_map.proofs.Intervals.{turns, over_le}
use Rattle.pulse_map.proofs.map.Map.xs_over.Goals as goal

pub overflow_add-result : goal.overflow_add-result
overflow_add-result c = let m = c.args.self in rw (c.xs_before.ensures, c.len-length.ensures) (omega (arith, turns m.xs m.ns m.some c.args.k, over_le m.xs m.ns c.args.k))

pub returns-clause-xs : goal.returns-clause-xs
returns-clause-xs c = let m = c.args.self in rw (c.xs_before.ensures, c.len-length.ensures) (omega (arith, turns m.xs m.ns m.some c.args.k))

pub returns-clause-bound : goal.returns-clause-bound
returns-clause-bound c = let m = c.args.self in rw (c.xs_before.ensures, c.len-length.ensures) (omega (arith, turns m.xs m.ns m.some c.args.k, over_le m.xs m.ns c.args.k))
