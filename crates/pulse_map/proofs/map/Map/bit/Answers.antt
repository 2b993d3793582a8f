use Rattle.std.proofs.Common.{arith, add-one}
use Rattle.pulse_map.specs.Map.{map_of}
use Rattle.pulse_map.proofs.Laws.{prefix_step}
use Rattle.pulse_map.proofs.Words.{words-bit}
use Rattle.pulse_map.proofs.map.Map.bit.Goals as goal

pub overflow_sub-result : goal.overflow_sub-result
overflow_sub-result c = let m = c.args.self in omega (arith, rw (← add-one) at (prefix_step (map_of m.xs m.ns) c.args.i))

pub returns-in-Some : goal.returns-in-Some
returns-in-Some c = let m = c.args.self in rw c.in-Some.ensures (words-bit (map_of m.xs m.ns) c.args.i (omega arith))

pub returns-in-None : goal.returns-in-None
returns-in-None c = let m = c.args.self in omega (arith, rw (← add-one) at (prefix_step (map_of m.xs m.ns) c.args.i))
