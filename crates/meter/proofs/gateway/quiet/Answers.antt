-- `quiet` meets its contract: each turn of the loop is one quiet tick more.
use Rattle.std.proofs.Common.{rules, sym, ◌∙◌}
use Rattle.meter.proofs.QuietLaws.{goes_on, stops, ends}
use Rattle.meter.proofs.gateway.quiet.Goals as goal

pub returns-then-not-is_quiet : goal.returns-then-not-is_quiet
returns-then-not-is_quiet c =
    let l = c.loop-done in
    sym (l.invariant ∙ stops c.args.pulse c.args.spacing c.args.n l.done l.state (search rules) (search rules))

pub loop-done-preserved : goal.loop-done-preserved
loop-done-preserved c =
    let l = c.loop-done in
    l.invariant ∙ goes_on c.args.pulse c.args.spacing c.args.n l.done l.state (search rules) (search rules) ∙ search rules

pub returns : goal.returns
returns c =
    let l = c.loop-done in
    sym (l.invariant ∙ ends c.args.pulse c.args.spacing c.args.n l.done l.state (search rules))
