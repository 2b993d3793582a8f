use Rattle.pulse_map.proofs.Intervals.{pulses-over}
use Rattle.pulse_map.proofs.pulses.pulses_in.Goals as goal

pub returns : goal.returns
returns c =
    let a = c.args in
    let m = c.in_ok-of.ensures in
    rw (c.weighed.ensures, c.xs_over-xs.ensures.xs, c.into.ensures, m.1, m.2, m.0, pulses-over a.p.repx a.p.repn a.p.pcx a.p.pcn a.k)
