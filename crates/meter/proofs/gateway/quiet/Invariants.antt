-- The ticks that are left are those of the state so far.
use Rattle.std.specs.Prelude.{◌≡◌, ◌-◌}
use Rattle.meter.specs.Quiet.{quiet_first}
use Rattle.meter.proofs.gateway.quiet.Given as goal

abbrev pub invariant-loop-done : goal.invariant-loop-done
invariant-loop-done l =
    quiet_first l.initial.pulse l.initial.spacing l.initial.n l.initial.state ≡ quiet_first l.initial.pulse l.initial.spacing (l.initial.n - l.done) l.state
