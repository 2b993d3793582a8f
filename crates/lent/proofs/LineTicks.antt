-- A tick of a line, in the terms of its state: what a tick changes, and that a quiet one only moves time on.
use Rattle.std.proofs.Common.{◌≡◌, true, refl}
use Rattle.answers.specs.Fronts.{silent}
use Rattle.state.specs.States.{quiet_of, waited_of}
use Rattle.ticking.proofs.QuietTicks.{quiet_moves}
use Rattle.line.specs.Lines.{with_state, move_of, tick_of}
use Rattle.line.specs.declared.Line.{Line}

pub any_tick : (l : Line) → tick_of l ≡ record { line = with_state l (move_of l).state; tick = (move_of l).tick }
unfolding tick_of
any_tick l = refl

pub quiet_tick : (l : Line) → quiet_of l.pulse l.spacing l.state ≡ true →
    tick_of l ≡ record { line = with_state l (waited_of l.spacing l.state); tick = silent }
unfolding tick_of
quiet_tick l quiet = rw (quiet_moves l.pulse l.spacing l.schedule l.state quiet) refl
