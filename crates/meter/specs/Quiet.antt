-- The quiet ticks that come first.
use Rattle.std.specs.Prelude.{if◌then◌else◌, ℕ, zero, suc}
use Rattle.state.specs.States.{quiet_of, waited_of}
use Rattle.state.specs.declared.State.{State}

-- on a line of pulse length D and spacing S: the state after the quiet ticks that come first among n, and how many of
-- the n are left
unfoldable pub quiet_first : ℕ → ℕ → ℕ → State → State × ℕ
quiet_first D S zero s = (s, 0)
quiet_first D S (suc n) s = if quiet_of D S s then quiet_first D S n (waited_of S s) else (s, suc n)
