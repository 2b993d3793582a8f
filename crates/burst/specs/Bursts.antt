-- A burst on a line: what is owed, one tick on, whether its next pulse may start, and after that pulse's front.
use Rattle.std.specs.Prelude.{Bool, true, false, not, ◌&&◌, ℕ, ◌+◌, ◌-◌, min, nat_le, nat_lt, ◌==◌, if◌then◌else◌}
use Rattle.std.specs.Prelude.{Option, None, Some}
use Rattle.std.specs.Option.{option_map_or}
use Rattle.burst.specs.declared.Burst.{Burst}
use Rattle.burst.specs.declared.Aged.{Aged}

-- ---- a burst

abbrev pub burst_with : ℕ → ℕ → ℕ → Burst
burst_with owed distance since = record { owed = owed; distance = distance; since = since }

-- a burst of n pulses starts with its distance B passed
abbrev pub start_of : ℕ → ℕ → Burst
start_of n B = burst_with n B B

-- it runs: its distance is above 0
abbrev pub runs : Burst → Bool
runs b = nat_lt 0 b.distance

-- one tick more, held at n
abbrev pub held_more : ℕ → ℕ → ℕ
held_more n k = min n (k + 1)

-- a tick later, while it runs on
abbrev pub older_of : Burst → Burst
older_of b = burst_with b.owed b.distance (held_more b.distance b.since)

-- a burst that runs and of which no pulse is owed is complete D ticks after its last front
unfoldable pub completes_of : ℕ → Burst → Bool
completes_of D b = runs b && (b.owed == 0 && held_more b.distance b.since == D)

-- a pulse is owed, and its distance has passed
abbrev pub is_due : Burst → Bool
is_due b = nat_lt 0 b.owed && nat_le b.distance b.since

-- one tick on nothing of it happens, where passed says whether S ticks will have passed since the last front: it is not
-- complete and its next pulse may not start, or it does not run and owes none
unfoldable pub rests : ℕ → Bool → Burst → Bool
rests D passed b = if runs b then not (completes_of D b) && not (is_due (older_of b) && passed) else b.owed == 0

abbrev pub begun_of : Burst → Burst
begun_of b = burst_with (b.owed - 1) b.distance 0

-- ---- a burst or none

-- none runs
abbrev pub no_burst : Option Burst
no_burst = None

abbrev pub is_running : Option Burst → Bool
is_running b = option_map_or runs b false

-- the pulses owed
abbrev pub burst_owed : Option Burst → ℕ
burst_owed b = option_map_or (λ u. u.owed) b 0

abbrev pub any_due : Option Burst → Bool
any_due b = option_map_or is_due b false

unfoldable pub aged_of : ℕ → Option Burst → Aged
aged_of D None = record { burst = None; complete = false }
aged_of D (Some b) =
    record { burst = if completes_of D b then None else Some (older_of b); complete = completes_of D b }

-- one tick on nothing of it happens, or there is none
unfoldable pub burst_quiet : ℕ → Bool → Option Burst → Bool
burst_quiet D passed b = option_map_or (rests D passed) b true
