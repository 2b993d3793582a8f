-- The slots of a tariff: in ticks from its origin, and at each tick while it runs. "Slots" of the paper.
use Rattle.std.specs.Prelude.{Bool, true, false, if◌then◌else◌, not, ◌&&◌, ◌||◌, List, [], ◌∷◌, ℕ, zero, suc, ◌+◌}
use Rattle.std.specs.Prelude.{◌-◌, ◌*◌}
use Rattle.std.specs.Prelude.{◌/◌, ◌%◌, nat_le, nat_lt, ◌==◌, Option, None, Some}
use Rattle.pulse_map.specs.Pulses.{pulses_of, entry_of}
use Rattle.tariff.specs.declared.Phase.{Phase}
use Rattle.tariff.specs.declared.Slot.{Slot}
use Rattle.tariff.specs.declared.Slot.TheVariants.{Empty, Pulse}

-- some number below n passes the test
unfoldable pub any_below : ℕ → (ℕ → Bool) → Bool
any_below zero test = false
any_below (suc n) test = test n || any_below n test

-- em with C = 0: slots at 0, P, and so on
unfoldable pub endless_slot : ℕ → ℕ → Option Slot
endless_slot P x = if x % P == 0 then Some Pulse else None

-- em with C > 0: slot k (0 to C − 1) at k × P/C, rounded down
unfoldable pub counted_slot : ℕ → ℕ → ℕ → Option Slot
counted_slot C P x = if any_below C (λ k. k * P / C == x) then Some Pulse else None

-- a charge interval of m pulses: slots at j × pri, j below m; with m = 0 the start is an empty slot
unfoldable pub interval_slot : ℕ → ℕ → ℕ → Option Slot
interval_slot zero pri z = if z == 0 then Some Empty else None
interval_slot (suc m) pri z = if any_below (suc m) (λ j. j * pri == z) then Some Pulse else None

-- the pulses of interval i of a phase: pcx for X and pcn for N, by map entry i mod (repx + repn)
unfoldable pub interval_pulses : Phase → ℕ → ℕ
interval_pulses p i = pulses_of p.pcx p.pcn (entry_of p.repx p.repn i)

-- interval i starts i × ci seconds into its phase
unfoldable pub phase_slot : Phase → ℕ → Option Slot
phase_slot p x = interval_slot (interval_pulses p (x / (1000 * p.ci))) p.pri (x % (1000 * p.ci))

-- phases follow each other, each pd seconds; pd = 0 is endless
unfoldable pub phased_slot : List Phase → ℕ → Option Slot
phased_slot [] x = None
phased_slot (p ∷ ps) x =
    if p.pd == 0 || nat_lt x (1000 * p.pd) then phase_slot p x
    else phased_slot ps (x - 1000 * p.pd)

-- whether phases never end, and the seconds that they take if they do
unfoldable pub never_end : List Phase → Bool
never_end [] = false
never_end (p ∷ ps) = p.pd == 0 || never_end ps

unfoldable pub seconds : List Phase → ℕ
seconds [] = 0
seconds (p ∷ ps) = p.pd + seconds ps

-- a tariff that runs, with its origin at tick f
pub data Running : Type 0 where
  nothing : Running
  endless : (f P : ℕ) → Running
  counted : (f C P : ℕ) → Running
  phased : (f : ℕ) (ps : List Phase) → Running

-- a fresh em
abbrev pub em_at : ℕ → ℕ → ℕ → Running
em_at f C P = elim C [ zero ↦ endless f P | suc c ↦ counted f (suc c) P ]

-- an em with C = 0 runs
abbrev pub runs_endless : Running → Bool
runs_endless r = elim r [ nothing ↦ false | endless f P ↦ true | counted f C P ↦ false | phased f ps ↦ false ]

-- slots that begin at tick f
abbrev pub from : ℕ → (ℕ → Option Slot) → ℕ → Option Slot
from f slots t = if nat_le f t then slots (t - f) else None

-- what a tariff has at tick t
unfoldable pub slot_at : Running → ℕ → Option Slot
slot_at nothing t = None
slot_at (endless f P) t = from f (endless_slot P) t
slot_at (counted f C P) t = from f (counted_slot C P) t
slot_at (phased f ps) t = from f (phased_slot ps) t

abbrev pub no_slot : Option Slot → Bool
no_slot s = elim s [ None ↦ true | Some slot ↦ false ]

-- the n ticks after tick t have no slot
unfoldable pub quiet_for : Running → ℕ → ℕ → Bool
quiet_for r t zero = true
quiet_for r t (suc n) = no_slot (slot_at r (t + 1)) && quiet_for r (t + 1) n

-- a tariff completes at tick t: D ticks after slot C − 1 of an em with C > 0, or at the end of the last phase
unfoldable pub completes_at : ℕ → Running → ℕ → Bool
completes_at D nothing t = false
completes_at D (endless f P) t = false
completes_at D (counted f C P) t = t == f + (C - 1) * P / C + D
completes_at D (phased f ps) t = not (never_end ps) && t == f + 1000 * seconds ps

-- the first slot of an endless em past tick c
abbrev pub first_past : ℕ → ℕ → ℕ → ℕ
first_past f P c = if nat_lt c f then f else f + ((c - f) / P + 1) * P

-- a rate accepted after tick c keeps the first slot past c, and the later ones follow it P apart
unfoldable pub rated : Running → ℕ → ℕ → Running
rated nothing c P = nothing
rated (endless f Q) c P = endless (first_past f Q c) P
rated (counted f C Q) c P = counted f C Q
rated (phased f ps) c P = phased f ps
