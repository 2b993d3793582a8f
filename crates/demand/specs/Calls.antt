-- The calls on a line, the record of a call, and of each call what it asks and what it may be refused for.
use Rattle.std.specs.Prelude.{Bool, true, false, List, [], ◌∷◌, ◌++◌, ℕ}
use Rattle.std.specs.Prelude.{Option, None, Some}
use Rattle.demand.specs.Names.{Tick, Phase, TariffPart, NoTariff, KeepTariff, BurstPart, NoBurst, KeepBurst}
use Rattle.demand.specs.Names.{Hook, KeepHook, Stop, Cause, cause, descriptor_causes, period_causes, ticket_causes}
use Rattle.demand.specs.Names.{Reading, unreadable, senseless, descriptor, phases_of, Grammar, Content}

-- a descriptor is what it reads as, and with a ticket it is a commit; a tick on a lent record is a tick too
pub data Call : Type 0 where
  describe : (ticket : Option ℕ) (d : Reading) → Call
  ask : (d : Reading) → Call
  hook : (event : Hook) → Call
  period : (rp : ℕ) → Call
  no_period : Call
  audit : Call
  tick : Call

-- the burst pulses cancelled; a refusal's number; what a commit would be answered, and the ticket for it; both
-- counters; what a tick tells
pub data Answer : Type 0 where
  accepted : (cancelled : ℕ) → Answer
  refused : (number : ℕ) → Answer
  asked : (would : Answer) (ticket : ℕ) → Answer
  counters : (cpc pcslr : ℕ) → Answer
  ticked : (t : Tick) → Answer

-- a call, its answer, and the clock and whether a pulse is on in the line that it hands back or leaves
pub record Entry : Type 0 where
  pub call : Call
  pub answer : Answer
  pub clock : ℕ
  pub on : Bool

-- a tariff part with its phases, a burst part, the report period by the one before, and whether the call is a tick
pub record Asked : Type 0 where
  pub tariff : TariffPart
  pub phases : List Phase
  pub burst : BurstPart
  pub period : Option ℕ → Option ℕ
  pub tick : Bool

abbrev pub asking : TariffPart → List Phase → BurstPart → (Option ℕ → Option ℕ) → Bool → Asked
asking t ps b f is_tick = record { tariff = t; phases = ps; burst = b; period = f; tick = is_tick }

abbrev pub nothing : Asked
nothing = asking KeepTariff [] KeepBurst (λ rp. rp) false

-- what a call asks
abbrev pub asks : Call → Asked
asks (describe ticket unreadable) = nothing
asks (describe ticket senseless) = nothing
asks (describe ticket (descriptor t ls b)) = asking t (phases_of ls) b (λ rp. rp) false
asks (ask d) = nothing
asks (hook KeepHook) = nothing
asks (hook Stop) = asking NoTariff [] NoBurst (λ rp. rp) false
asks (period n) = asking KeepTariff [] KeepBurst (λ rp. Some n) false
asks no_period = asking KeepTariff [] KeepBurst (λ rp. None) false
asks audit = nothing
asks tick = asking KeepTariff [] KeepBurst (λ rp. rp) true

-- on a line of spacing S: whether an em with C = 0 runs, and whether a burst runs
module _ (S : ℕ) (endless_runs burst_runs : Bool) where
  -- what a descriptor may be refused for
  abbrev pub reading_causes : Reading → List Cause
  reading_causes unreadable = cause Grammar true ∷ []
  reading_causes senseless = cause Content true ∷ []
  reading_causes (descriptor t ls b) = descriptor_causes S endless_runs burst_runs t ls b

  -- what a call may be refused for, by the line's serial; a commit's own causes stand before those of its descriptor
  abbrev pub causes : ℕ → Call → List Cause
  causes serial (describe None d) = reading_causes d
  causes serial (describe (Some ticket) d) = ticket_causes ticket serial ++ reading_causes d
  causes serial (ask d) = []
  causes serial (hook event) = []
  causes serial (period rp) = period_causes rp
  causes serial no_period = []
  causes serial audit = []
  causes serial tick = []
