-- What is turned down: the table of the paper, and what the requests add to it. Causes stand in the order in which
-- they count, ascending where a request names no other.
use Rattle.std.specs.Prelude.{Bool, if◌then◌else◌, not, ◌&&◌, List, [], ◌∷◌, ◌++◌, ℕ, ◌==◌}
use Rattle.tariff.specs.Ranges.{within}
use Rattle.rules.specs.Rules.{sound_em, sound_phases}
use Rattle.phase_lists.specs.Lists.{Lists, phases_of, sound_lists}
use Rattle.descriptor.specs.Names.{TariffPart, NoTariff, KeepTariff, Rate, Em, Phased}
use Rattle.descriptor.specs.Names.{BurstPart, NoBurst, KeepBurst, Start, Ruling, Ok, Err, Refusal}
use Rattle.descriptor.specs.Names.{Configuration, Period, NoEndlessEm, Interval, PhaseLists, Phase}
use Rattle.descriptor.specs.Names.{Burst, BurstRuns, Grammar, Content, Row, Place, Ticket, Serial}

-- the paper's number of each cause
abbrev pub refusal_number : Refusal → ℕ
refusal_number Configuration = 1
refusal_number Period = 2
refusal_number NoEndlessEm = 3
refusal_number Interval = 4
refusal_number PhaseLists = 5
refusal_number Phase = 6
refusal_number Burst = 7
refusal_number BurstRuns = 8
refusal_number Grammar = 12
refusal_number Content = 13
refusal_number Row = 14
refusal_number Place = 15
refusal_number Ticket = 16
refusal_number Serial = 17

-- a cause to refuse a call, and whether it applies
pub data Cause : Type 0 where
  cause : (r : Refusal) (applies : Bool) → Cause

-- the first cause that applies
unfoldable pub ruling : List Cause → Ruling
ruling [] = Ok tt
ruling (cause r applies ∷ rest) = if applies then Err r else ruling rest

-- D and G, each 1 to 500
abbrev pub sound_configuration : ℕ → ℕ → Bool
sound_configuration D G = within 1 500 D && within 1 500 G

-- burst n 1 to 65,535 and P 1 to 60,000
abbrev pub sound_burst : ℕ → ℕ → Bool
sound_burst n P = within 1 65535 n && within 1 60000 P

-- on a line of spacing S: whether an em with C = 0 runs, and whether a burst runs
module _ (S : ℕ) (endless_runs burst_runs : Bool) where
  abbrev pub tariff_causes : TariffPart → Lists → List Cause
  tariff_causes NoTariff ls = []
  tariff_causes KeepTariff ls = []
  tariff_causes (Rate P) ls = cause NoEndlessEm (not endless_runs) ∷ cause Interval (not (sound_em S 0 P)) ∷ []
  tariff_causes (Em m) ls = cause Interval (not (sound_em S m.count m.period)) ∷ []
  tariff_causes Phased ls =
      cause PhaseLists (not (sound_lists ls)) ∷ cause Phase (not (sound_phases S (phases_of ls))) ∷ []

  abbrev pub burst_causes : BurstPart → List Cause
  burst_causes NoBurst = []
  burst_causes KeepBurst = []
  burst_causes (Start n P) = cause Burst (not (sound_burst n P)) ∷ cause BurstRuns burst_runs ∷ []

  -- those of the burst part stand after those of the tariff part
  abbrev pub descriptor_causes : TariffPart → Lists → BurstPart → List Cause
  descriptor_causes t ls b = tariff_causes t ls ++ burst_causes b

-- a report period of 0 is refused
abbrev pub period_causes : ℕ → List Cause
period_causes n = cause Period (n == 0) ∷ []

-- on commit: a ticket that differs from the serial, and then a serial at its top
abbrev pub ticket_causes : ℕ → ℕ → List Cause
ticket_causes ticket serial = cause Ticket (not (ticket == serial)) ∷ cause Serial (serial == 4294967295) ∷ []
