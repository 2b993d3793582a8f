-- What a history says of the line: read from its calls and answers alone. A history is held newest first.
use Rattle.std.specs.Prelude.{Bool, true, false, if◌then◌else◌, ◌&&◌, ◌||◌, List, [], ◌∷◌, ℕ, ◌+◌, ◌-◌, max, nat_le}
use Rattle.std.specs.Prelude.{nat_lt, ◌==◌}
use Rattle.std.specs.Prelude.{Option, None}
use Rattle.slots.specs.Slots.{Running, nothing, phased, em_at, rated, completes_at}
use Rattle.demand.specs.Names.{Front, Tick, Phase, TariffPart, NoTariff, KeepTariff, Rate, Em, Phased, one_more}
use Rattle.demand.specs.Names.{BurstPart, NoBurst, KeepBurst, Start, silent, if_front, if_burst, is_burst_front}
use Rattle.demand.specs.Calls.{audit, Answer, accepted, refused, asked, counters, ticked, Entry}
use Rattle.demand.specs.Calls.{Asked, asks}

-- what the call of an entry asked; a refused call gets no more than an audit
abbrev pub unless_refused : Answer → Asked → Asked
unless_refused a x =
    elim a [ accepted k ↦ x | refused n ↦ asks audit | asked w n ↦ x | counters m n ↦ x | ticked t ↦ x ]

abbrev pub granted : Entry → Asked
granted e = unless_refused e.answer (asks e.call)

-- what an answer tells of a tick: nothing, if it is another call's
abbrev pub told : Answer → Tick
told a = elim a [ accepted k ↦ silent | refused n ↦ silent | asked w n ↦ silent | counters m n ↦ silent | ticked t ↦ t ]

-- a front is a tick's answer that a tariff pulse or a burst pulse begins
abbrev pub front_of : Entry → Option Front
front_of e = (told e.answer).front

unfoldable pub sum : (Entry → ℕ) → List Entry → ℕ
sum f [] = 0
sum f (e ∷ h) = f e + sum f h

-- accepted: the sum of n over the accepted burst starts
abbrev pub accepted_pulses : List Entry → ℕ
accepted_pulses h = sum (λ e. elim (granted e).burst [ NoBurst ↦ 0 | KeepBurst ↦ 0 | Start n P ↦ n ]) h

-- begun: the number of burst fronts
abbrev pub begun : List Entry → ℕ
begun h = sum (λ e. is_burst_front (front_of e)) h

-- reported cancelled: the sum of the cancelled counts answered
abbrev pub cancelled : List Entry → ℕ
cancelled h =
    sum (λ e. elim e.answer [ accepted k ↦ k | refused n ↦ 0 | asked w n ↦ 0 | counters m n ↦ 0 | ticked t ↦ 0 ]) h

-- ticks are numbered from 1: the next one is ticks h + 1
unfoldable pub ticks : List Entry → ℕ
ticks [] = 0
ticks (e ∷ h) = if (granted e).tick then ticks h + 1 else ticks h

-- the tick of the last front, if there was one
pub data Last : Type 0 where
  never : Last
  at : (u : ℕ) → Last

unfoldable pub last_front : List Entry → Last
last_front [] = never
last_front (e ∷ h) = if_front (front_of e) (at (ticks h + 1)) (last_front h)

-- n ticks have passed at tick now since the last front; with no earlier front this asks nothing
abbrev pub passed : ℕ → Last → ℕ → Bool
passed n last now = elim last [ never ↦ true | at u ↦ nat_le (u + n) now ]

-- a pulse of D ticks that began at the last front is on at tick now
abbrev pub pulse_on : ℕ → Last → ℕ → Bool
pulse_on D last now = elim last [ never ↦ false | at u ↦ nat_lt now (u + D) ]

-- the burst that was started last, unless it was cancelled: how many of its n fronts began, and the last of them
pub data Started : Type 0 where
  idle : Started
  started : (n P begun : ℕ) (last : Last) → Started

abbrev pub one_begun : ℕ → Started → Started
one_begun now b = elim b [ idle ↦ idle | started n P k last ↦ started n P (k + 1) (at now) ]

abbrev pub burst_by : BurstPart → Option Front → ℕ → Started → Started
burst_by p f now b =
    elim p [ NoBurst ↦ idle | KeepBurst ↦ if_burst f (one_begun now b) b | Start n P ↦ started n P 0 never ]

unfoldable pub burst_in : List Entry → Started
burst_in [] = idle
burst_in (e ∷ h) = burst_by (granted e).burst (front_of e) (ticks h + 1) (burst_in h)

-- the n of the last accepted start less the burst fronts after it; 0 after a burst part none or a hook stop
abbrev pub owed_of : Started → ℕ
owed_of b = elim b [ idle ↦ 0 | started n P k last ↦ n - k ]

abbrev pub owed : List Entry → ℕ
owed h = owed_of (burst_in h)

-- a burst runs until its last pulse ends, and is complete then
abbrev pub burst_runs : ℕ → Started → ℕ → Bool
burst_runs D b now = elim b [ idle ↦ false | started n P k last ↦ nat_lt k n || pulse_on D last now ]

abbrev pub burst_completes : ℕ → Started → ℕ → Bool
burst_completes D idle now = false
burst_completes D (started n P k never) now = false
burst_completes D (started n P k (at u)) now = nat_le n k && now == u + D

-- a burst pulse is owed, and the larger of P and S has passed since this burst's last front
abbrev pub burst_ready : ℕ → Started → ℕ → Bool
burst_ready S b now = elim b [ idle ↦ false | started n P k last ↦ nat_lt k n && passed (max P S) last now ]

-- the later of the next tick and S after the last front
abbrev pub origin_after : ℕ → Last → ℕ → ℕ
origin_after S last c = elim last [ never ↦ c + 1 | at u ↦ max (c + 1) (u + S) ]

-- what an accepted tariff part makes of what ran after tick c; f is the origin of a fresh tariff
abbrev pub changed_by : TariffPart → List Phase → ℕ → ℕ → Running → Running
changed_by t ps f c r =
    elim t [
      | NoTariff ↦ nothing
      | KeepTariff ↦ r
      | Rate P ↦ rated r c P
      | Em m ↦ em_at f m.count m.period
      | Phased ↦ phased f ps
    ]

-- a tariff runs to the tick of its completion or, if earlier, to a change
unfoldable pub running : ℕ → ℕ → List Entry → Running
running D S [] = nothing
running D S (e ∷ h) =
    changed_by (granted e).tariff (granted e).phases (origin_after S (last_front h) (ticks h)) (ticks h)
    (if (granted e).tick && completes_at D (running D S h) (ticks h + 1) then nothing else running D S h)

-- only a fresh em zeroes the counters
abbrev pub zeroed_by : TariffPart → ℕ → ℕ
zeroed_by t n = elim t [ NoTariff ↦ n | KeepTariff ↦ n | Rate P ↦ n | Em m ↦ 0 | Phased ↦ n ]

-- the fronts since the last accepted fresh em, or since the start
unfoldable pub fronts_since_em : List Entry → ℕ
fronts_since_em [] = 0
fronts_since_em (e ∷ h) =
    zeroed_by (granted e).tariff (if_front (front_of e) (fronts_since_em h + 1) (fronts_since_em h))

-- pcslr: the pulses since the last report
unfoldable pub since_report : List Entry → ℕ
since_report [] = 0
since_report (e ∷ h) =
    zeroed_by (granted e).tariff
    (if (told e.answer).report then 0 else if_front (front_of e) (one_more (since_report h)) (since_report h))

-- the report period, if one is set
unfoldable pub period_in : List Entry → Option ℕ
period_in [] = None
period_in (e ∷ h) = (granted e).period (period_in h)
