-- A tariff where it stands, and the tariffs that a descriptor sets: what the code computes.
use Rattle.std.specs.Prelude.{Bool, true, false, if◌then◌else◌, List, ℕ, zero, suc, nat_le, nat_lt, get_or}
use Rattle.tariff.specs.declared.Em.{Em}
use Rattle.tariff.specs.declared.Phase.{Phase}
use Rattle.tariff.specs.declared.Position.{Position}
use Rattle.tariff.specs.declared.Schedule.{Schedule}
use Rattle.tariff.specs.declared.Tariff.{Tariff}
use Rattle.tariff.specs.declared.Tariff.TheVariants.{Idle, Endless, Counted, Phased, Ending}
use Rattle.tariff.specs.declared.Timed.{Timed}

-- a phase of no use, which fills the array up
abbrev pub no_phase : Phase
no_phase = record { pri = 0; pcx = 0; repx = 0; pcn = 0; repn = 0; ci = 0; pd = 0 }

-- the phase at a place of the array of eight
abbrev pub phase_at : List Phase → ℕ → Phase
phase_at ps i = if nat_lt i 8 then get_or ps i no_phase else no_phase

-- so many phases, at the front of the array of eight
abbrev pub schedule_of : List Phase → ℕ → Schedule
schedule_of ps n = record { count = n; phases = ps }

-- an em of count C and period P
abbrev pub em : ℕ → ℕ → Em
em C P = record { count = C; period = P }

-- before slot j of a charge interval of phase i with map entry e, from whose start on the phase has l seconds
abbrev pub position : ℕ → ℕ → ℕ → ℕ → Position
position i e l j = record { phase = i; entry = e; left = l; slot = j }

-- where phase i begins, which is p
abbrev pub phase_start : ℕ → Phase → Position
phase_start i p = position i 0 p.pd 0

-- a tariff, and the ticks to its next slot or to its completion
abbrev pub timed : Tariff → ℕ → Timed
timed t w = record { tariff = t; wait = w }

-- a slot is left
abbrev pub slot_left : Tariff → Bool
slot_left t = elim t [ Idle ↦ false | Endless P ↦ true | Counted m k ↦ true | Phased q ↦ true | Ending ↦ false ]

-- the next slot is S ticks away or more, if one is left
abbrev pub room_of : ℕ → Timed → Bool
room_of S x = if slot_left x.tariff then nat_le S x.wait else true

-- a fresh em and a fresh phased tariff
unfoldable pub em_of : ℕ → ℕ → Tariff
em_of zero P = Endless P
em_of (suc c) P = Counted (em (suc c) P) 0

unfoldable pub phased_of : List Phase → Tariff
phased_of ps = Phased (phase_start 0 (phase_at ps 0))

-- a rate: the next slot stays
unfoldable pub rate_of : ℕ → Tariff → Tariff
rate_of P Idle = Idle
rate_of P (Endless Q) = Endless P
rate_of P (Counted m k) = Counted m k
rate_of P (Phased q) = Phased q
rate_of P Ending = Ending

-- no tariff runs
abbrev pub is_idle : Tariff → Bool
is_idle t = elim t [ Idle ↦ true | Endless P ↦ false | Counted m k ↦ false | Phased q ↦ false | Ending ↦ false ]

-- an em with C = 0 runs
abbrev pub is_endless : Tariff → Bool
is_endless t = elim t [ Idle ↦ false | Endless P ↦ true | Counted m k ↦ false | Phased q ↦ false | Ending ↦ false ]
