-- The starred examples of the paper, together in one list, and what each says of the definitions.
use Rattle.std.specs.Prelude.{◌≡◌, if◌then◌else◌, List, [], ◌∷◌, ◌++◌, map, ℕ, zero, suc, ◌+◌, ◌*◌, Option, Some, None}
use Rattle.pulse_map.specs.Examples.{Example, starred, Holds}
use Rattle.tariff.specs.Tariffs.{em}
use Rattle.slots.specs.Slots.{no_slot, counted_slot, phase_slot}
use Rattle.phase_lists.specs.Lists.{no_lists}
use Rattle.demand.specs.Names.{Phase, Slot, Empty, Pulse, Em, KeepBurst}
use Rattle.demand.specs.Calls.{Answer, accepted, refused}
use Rattle.demand.specs.Machine.{parts}
use Rattle.demand.specs.Answers.{answer_after}

-- the ticks below n at which a tariff has a slot, counted from its origin
abbrev pub slots_below : (ℕ → Option Slot) → ℕ → List ℕ
slots_below slot zero = []
slots_below slot (suc n) = slots_below slot n ++ (if no_slot (slot n) then [] else n ∷ [])

-- how many of them have a pulse
unfoldable pub pulses_below : (ℕ → Option Slot) → ℕ → ℕ
pulses_below slot zero = 0
pulses_below slot (suc n) = pulses_below slot n + elim (slot n) [ None ↦ 0 | Some Empty ↦ 0 | Some Pulse ↦ 1 ]

-- an example, as the paper writes it
pub data Starred : Type 0 where
  -- of a map or of a/b pulses
  of_map : (e : Example) → Starred
  -- em C P has its slots so many ticks after f
  of_em : (C P : ℕ) (slots : List ℕ) → Starred
  -- a phase has so many pulses
  of_phase : (p : Phase) (pulses : ℕ) → Starred
  -- em C P on a fresh line of pulse length D and spacing S gets this answer
  of_answer : (D S C P : ℕ) (a : Answer) → Starred

-- what an example says; of a phase, the ticks of its pd seconds are looked at one by one
abbrev pub StarredHolds : Starred → Type 0
StarredHolds (of_map e) = Holds e
StarredHolds (of_em C P slots) = slots_below (counted_slot C P) P ≡ slots
StarredHolds (of_phase p pulses) = pulses_below (phase_slot p) (1000 * p.pd) ≡ pulses
StarredHolds (of_answer D S C P a) = answer_after D S [] (parts (Em (em C P)) no_lists KeepBurst) ≡ a

abbrev pub AllStarred : List Starred → Type 0
AllStarred [] = Unit {0}
AllStarred (e ∷ es) = StarredHolds e × AllStarred es

-- pd 180, ci 25, {3 2}{2 5}, with the largest pri that a line of spacing 100 takes there
abbrev pub three_minutes : Phase
three_minutes = record { pri = 1666; pcx = 3; repx = 2; pcn = 2; repn = 5; ci = 25; pd = 180 }

-- the starred examples, in the paper's order
abbrev pub examples : List Starred
examples =
    map of_map starred
    ++ (of_em 3 1000 (0 ∷ 333 ∷ 666 ∷ [])
    ∷ of_phase three_minutes 19
    ∷ of_answer 50 100 0 200 (accepted 0)
    ∷ of_answer 50 100 0 199 (refused 4)
    ∷ [])
