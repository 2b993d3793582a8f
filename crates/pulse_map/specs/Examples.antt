-- The starred examples of the paper that are about maps, as one statement over their list.
use Rattle.std.specs.Prelude.{◌≡◌, refl, List, [], ◌∷◌, map, ℕ}
use Rattle.fractions.specs.Components.{components_of}
use Rattle.pulse_map.specs.Map.{map_of, x_groups, n_groups}
use Rattle.pulse_map.specs.Pulses.{pulses_of}

-- an example, as the paper writes it
pub data Example : Type 0 where
  -- a/b over n elements is {pcx repx}{pcn repn}
  tariff : (a b n pcx repx pcn repn : ℕ) → Example
  -- the map of {pcx repx}{pcn repn} has these pulses
  pulses : (pcx repx pcn repn : ℕ) → List ℕ → Example

-- what an example says of the definitions
abbrev pub Holds : Example → Type 0
Holds (tariff a b n pcx repx pcn repn) = components_of a b n ≡ record { pcn = pcn; pcx = pcx; repx = repx; repn = repn }
Holds (pulses pcx repx pcn repn l) = map (pulses_of pcx pcn) (map_of repx repn) ≡ l

-- every example of a list holds
abbrev pub AllHold : List Example → Type 0
AllHold [] = Unit {0}
AllHold (e ∷ es) = Holds e × AllHold es

-- the starred examples about maps, in the paper's order
abbrev pub starred : List Example
starred =
    pulses 3 7 2 3 (3 ∷ 3 ∷ 2 ∷ 3 ∷ 3 ∷ 2 ∷ 3 ∷ 3 ∷ 2 ∷ 3 ∷ [])
    ∷ pulses 24 2 23 5 (24 ∷ 23 ∷ 23 ∷ 24 ∷ 23 ∷ 23 ∷ 23 ∷ [])
    ∷ tariff 7 3 10 3 3 2 7
    ∷ tariff 7 3 7 3 2 2 5
    ∷ tariff 1 20 10 1 1 0 9
    ∷ tariff 1 20 100 1 5 0 95
    ∷ tariff 43 10 10 5 3 4 7
    ∷ pulses 5 3 4 7 (5 ∷ 4 ∷ 4 ∷ 5 ∷ 4 ∷ 4 ∷ 5 ∷ 4 ∷ 4 ∷ 4 ∷ [])
    ∷ []

-- they all hold
pub starred_hold : AllHold starred
unfolding map_of x_groups n_groups
starred_hold = (refl, (refl, (refl, (refl, (refl, (refl, (refl, (refl, tt))))))))
