-- Worked examples, by computation.
use Rattle.std.specs.Prelude.{◌≡◌, refl, ℕ, List, [], ◌∷◌}
use Rattle.fractions.specs.Answers.{Result, refused, given}
use Rattle.pulse_map.specs.Map.{map_of, x_groups, n_groups}
use Rattle.pulse_map.specs.Pulses.{pulses_in}
use Rattle.tariff.specs.declared.Phase.{Phase}
use Rattle.rules.specs.Rules.{sound_phase, sound_phases}
use Rattle.phase_total.specs.Windows.{first_map, sent, second_count, windows, windows_answer}
use Rattle.phase_total.specs.declared.Charging.{Charging}

-- a/b pulses in each ci of pd seconds, with slots a second apart
abbrev charging : ℕ → ℕ → ℕ → ℕ → Charging
charging a b ci pd = record { a = a; b = b; ci = ci; pd = pd; pri = 1000 }

-- 7/3 in each 25 of 180 seconds: 16, and 1 in the second window below
pub sixteen : sent (first_map (charging 7 3 25 180)) (charging 7 3 25 180) ≡ 16
unfolding pulses_in map_of x_groups n_groups
sixteen = refl

-- a window of one map, and one of one interval
abbrev first : ℕ → ℕ → ℕ → ℕ → ℕ → ℕ → Phase
first pcx repx pcn repn ci pd =
    record { pri = 1000; pcx = pcx; repx = repx; pcn = pcn; repn = repn; ci = ci; pd = pd }

abbrev second : ℕ → ℕ → Phase
second n seconds = record { pri = 1000; pcx = n; repx = 1; pcn = n; repn = 0; ci = seconds; pd = seconds }

-- what is answered on a line of spacing 100
abbrev answered : ℕ → ℕ → ℕ → ℕ → Result (List Phase)
answered a b ci pd = windows_answer 100 (charging a b ci pd)

pub the-two : answered 7 3 25 180 ≡ given (first 3 2 2 5 25 175 ∷ second 1 5 ∷ [])
unfolding windows_answer windows second_count pulses_in map_of x_groups n_groups sound_phase sound_phases
the-two = refl

-- 1/20 in each 10 of 1,005 seconds: the map's X stands 10 times in 100 intervals, where 5.025 are due
pub never-below : answered 1 20 10 1005 ≡ given (first 1 1 0 9 10 1000 ∷ second 0 5 ∷ [])
unfolding windows_answer windows second_count pulses_in map_of x_groups n_groups sound_phase sound_phases
never-below = refl

-- no remainder, and no whole interval: 3.5 is 4, and an interval longer than a day is then in no phase
pub first-alone : answered 7 1 25 100 ≡ given (first 7 0 7 4 25 100 ∷ [])
unfolding windows_answer windows second_count pulses_in map_of x_groups n_groups sound_phase sound_phases
first-alone = refl

pub second-alone : answered 7 1 100000 50000 ≡ given (second 4 50000 ∷ [])
unfolding windows_answer windows second_count pulses_in map_of x_groups n_groups sound_phase sound_phases
second-alone = refl

-- 18 comes before 9, and 9 before 6
pub in-order :
    answered 7 0 0 180 ∷ answered 7 0 25 0 ∷ answered 7 0 100000 200000 ∷ answered 7 1 100000 200000 ∷ []
    ≡ refused 18 ∷ refused 18 ∷ refused 9 ∷ refused 6 ∷ []
unfolding windows_answer windows second_count pulses_in map_of x_groups n_groups sound_phase sound_phases
in-order = refl

-- 65,535 pulses an interval may be asked for, and 65,536 may not
pub most : answered 65535 1 65535 1 ∷ answered 65536 1 65536 1 ∷ [] ≡ given (second 1 1 ∷ []) ∷ refused 9 ∷ []
unfolding windows_answer windows second_count pulses_in map_of x_groups n_groups sound_phase sound_phases
most = refl
