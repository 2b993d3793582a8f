-- Charging by the count of the phase: the windows that a phase is written in, and what is answered.
use Rattle.std.specs.Prelude.{Bool, if◌then◌else◌, ◌||◌, List, [], ◌∷◌, ◌++◌, ℕ, ◌*◌, ◌/◌, ◌%◌, ◌==◌, min, nat_lt}
use Rattle.fractions.specs.Components.{Components, components_of, pcx_of}
use Rattle.fractions.specs.Answers.{Result, refused, given}
use Rattle.pulse_map.specs.Pulses.{pulses_in}
use Rattle.tariff.specs.declared.Phase.{Phase}
use Rattle.rules.specs.Rules.{sound_phases}
use Rattle.phases.specs.Holding.{holding}
use Rattle.phases.specs.declared.Phases.{Phases}
use Rattle.phase_total.specs.Rest.{Fraction, less, half_up}
use Rattle.phase_total.specs.declared.Charging.{Charging}

-- the whole intervals of the phase
abbrev pub whole : Charging → ℕ
whole c = c.pd / c.ci

-- its remaining seconds
abbrev pub remaining : Charging → ℕ
remaining c = c.pd % c.ci

-- the first window's map has min(10, the number of whole intervals) elements
abbrev pub elements : Charging → ℕ
elements c = min 10 (whole c)

abbrev pub first_map : Charging → Components
first_map c = components_of c.a c.b (elements c)

-- the exact total of the phase: a/b pulses for each ci of its pd seconds
abbrev pub total : Charging → Fraction
total c = record { over = c.a * c.pd; under = c.b * c.ci }

-- where m is the first window's map
module _ (m : Components) (c : Charging) where
  -- what the first window sends: its map repeats over the whole intervals
  abbrev pub sent : ℕ
  sent = pulses_in m.pcx m.repx m.pcn m.repn (whole c)

  -- the exact rest, rounded half up and never below 0
  unfoldable pub second_count : ℕ
  second_count = half_up (less (total c) sent)

  -- the whole intervals
  abbrev pub first_window : Phase
  first_window =
      record { pri = c.pri; pcx = m.pcx; repx = m.repx; pcn = m.pcn; repn = m.repn; ci = c.ci; pd = whole c * c.ci }

  -- the remaining seconds, as one interval
  abbrev pub second_window : Phase
  second_window =
      record {
        pri = c.pri;
        pcx = second_count;
        repx = 1;
        pcn = second_count;
        repn = 0;
        ci = remaining c;
        pd = remaining c;
      }

  -- no whole interval means no first window, and no remainder no second
  unfoldable pub windows : List Phase
  windows =
      (if whole c == 0 then [] else first_window ∷ []) ++ (if remaining c == 0 then [] else second_window ∷ [])

-- 9: b = 0, or pcx over 65,535. A first window's n is 1 to 10, and without one there is no n to judge.
abbrev pub no_counts : Charging → Bool
no_counts c = c.b == 0 || nat_lt 65535 (pcx_of c.a c.b)

-- on a line of spacing S, the phases written, or 6
abbrev pub judged : ℕ → List Phase → Result (List Phase)
judged S ps = if sound_phases S ps then given ps else refused 6

-- 18 for ci or pd of 0, and then 9, and then 6
unfoldable pub windows_answer : ℕ → Charging → Result (List Phase)
windows_answer S c =
    if c.ci == 0 || c.pd == 0 then refused 18
    else if no_counts c then refused 9
    else judged S (windows (first_map c) c)

-- the same by value, as a descriptor lends them
abbrev pub phases_by : Result (List Phase) → Result Phases
phases_by (refused n) = refused n
phases_by (given ps) = given (holding ps)

abbrev pub phases_answer : ℕ → Charging → Result Phases
phases_answer S c = phases_by (windows_answer S c)
