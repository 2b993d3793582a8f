-- What is claimed of charging by the count of the phase, and of a line that is given the phases.
use Rattle.std.specs.Prelude.{◌≡◌, ℕ, ◌+◌, ◌-◌, ◌<◌, ◌≤◌, max, map, length, Ok, Err}
use Rattle.std.specs.List.{sum}
use Rattle.fractions.specs.Rounding.{rounded_up}
use Rattle.fractions.specs.Answers.{given, no_tariff}
use Rattle.pulse_map.specs.Pulses.{pulses_in}
use Rattle.tariff.specs.declared.Phase.{Phase}
use Rattle.phase_lists.specs.Lists.{phases_of}
use Rattle.descriptor.specs.declared.BurstPart.{BurstPart}
use Rattle.descriptor.specs.declared.BurstPart.TheVariants.{Keep as KeepBurst}
use Rattle.descriptor.specs.declared.TariffPart.TheVariants.{Phased}
use Rattle.descriptor.specs.declared.Refusal.{Refusal}
use Rattle.descriptor.specs.Refusals.{refusal_number}
use Rattle.grammar.specs.Meaning.{descriptor}
use Rattle.line.specs.declared.Line.{Line}
use Rattle.line.specs.Lines.{Verdict, read_answer}
use Rattle.phases.specs.declared.Phases.{Phases}
use Rattle.phases.specs.Holding.{lists_of_phases}
use Rattle.phase_total.specs.Rest.{half_up, apart}
use Rattle.phase_total.specs.Windows.{whole, remaining, elements, first_map, total, sent, second_count, windows}
use Rattle.phase_total.specs.Windows.{no_counts, phases_answer}
use Rattle.phase_total.specs.declared.Charging.{Charging}

-- the pulses of a phase, whose last interval is charged in full
abbrev pub phase_pulses : Phase → ℕ
phase_pulses p = pulses_in p.pcx p.repx p.pcn p.repn (rounded_up p.pd p.ci)

-- of a phase that is charged by its count, where b and ci are not 0
pub record Counted (c : Charging) : Type 0 where
  -- No other whole number, 0 or above, is nearer to the exact rest than the second count. The rest less n is the total
  -- less what is sent and n.
  pub nearest : (n : ℕ) →
      apart (total c) (sent (first_map c) c + second_count (first_map c) c)
      ≤ apart (total c) (sent (first_map c) c + n)
  -- to round the whole total and then take away what is sent is the same
  pub total_first : second_count (first_map c) c ≡ half_up (total c) - sent (first_map c) c
  -- the windows have the seconds of the phase
  pub seconds : sum (map (λ p. p.pd) (windows (first_map c) c)) ≡ c.pd
  -- where seconds remain, they send the total, rounded, or what the first window sends where that is more
  pub in_all : 0 < remaining c →
      sum (map phase_pulses (windows (first_map c) c)) ≡ max (half_up (total c)) (sent (first_map c) c)
  -- 9 is that of the first window's map, if there is one
  pub nine : 0 < whole c → no_counts c ≡ no_tariff c.a c.b (elements c)

-- of the phases that are written for it, by value
pub record Written (c : Charging) (s : Phases) : Type 0 where
  -- the seven lists hold the windows
  pub held : phases_of (lists_of_phases s) ≡ windows (first_map c) c
  -- there is one, or there are two
  pub some : 1 ≤ length (windows (first_map c) c)
  pub most : length (windows (first_map c) c) ≤ 2

-- what a line answers to the phases, with a burst part
abbrev pub verdict : Line → Phases → BurstPart → Verdict
verdict l s u = (read_answer l (descriptor Phased (lists_of_phases s) u)).verdict

-- of a line that is given these phases
pub record Taken (l : Line) (s : Phases) : Type 0 where
  -- it never answers 5 and never 6
  pub never : (u : BurstPart) (r : Refusal) → verdict l s u ≡ Err r →
      (refusal_number r ≡ 5 → ⊥) × (refusal_number r ≡ 6 → ⊥)
  -- it takes them, if its burst is kept
  pub kept : verdict l s KeepBurst ≡ Ok 0

pub record Claims : Type 0 where
  pub counted : (c : Charging) → 0 < c.b → 0 < c.ci → Counted c
  pub written : (S : ℕ) (c : Charging) (s : Phases) → phases_answer S c ≡ given s → Written c s
  -- on any line of the spacing that they are written for
  pub taken : (S : ℕ) (c : Charging) (s : Phases) → phases_answer S c ≡ given s →
      (l : Line) → l.spacing ≡ S → Taken l s
