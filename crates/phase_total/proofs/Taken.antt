-- A line takes the phases that are written for its spacing.
use mathlib.Core.Path.{◌≡◌, refl, sym, ap, ◌∙◌}
use mathlib.Core.Bool.{Bool, true, false}
use mathlib.Mathlib.Data.Bool.Basic.{or-eq-false-eq-eq-false-and-eq-false as or-none}
use mathlib.Core.List.{List, [], ◌∷◌, ◌++◌}
use Prim.Native.Nat.{ℕ, ◌+◌, ◌*◌, ◌≤◌}
use native.Mathlib.Omega.{arith}
use lib.ListN.{length}
use Rattle.std.specs.Prelude.{if◌then◌else◌, ◌==◌, ◌||◌, Err}
use Rattle.std.proofs.lemmas.Nat.{div-add-mod'}
use borrow.Author.Tests.{eqb-true, eqb-false, le-leb}
use Rattle.fractions.specs.Answers.{refused, given}
use Rattle.tariff.specs.declared.Phase.{Phase}
use Rattle.rules.specs.Rules.{sound_phases}
use Rattle.phase_lists.specs.Lists.{Lists, sound_lists, phases_of}
use Rattle.descriptor.specs.declared.BurstPart.{BurstPart}
use Rattle.descriptor.specs.declared.BurstPart.TheVariants.{None as NoBurst, Keep as KeepBurst, Start}
use Rattle.descriptor.specs.declared.TariffPart.TheVariants.{Phased}
use Rattle.descriptor.specs.declared.Refusal.{Refusal}
use Rattle.descriptor.specs.declared.Refusal.TheVariants.{Burst, BurstRuns}
use Rattle.phase_lists.proofs.PhaseTables.{phases-length}
use Rattle.descriptor.specs.Refusals.{refusal_number, Cause, cause, ruling, burst_causes, descriptor_causes}
use Rattle.descriptor.specs.Names.{Ruling}
use Rattle.line.specs.declared.Line.{Line}
use Rattle.line.specs.Lines.{answered_by, burst_changed, tariff_changed, scheduled, describe_of}
use Rattle.tariff.specs.Tariffs.{is_endless}
use Rattle.burst.specs.Bursts.{is_running, burst_owed}
use Rattle.descriptor.specs.Cancelled.{cancelled_by}
use Rattle.phases.specs.declared.Phases.{Phases}
use Rattle.phases.specs.Holding.{holding, lists_of_phases}
use Rattle.phases.proofs.Columns.{as_held}
use Rattle.phase_total.specs.Windows.{whole, remaining, first_map, first_window, second_window, windows, windows_answer, phases_by, phases_answer, no_counts}
use Rattle.phase_total.specs.Claims.{verdict, Written, Taken}
use Rattle.phase_total.specs.declared.Charging.{Charging}

-- what is given was not refused
passed : (t u v : Bool) (ps : List Phase) (s : Phases)
    → phases_by (if t then refused 18 else if u then refused 9 else if v then given ps else refused 6) ≡ given s
    → (t ≡ false) × (v ≡ true) × (s ≡ holding ps)
passed true u v ps s e = cc
passed false true v ps s e = cc
passed false false false ps s e = cc
passed false false true ps s e = (refl, refl, cc)

-- one window or two are written, since a phase of some seconds has a whole interval or a remainder
one_or_two : (t u : Bool) (p q : Phase) → (t ≡ true → u ≡ true → ⊥)
    → (1 ≤ length ((if t then [] else p ∷ []) ++ (if u then [] else q ∷ [])))
    × (length ((if t then [] else p ∷ []) ++ (if u then [] else q ∷ [])) ≤ 2)
one_or_two true true p q h = absurd (h refl refl)
one_or_two true false p q h = (omega arith, omega arith)
one_or_two false true p q h = (omega arith, omega arith)
one_or_two false false p q h = (omega arith, omega arith)

few : (c : Charging) → (c.ci == 0 || c.pd == 0) ≡ false
    → (1 ≤ length (windows (first_map c) c)) × (length (windows (first_map c) c) ≤ 2)
unfolding windows
few c e =
    one_or_two (whole c == 0) (remaining c == 0) (first_window (first_map c) c) (second_window (first_map c) c)
    (λ t u.
    let none : 0 * c.ci + 0 ≡ c.pd = rw (eqb-true (whole c) 0 t, eqb-true (remaining c) 0 u) at (div-add-mod' c.pd c.ci) in
    eqb-false c.pd 0 ((or-none (c.ci == 0) (c.pd == 0)).0 e).1 (omega (arith, none)))

-- 7 and 8 are others than 5 and 6
burst_alone : (a b : Bool) (l changed : Line) (k : ℕ) (r : Refusal)
    → (answered_by (ruling (cause Burst a ∷ cause BurstRuns b ∷ [])) l changed k).verdict ≡ Err r
    → (refusal_number r ≡ 5 → ⊥) × (refusal_number r ≡ 6 → ⊥)
unfolding ruling
burst_alone true b l changed k r e = let same : r ≡ Burst = cc in rw same (λ n. omega arith, λ n. omega arith)
burst_alone false true l changed k r e = let same : r ≡ BurstRuns = cc in rw same (λ n. omega arith, λ n. omega arith)
burst_alone false false l changed k r e = cc

module _ (ps : List Phase) (some : 1 ≤ length ps) (most : length ps ≤ 2) where
  abbrev lists : Lists
  lists = lists_of_phases (holding ps)

  pub their_phases : phases_of lists ≡ ps
  their_phases = (as_held ps (omega arith)).1

  their_length : length lists.pri ≡ length ps
  their_length = sym (phases-length lists (length lists.pri)) ∙ ap length their_phases

  their_lists : sound_lists lists ≡ true
  unfolding sound_lists
  their_lists =
      rw (le-leb 1 (length lists.pri) (omega (arith, their_length)), le-leb (length lists.pri) 8 (omega (arith, their_length)))
      ((as_held ps (omega arith)).0)

  module _ (l : Line) (sound : sound_phases l.spacing ps ≡ true) where
    -- it answers as to the burst part alone
    causes : BurstPart → List Cause
    causes = burst_causes l.spacing (is_endless l.state.timed.tariff) (is_running l.state.burst)

    ruled : (u : BurstPart)
        → ruling (descriptor_causes l.spacing (is_endless l.state.timed.tariff) (is_running l.state.burst) Phased lists u)
        ≡ ruling (causes u)
    unfolding ruling causes
    ruled u = rw (their_lists, their_phases, sound) refl

    as_burst : (u : BurstPart) → verdict l (holding ps) u
        ≡ (answered_by (ruling (causes u)) l (burst_changed u (tariff_changed Phased (scheduled (phases_of lists)) l))
        (cancelled_by u (burst_owed l.state.burst))).verdict
    unfolding describe_of
    as_burst u =
        ap (λ (x : Ruling).
        (answered_by x l (burst_changed u (tariff_changed Phased (scheduled (phases_of lists)) l))
        (cancelled_by u (burst_owed l.state.burst))).verdict) (ruled u)

    never : (u : BurstPart) (r : Refusal) → verdict l (holding ps) u ≡ Err r
        → (refusal_number r ≡ 5 → ⊥) × (refusal_number r ≡ 6 → ⊥)
    unfolding ruling causes
    never NoBurst r e = let f = sym (as_burst NoBurst) ∙ e in cc
    never KeepBurst r e = let f = sym (as_burst KeepBurst) ∙ e in cc
    never (Start n P) r e = burst_alone _ _ _ _ _ r (sym (as_burst (Start n P)) ∙ e)

    pub their_taken : Taken l (holding ps)
    unfolding ruling causes
    their_taken = record { never = never; kept = as_burst KeepBurst }

module _ (S : ℕ) (c : Charging) (s : Phases) (e : phases_answer S c ≡ given s) where
  -- the phases that are given are sound, and are the windows
  unrefused : ((c.ci == 0 || c.pd == 0) ≡ false) × (sound_phases S (windows (first_map c) c) ≡ true) × (s ≡ holding (windows (first_map c) c))
  unfolding windows_answer
  unrefused =
      let ps = windows (first_map c) c in
      passed (c.ci == 0 || c.pd == 0) (no_counts c) (sound_phases S ps) ps s e

  pub written : Written c s
  written =
      let n = few c unrefused.0 in
      record { held = rw unrefused.2 (their_phases _ n.0 n.1); some = n.0; most = n.1 }

  pub taken : (l : Line) → l.spacing ≡ S → Taken l s
  taken l same =
      let n = few c unrefused.0 in
      rw unrefused.2 (their_taken _ n.0 n.1 l (rw same unrefused.1))
