-- The slots of a phase from the start of one of its charge intervals on.
use mathlib.Core.Path.{◌≡◌, refl, sym, ◌∙◌, ap}
use mathlib.Core.List.{List, ◌∷◌}
use Prim.Native.Nat.{ℕ, zero, suc, ◌+◌, ◌-◌, ◌*◌, ◌/◌, ◌≤◌, ◌<◌}
use native.Mathlib.Nat.{zero-add, add-zero, div-eq_of_lt, mod-eq_of_lt, div-eq-sub-div, mod-eq-sub-mod}
use native.Mathlib.Omega.{arith}
use borrow.Author.Tests.{lt-ltb, le-ltb, ltb-true, ltb-false}
use borrow.Table.Steps.{cases}
use lib.Dec.{ltb, eqb-suc-zero}
use Rattle.steps.specs.Steps.{next_entry}
use Rattle.tariff.specs.declared.Phase.{Phase}
use Rattle.slots.specs.Slots.{interval_slot, interval_pulses, phase_slot, phased_slot}
use Rattle.slots.proofs.Ahead.{phase_from, phases_from}
use Rattle.slots.proofs.PhasedEntry.{entries, next-pulses}

-- ---- while the phase lasts, and once it is over

pub phase-lasts : (p : Phase) (ps : List Phase) (e l x : ℕ) → (1 ≤ l → x < 1000 * l) → phases_from p ps e l x ≡ phase_from p e x
unfolding phases_from
phase-lasts p ps e zero x lasts = refl
phase-lasts p ps e (suc l) x lasts = rw (eqb-suc-zero l, lt-ltb x (1000 * suc l) (lasts (omega arith)))

pub phase-over : (p : Phase) (ps : List Phase) (e l x : ℕ) → 1 ≤ l → 1000 * l ≤ x → phases_from p ps e l x ≡ phased_slot ps (x - 1000 * l)
unfolding phases_from
phase-over p ps e zero x some over = absurd (omega arith)
phase-over p ps e (suc l) x some over = rw (eqb-suc-zero l, le-ltb x (1000 * suc l) over)

pub phase-start : (p : Phase) (ps : List Phase) (x : ℕ) → phases_from p ps 0 p.pd x ≡ phased_slot (p ∷ ps) x
unfolding phases_from phase_from phased_slot phase_slot
phase-start p ps x = rw (zero-add (x / (1000 * p.ci)))

-- ---- the interval that starts here

pub this-interval : (p : Phase) (e x : ℕ) → x < 1000 * p.ci → phase_from p e x ≡ interval_slot (interval_pulses p e) p.pri x
unfolding phase_from
this-interval p e x h = rw (div-eq_of_lt h, mod-eq_of_lt h, add-zero e)

-- ---- the next interval

module _ (p : Phase) (ps : List Phase) (e x : ℕ) (few : e < entries p) (second : 1 ≤ p.ci) (past : 1000 * p.ci ≤ x) where
  shifted : phase_from p (next_entry p e) (x - 1000 * p.ci) ≡ phase_from p e x
  unfolding phase_from
  shifted =
      let d = (x - 1000 * p.ci) / (1000 * p.ci) in
      let further = div-eq-sub-div {m = 1000 * p.ci} {n = x} (omega arith) past in
      let index : e + x / (1000 * p.ci) ≡ e + 1 + d = omega arith in
      rw (index, next-pulses p e d few, mod-eq-sub-mod past)

  lasts_on : (l : ℕ) → (1 ≤ l → x < 1000 * l)
      → phases_from p ps (next_entry p e) (l - p.ci) (x - 1000 * p.ci) ≡ phases_from p ps e l x
  lasts_on l lasts =
      phase-lasts p ps (next_entry p e) (l - p.ci) (x - 1000 * p.ci) (λ some. omega (arith, lasts (omega arith)))
      ∙ shifted
      ∙ sym (phase-lasts p ps e l x lasts)

  pub next-interval : (l : ℕ) → (1 ≤ l → p.ci < l)
      → phases_from p ps (next_entry p e) (l - p.ci) (x - 1000 * p.ci) ≡ phases_from p ps e l x
  next-interval zero more = lasts_on zero (λ some. absurd (omega arith))
  next-interval (suc l) more =
      cases (ltb x (1000 * suc l))
      (λ t. lasts_on (suc l) (λ some. ltb-true x (1000 * suc l) t))
      (λ t. goes_over (more (omega arith)) (ltb-false x (1000 * suc l) t))
    where
      goes_over : p.ci < suc l → 1000 * suc l ≤ x
          → phases_from p ps (next_entry p e) (suc l - p.ci) (x - 1000 * p.ci) ≡ phases_from p ps e (suc l) x
      goes_over less over =
          phase-over p ps (next_entry p e) (suc l - p.ci) (x - 1000 * p.ci) (omega arith) (omega arith)
          ∙ ap (phased_slot ps) (omega arith)
          ∙ sym (phase-over p ps e (suc l) x (omega arith) over)
