-- Nothing, a fresh em and a fresh phased tariff: what runs and what the line keeps agree.
use mathlib.Core.Path.{refl, sym, ◌∙◌, ap}
use mathlib.Core.Bool.{Bool, not, ◌&&◌}
use mathlib.Core.List.{List}
use Prim.Native.Nat.{ℕ, zero, suc, ◌+◌, ◌≤◌}
use native.Mathlib.Omega.{arith}
use lib.ListN.{take, length}
use Rattle.tariff.specs.Tariffs.{em, em_of, phased_of}
use Rattle.tariff.specs.declared.Phase.{Phase}
use Rattle.tariff.specs.declared.Tariff.TheVariants.{Idle, Counted}
use Rattle.slots.specs.Slots.{endless_slot, counted_slot, phased_slot, never_end}
use Rattle.slots.specs.Slots.{nothing, phased, em_at, slot_at, completes_at}
use Rattle.slots.proofs.From.{from-same}
use Rattle.slots.proofs.Ahead.{slots_of, completes_in}
use Rattle.slots.proofs.Agree.{Agree, steady, other}
use Rattle.slots.proofs.Endless.{first-ahead}
use Rattle.slots.proofs.Counted.{counted_start}
use Rattle.slots.proofs.Phased.{phased-start, phased-start-ends}
use Rattle.slots.proofs.Step.{none_left}

module _ (D : ℕ) (a : List Phase) (n : ℕ) where
  -- nothing runs
  pub agree-idle : (w i : ℕ) → Agree D a n nothing Idle w i
  unfolding slot_at completes_at completes_in
  agree-idle w i = record { slots = λ y l. sym (none_left 0 a n Idle w tt refl y); ends = λ y l. refl; rate = other refl refl }

  -- an em whose origin is w ticks away
  pub agree-em : (C P i w : ℕ) → 1 ≤ w → Agree D a n (em_at (i + w) C P) (em_of C P) w i
  unfolding em_of slot_at slots_of completes_at completes_in
  agree-em zero P i w l =
      record {
        slots = λ y _. from-same (endless_slot P) (endless_slot P) (i + w) (i + y) w y (λ x. refl) (omega arith);
        ends = λ y _. refl;
        rate = steady (first-ahead (i + w) P i (omega arith));
      }
  agree-em (suc c) P i w l =
      let C = suc c in
      let same = counted_start a n C P in
      record {
        slots = λ y _. from-same (counted_slot C P) (slots_of a n (Counted (em C P) 0)) (i + w) (i + y) w y same (omega arith);
        ends = λ y _. grind arith;
        rate = other refl refl;
      }

  -- the first n phases, whose origin is w ticks away
  pub agree-phased : 1 ≤ n → n ≤ 8 → n ≤ length a → (i w : ℕ) → 1 ≤ w → Agree D a n (phased (i + w) (take n a)) (phased_of a) w i
  unfolding phased_of slot_at completes_at
  agree-phased some eight whole i w l =
      let ps = take n a in
      let same = phased-start a n some eight whole in
      record {
        slots = λ y _. from-same (phased_slot ps) (slots_of a n (phased_of a)) (i + w) (i + y) w y same (omega arith);
        ends =
            λ y _. ap (λ (b : Bool). not (never_end ps) && b) (grind arith)
            ∙ sym (phased-start-ends a n w D some eight whole y);
        rate = other refl refl;
      }
