-- The laws of a phased tariff: its slot that is due now, and its start.
use Rattle.std.specs.Prelude.{Some}
use mathlib.Core.Path.{◌≡◌, sym, ◌∙◌, ap}
use mathlib.Core.Bool.{true, cond, not, ◌&&◌}
use mathlib.Core.List.{List, ◌∷◌}
use Prim.Native.Nat.{ℕ, ◌+◌, ◌*◌, ◌≤◌}
use native.Mathlib.Nat.{zero-add}
use native.Mathlib.Omega.{arith}
use lib.Dec.{eqb}
use lib.ListN.{take, length}
use Rattle.rules.specs.Rules.{sound_phases}
use Rattle.tariff.specs.Tariffs.{phase_at, phased_of}
use Rattle.steps.specs.Steps.{pulses_at}
use Rattle.tariff.specs.declared.Phase.{Phase}
use Rattle.tariff.specs.declared.Position.{Position}
use Rattle.tariff.specs.declared.Slot.TheVariants.{Empty, Pulse}
use Rattle.tariff.specs.declared.Tariff.TheVariants.{Phased}
use Rattle.slots.specs.Slots.{phased_slot, never_end, seconds}
use Rattle.tariff.proofs.PhasedList.{after, phase-split}
use Rattle.slots.proofs.Ahead.{phases_from, slots_of, completes_in, Waits, PhasedGood, Good}
use Rattle.slots.proofs.PhasedSound.{sound-at}
use Rattle.slots.proofs.PhasedSlots.{phase-start}
use Rattle.slots.proofs.PhasedRoom.{room_of_lem}
use Rattle.slots.proofs.PhasedRest.{slot-now}
use Rattle.slots.proofs.PhasedKept.{left-whole}

-- ---- a slot that is due now

pub phased-zero : (S : ℕ) (a : List Phase) (n : ℕ) (q : Position) → PhasedGood S a n q
    → slots_of a n (Phased q) 0 ≡ Some (cond (eqb (pulses_at (phase_at a q.phase) q.entry) 0) Empty Pulse)
unfolding slots_of
phased-zero S a n q good =
    let p = phase_at a q.phase in
    rw (zero-add (q.slot * p.pri)) (slot-now S p (after a n q.phase) q (room_of_lem S a n q good) good.pulse)

-- ---- the start

pub phased-start : (a : List Phase) (n : ℕ) → 1 ≤ n → n ≤ 8 → n ≤ length a → (x : ℕ)
    → slots_of a n (phased_of a) x ≡ phased_slot (take n a) x
unfolding slots_of phased_of
phased-start a n some eight whole x =
    ap (phases_from (phase_at a 0) (after a n 0) 0 (phase_at a 0).pd) (omega arith)
    ∙ phase-start (phase_at a 0) (after a n 0) x
    ∙ ap (λ ps. phased_slot ps x) (sym (phase-split a n 0 some eight whole))

pub phased-start-ends : (a : List Phase) (n w D : ℕ) → 1 ≤ n → n ≤ 8 → n ≤ length a → (y : ℕ)
    → completes_in a n D (phased_of a) w y ≡ (not (never_end (take n a)) && eqb y (w + 1000 * seconds (take n a)))
unfolding completes_in phased_of never_end seconds
phased-start-ends a n w D some eight whole y =
    ap (λ v. not (never_end (phase_at a 0 ∷ after a n 0)) && eqb y v) (omega arith)
    ∙ ap (λ ps. not (never_end ps) && eqb y (w + 1000 * seconds ps)) (sym (phase-split a n 0 some eight whole))

pub phased-start-good : (S : ℕ) (a : List Phase) (n w : ℕ) → 1 ≤ S → 1 ≤ n → n ≤ 8 → n ≤ length a
    → sound_phases S (take n a) ≡ true → Waits w → Good S a n (phased_of a) w
unfolding phased_of
phased-start-good S a n w spaced some eight whole sound waits = (
  waits,
  record {
    few = some;
    eight = eight;
    whole = whole;
    sound = sound;
    entry = (sound-at S a n 0 some eight whole sound).entry;
    left = left-whole (phase_at a 0);
    pulse = omega arith;
  },
)
