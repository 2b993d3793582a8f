-- A slot of a phased tariff, and the slots after it.
use Rattle.std.specs.Prelude.{None, Option, Some}
use mathlib.Core.Path.{◌≡◌, refl, sym, ◌∙◌, ap}
use mathlib.Core.Bool.{cond}
use mathlib.Core.List.{List, ◌∷◌}
use Prim.Native.Nat.{ℕ, suc, ◌+◌, ◌-◌, ◌*◌, max, ◌≤◌, ◌<◌}
use native.Mathlib.Decide.{dec_le}
use native.Mathlib.Omega.{arith}
use lib.Dec.{eqb}
use Rattle.tariff.specs.Tariffs.{phase_at, phase_start, position}
use Rattle.steps.specs.Steps.{pulses_at, next_entry}
use Rattle.tariff.specs.declared.Phase.{Phase}
use Rattle.tariff.specs.declared.Position.{Position}
use Rattle.tariff.specs.declared.Slot.{Slot}
use Rattle.tariff.specs.declared.Slot.TheVariants.{Empty, Pulse}
use Rattle.tariff.specs.declared.Tariff.TheVariants.{Phased}
use Rattle.tariff.specs.declared.Timed.{Timed}
use Rattle.slots.specs.Slots.{interval_slot, phased_slot}
use Rattle.tariff.proofs.PhasedList.{after, after-split, after_last}
use Rattle.slots.proofs.Ahead.{phases_from, slots_of, ahead, PhasedGood}
use Rattle.slots.proofs.From.{from_is, from-none}
use Rattle.slots.proofs.PhasedInterval.{interval-slot, interval-none}
use Rattle.slots.proofs.PhasedRoom.{Room, room_of_lem, slot-before}
use Rattle.slots.proofs.PhasedAfter.{AfterSlot, next-slot, next-interval, next-phase, no-phase}
use Rattle.slots.proofs.PhasedSlots as slots

-- ---- in the interval of a slot

module _ (S : ℕ) (p : Phase) (ps : List Phase) (q : Position) (room : Room S p q) where
  abbrev from_here : ℕ → Option Slot
  from_here x = phases_from p ps q.entry q.left x

  abbrev m : ℕ
  m = pulses_at p q.entry

  in_interval : (x : ℕ) → x < 1000 * p.ci → (1 ≤ q.left → x < 1000 * q.left) → from_here x ≡ interval_slot m p.pri x
  in_interval x h lasts =
      rw room.pulses (slots.phase-lasts p ps q.entry q.left x lasts ∙ slots.this-interval p q.entry x h)

  pub slot-now : q.slot < max 1 m → from_here (q.slot * p.pri) ≡ Some (cond (eqb m 0) Empty Pulse)
  slot-now h =
      in_interval (q.slot * p.pri)
      (slot-before q.slot p.pri (1000 * p.ci) room.interval (omega (arith, room.sound.second)))
      (λ some. slot-before q.slot p.pri (1000 * q.left) (room.phase some) (omega arith))
      ∙ interval-slot m p.pri q.slot h

  slot-none : (x : ℕ) → q.slot * p.pri < x → (suc q.slot < m → x < suc q.slot * p.pri) → x < 1000 * p.ci
      → (1 ≤ q.left → x < 1000 * q.left) → from_here x ≡ None
  slot-none x past next h lasts = in_interval x h lasts ∙ interval-none m p.pri q.slot x past next

-- ---- after it

module _ (S : ℕ) (a : List Phase) (n : ℕ) (q : Position) (good : PhasedGood S a n q) (y : ℕ) (later : 1 ≤ y) where
  abbrev p : Phase
  p = phase_at a q.phase

  abbrev room : Room S p q
  room = room_of_lem S a n q good

  abbrev slot : Option Slot
  slot = slots_of a n (Phased q) y

  -- the ticks from the start of the interval
  abbrev past : ℕ
  past = y + q.slot * p.pri

  quiet : (suc q.slot < pulses_at p q.entry → y < p.pri) → past < 1000 * p.ci → (1 ≤ q.left → past < 1000 * q.left)
      → slot ≡ None
  unfolding slots_of
  quiet next h lasts = slot-none S p (after a n q.phase) q room past (omega arith) (λ m. omega (arith, next m)) h lasts

  of-next-interval : (wait : ℕ) → wait + q.slot * p.pri ≡ 1000 * p.ci → (1 ≤ q.left → p.ci < q.left) → wait ≤ y
      → slots_of a n (Phased (position q.phase (next_entry p q.entry) (q.left - p.ci) 0)) (y - wait) ≡ slot
  unfolding slots_of
  of-next-interval wait end more over =
      ap (phases_from p (after a n q.phase) (next_entry p q.entry) (q.left - p.ci)) (omega arith)
      ∙ slots.next-interval p (after a n q.phase) q.entry past good.entry room.sound.second (omega arith) q.left more

  of-later-phases : 1 ≤ q.left → 1000 * q.left ≤ past → slot ≡ phased_slot (after a n q.phase) (past - 1000 * q.left)
  unfolding slots_of
  of-later-phases some over = slots.phase-over p (after a n q.phase) q.entry q.left past some over

  of-next-phase : (wait : ℕ) → wait + q.slot * p.pri ≡ 1000 * q.left → 1 ≤ q.left → q.phase + 1 < n → wait ≤ y
      → slots_of a n (Phased (phase_start (q.phase + 1) (phase_at a (q.phase + 1)))) (y - wait) ≡ slot
  unfolding slots_of
  of-next-phase wait end some further over =
      let p' = phase_at a (q.phase + 1) in
      let ps = after a n (q.phase + 1) in
      slots.phase-start p' ps (y - wait + 0 * p'.pri)
      ∙ ap (phased_slot (p' ∷ ps)) (omega arith)
      ∙ ap (λ rest. phased_slot rest (past - 1000 * q.left)) (sym (after-split a n q.phase further good.eight good.whole))
      ∙ sym (of-later-phases some (omega arith))

  of-no-phase : pulses_at p q.entry ≤ suc q.slot → 1 ≤ q.left → q.left ≤ p.ci → n ≤ q.phase + 1
      → Dec (1000 * q.left ≤ past) → slot ≡ None
  unfolding phased_slot
  of-no-phase last some short end (yes over) =
      of-later-phases some over ∙ ap (λ rest. phased_slot rest (past - 1000 * q.left)) (after_last a n q.phase end)
  of-no-phase last some short end (no before) = quiet (λ m. absurd (omega arith)) (omega arith) (λ s. omega arith)

  pub rest-after : {x : Timed} → AfterSlot a n q p (pulses_at p q.entry) x → ahead a n x.tariff x.wait y ≡ slot
  unfolding slots_of
  rest-after (next-slot more) =
      from_is (slots_of a n (Phased (position q.phase q.entry q.left (q.slot + 1)))) p.pri y slot
      (λ over. ap (phases_from p (after a n q.phase) q.entry q.left) (omega arith))
      (λ before. quiet (λ m. before) (omega (arith, room.interval)) (λ some. omega (arith, room.phase some)))
  rest-after (next-interval last more) =
      let wait = 1000 * p.ci - q.slot * p.pri in
      from_is (slots_of a n (Phased (position q.phase (next_entry p q.entry) (q.left - p.ci) 0))) wait y slot
      (λ over. of-next-interval wait (omega (arith, room.interval)) more over)
      (λ before. quiet (λ m. absurd (omega arith)) (omega (arith, room.interval)) (λ some. omega (arith, more some)))
  rest-after (next-phase last some short further) =
      let wait = 1000 * q.left - q.slot * p.pri in
      from_is (slots_of a n (Phased (phase_start (q.phase + 1) (phase_at a (q.phase + 1))))) wait y slot
      (λ over. of-next-phase wait (omega (arith, room.phase some)) some further over)
      (λ before. quiet (λ m. absurd (omega arith)) (omega arith) (λ s. omega arith))
  rest-after (no-phase last some short end) =
      from-none (λ x. None) 0 y (λ x. refl) ∙ sym (of-no-phase last some short end (dec_le (1000 * q.left) past))
