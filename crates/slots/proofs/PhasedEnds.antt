-- The completion of a phased tariff, before a slot and after it.
use mathlib.Core.Path.{◌≡◌, ap}
use mathlib.Core.Bool.{false, not, ◌&&◌, ◌||◌}
use mathlib.Core.List.{List}
use Prim.Native.Nat.{ℕ, suc, ◌+◌, ◌*◌, ◌≤◌}
use native.Mathlib.Omega.{arith}
use borrow.Author.Tests.{ne_eqb}
use lib.Dec.{eqb}
use Rattle.tariff.specs.Tariffs.{phase_at}
use Rattle.steps.specs.Steps.{pulses_at}
use Rattle.tariff.specs.declared.Phase.{Phase}
use Rattle.tariff.specs.declared.Position.{Position}
use Rattle.tariff.specs.declared.Tariff.TheVariants.{Phased}
use Rattle.tariff.specs.declared.Timed.{Timed}
use Rattle.slots.specs.Slots.{never_end, seconds}
use Rattle.tariff.proofs.PhasedList.{after, after-split, after_last}
use Rattle.slots.proofs.Ahead.{completes_in, PhasedGood}
use Rattle.slots.proofs.PhasedRoom.{Room, room_of_lem, slot-before}
use Rattle.slots.proofs.PhasedAfter.{AfterSlot, next-slot, next-interval, next-phase, no-phase}

module _ (S : ℕ) (a : List Phase) (n : ℕ) (q : Position) (D : ℕ) (good : PhasedGood S a n q) (y : ℕ) where
  abbrev p : Phase
  p = phase_at a q.phase

  abbrev room : Room S p q
  room = room_of_lem S a n q good

  pub ends-after : {x : Timed} → AfterSlot a n q p (pulses_at p q.entry) x
      → completes_in a n D x.tariff x.wait y ≡ completes_in a n D (Phased q) 1 (suc y)
  unfolding completes_in never_end seconds
  ends-after (next-slot more) = grind (arith, room.phase)
  ends-after (next-interval last more) = grind (arith, more, room.interval)
  ends-after (next-phase last some short further) =
      let p' = phase_at a (q.phase + 1) in
      rw (after-split a n q.phase further good.eight good.whole, ne_eqb q.left 0 (λ none. absurd (omega arith)))
      (ap (λ b. not (eqb p'.pd 0 || never_end (after a n (q.phase + 1))) && b) (grind arith))
  ends-after (no-phase last some short end) =
      rw (after_last a n q.phase end, ne_eqb q.left 0 (λ none. absurd (omega arith)))
      (grind arith)

  pub open_before : (w : ℕ) → y ≤ w → completes_in a n D (Phased q) w y ≡ false
  unfolding completes_in
  open_before w h =
      grind (arith, room.phase, slot-before q.slot p.pri (1000 * q.left))
