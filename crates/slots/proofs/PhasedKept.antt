-- After a slot a phased tariff is good again, and its next slot is far enough.
use mathlib.Core.Path.{refl, sym, ◌∙◌}
use mathlib.Core.List.{List}
use mathlib.Core.Logic.{◌≢◌}
use Prim.Native.Nat.{ℕ, zero, suc, ◌+◌, ◌-◌, ◌*◌, max, ◌≤◌, ◌<◌}
use native.Mathlib.Nat.{mod-eq-sub-mod, zero-sub}
use native.Mathlib.Omega.{arith}
use Rattle.tariff.specs.Tariffs.{phase_at, phase_start, position}
use Rattle.steps.specs.Steps.{pulses_at, next_entry}
use Rattle.tariff.specs.declared.Phase.{Phase}
use Rattle.tariff.specs.declared.Position.{Position}
use Rattle.tariff.specs.declared.Timed.{Timed}
use Rattle.slots.proofs.Ahead.{next_of, Left, Waits, PhasedGood, Good}
use Rattle.slots.proofs.PhasedEntry.{entries, next-entry}
use Rattle.slots.proofs.PhasedSound.{sound-at}
use Rattle.slots.proofs.PhasedRoom.{Room, room_of_lem}
use Rattle.slots.proofs.PhasedAfter.{AfterSlot, next-slot, next-interval, next-phase, no-phase}

-- ---- the seconds left, at the start of a phase and at its next interval

pub left-whole : (p : Phase) → Left p p.pd
left-whole p = record { most = omega arith; some = λ none. none; short = refl }

left-next : (p : Phase) (l : ℕ) → Left p l → (1 ≤ l → p.ci < l) → Left p (l - p.ci)
left-next p zero left more =
    record { most = omega arith; some = λ none. left.some refl; short = rw (zero-sub p.ci) left.short }
left-next p (suc l) left more =
    let less = more (omega arith) in
    record {
      most = omega (arith, left.most);
      some = λ none. absurd (omega arith);
      short = sym (mod-eq-sub-mod {n = suc l} {m = p.ci} (omega arith)) ∙ left.short;
    }

-- ---- after a slot

-- slot j to the end of its room
waits-after : (S q j ticks : ℕ) → 1 ≤ S → 2 * S ≤ q → suc j * q ≤ ticks → ticks ≤ 86400000 → Waits (ticks - j * q)
waits-after S q j ticks spaced far room most = record { some = omega arith; most = omega arith }

module _ (S : ℕ) (a : List Phase) (n : ℕ) (q : Position) (spaced : 1 ≤ S) (good : PhasedGood S a n q) where
  abbrev p : Phase
  p = phase_at a q.phase

  abbrev room : Room S p q
  room = room_of_lem S a n q good

  -- the list of phases stays
  moved : (x : Position) → x.phase < n → x.entry < entries (phase_at a x.phase) → Left (phase_at a x.phase) x.left
      → x.slot < max 1 (pulses_at (phase_at a x.phase) x.entry) → PhasedGood S a n x
  moved x few entry left pulse =
      record {
        few = few;
        eight = good.eight;
        whole = good.whole;
        sound = good.sound;
        entry = entry;
        left = left;
        pulse = pulse;
      }

  last-waits : 1 ≤ q.left → q.left ≤ p.ci → Waits (1000 * q.left - q.slot * p.pri)
  last-waits some short =
      waits-after S p.pri q.slot (1000 * q.left) spaced room.sound.far (room.phase some) (omega (arith, room.sound.day))

  pub good-after : {x : Timed} → AfterSlot a n q p (pulses_at p q.entry) x → Good S a n x.tariff x.wait
  good-after (next-slot more) = (
    record { some = omega (arith, room.sound.far); most = room.sound.near },
    moved (position q.phase q.entry q.left (q.slot + 1)) good.few good.entry good.left (omega arith),
  )
  good-after (next-interval last more) = (
    waits-after S p.pri q.slot (1000 * p.ci) spaced room.sound.far room.interval (omega (arith, room.sound.day)),
    moved (position q.phase (next_entry p q.entry) (q.left - p.ci) 0) good.few (next-entry p q.entry good.entry)
        (left-next p q.left good.left more) (omega arith),
  )
  good-after (next-phase last some short further) =
      let p' = phase_at a (q.phase + 1) in
      let sound = sound-at S a n (q.phase + 1) further good.eight good.whole good.sound in
      (last-waits some short, moved (phase_start (q.phase + 1) p') further sound.entry (left-whole p') (omega arith))
  good-after (no-phase last some short end) = last-waits some short

  pub far-after : {x : Timed} → AfterSlot a n q p (pulses_at p q.entry) x → next_of x.tariff x.wait ≢ 0
      → 2 * S ≤ next_of x.tariff x.wait
  far-after (next-slot more) some = room.sound.far
  far-after (next-interval last more) some = omega (arith, room.sound.far, room.interval)
  far-after (next-phase last runs short further) some = omega (arith, room.sound.far, room.phase runs)
  far-after (no-phase last runs short end) some = absurd (some refl)
