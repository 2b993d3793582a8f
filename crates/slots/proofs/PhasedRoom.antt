-- The room that the slots of a charge interval have: up to the next interval, and up to the end of the phase.
use mathlib.Core.Path.{◌≡◌}
use mathlib.Core.List.{List}
use mathlib.Core.Logic.{◌⊎◌, inl, inr}
use Prim.Native.Nat.{ℕ, suc, ◌*◌, ◌%◌, max, ◌≤◌, ◌<◌}
use native.Mathlib.Decide.{dec_le}
use native.Mathlib.Nat.{mod-eq_of_lt, mul-le-mul_right}
use native.Mathlib.Omega.{arith}
use Rattle.tariff.specs.Tariffs.{phase_at}
use Rattle.steps.specs.Steps.{pulses_at}
use Rattle.tariff.specs.declared.Phase.{Phase}
use Rattle.tariff.specs.declared.Position.{Position}
use Rattle.slots.specs.Slots.{interval_pulses}
use Rattle.slots.proofs.Ahead.{Left, PhasedGood}
use Rattle.slots.proofs.PhasedSound.{SoundPhase, sound-at}
use Rattle.slots.proofs.PhasedEntry.{entry-pulses, pulses-most}

-- what is left of a phase has room for the slots of an interval
left-room : (S : ℕ) (p : Phase) (l : ℕ) → SoundPhase S p → Left p l → 1 ≤ l → max 1 p.pcx * p.pri ≤ 1000 * l
left-room S p l sound left some = go (dec_le p.ci l) sound.short
  where
    go : Dec (p.ci ≤ l) → (p.pd % p.ci ≡ 0) ⊎ (max 1 p.pcx * p.pri ≤ 1000 * (p.pd % p.ci)) → max 1 p.pcx * p.pri ≤ 1000 * l
    go (yes whole) s = omega (arith, sound.room)
    go (no part) (inl none) = absurd (omega (arith, left.short, mod-eq_of_lt {n = l} {m = p.ci} (omega arith)))
    go (no part) (inr room) = omega (arith, left.short, mod-eq_of_lt {n = l} {m = p.ci} (omega arith))

slot-room : (m pcx q j ticks : ℕ) → m ≤ pcx → j < max 1 m → max 1 pcx * q ≤ ticks → suc j * q ≤ ticks
slot-room m pcx q j ticks most h room =
    let last : suc j ≤ max 1 pcx = omega arith in
    omega (arith, mul-le-mul_right q last)

-- a slot stands before the end of its room, even where slots are 0 apart
pub slot-before : (j q ticks : ℕ) → suc j * q ≤ ticks → 1 ≤ ticks → j * q < ticks
slot-before j q ticks room some = grind arith

-- before the slot of a position in a phase, which is p
pub record Room (S : ℕ) (p : Phase) (q : Position) : Type 0 where
  pub sound : SoundPhase S p
  pub pulses : pulses_at p q.entry ≡ interval_pulses p q.entry
  pub interval : suc q.slot * p.pri ≤ 1000 * p.ci
  pub phase : 1 ≤ q.left → suc q.slot * p.pri ≤ 1000 * q.left

pub room_of_lem : (S : ℕ) (a : List Phase) (n : ℕ) (q : Position) → PhasedGood S a n q → Room S (phase_at a q.phase) q
room_of_lem S a n q good =
    let p = phase_at a q.phase in
    let sound = sound-at S a n q.phase good.few good.eight good.whole good.sound in
    let m = pulses_at p q.entry in
    let pulses = entry-pulses p q.entry sound.hundred good.entry in
    let most : m ≤ p.pcx = omega (arith, pulses, pulses-most p q.entry sound.fewer) in
    record {
      sound = sound;
      pulses = pulses;
      interval = slot-room m p.pcx p.pri q.slot (1000 * p.ci) most good.pulse sound.room;
      phase =
          λ some. slot-room m p.pcx p.pri q.slot (1000 * q.left) most good.pulse
          (left-room S p q.left sound good.left some);
    }
