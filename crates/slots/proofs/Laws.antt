-- Laws of the tariffs that run: their slots are at least 2S apart, and quiet ticks are those before the next slot.
use Rattle.std.specs.Prelude.{None, Option, Some}
use mathlib.Core.Path.{◌≡◌, refl, sym, ◌∙◌}
use mathlib.Core.Bool.{true, false, and-eq-true_iff, false≢true}
use mathlib.Core.List.{List, []}
use mathlib.Core.Logic.{◌≢◌, ◌↔◌, ⊎_elim}
use Prim.Native.Nat.{ℕ, zero, suc, ◌+◌, ◌-◌, ◌*◌, ◌≤◌, ◌<◌}
use native.Mathlib.Nat.{le_refl}
use native.Mathlib.Omega.{arith}
use borrow.Table.Steps.{cases}
use lib.ListN.{length}
use lib.Seq.{take-length}
use Rattle.rules.specs.Rules.{sound_em, sound_phases}
use Rattle.tariff.specs.Tariffs.{em, em_of, phased_of}
use Rattle.tariff.specs.declared.Phase.{Phase}
use Rattle.tariff.specs.declared.Slot.{Slot}
use Rattle.tariff.specs.declared.Slot.TheVariants.{Empty, Pulse}
use Rattle.tariff.specs.declared.Tariff.TheVariants.{Endless, Counted}
use Rattle.slots.specs.Slots.{endless_slot, counted_slot, phased_slot}
use Rattle.slots.specs.Slots.{Running, nothing, endless, counted, phased, slot_at, no_slot, quiet_for}
use Rattle.std.proofs.lemmas.Bool.{cases_lt, cases_eq}
use Rattle.slots.proofs.Ahead.{slots_of}
use Rattle.slots.proofs.Counted.{counted_start}
use Rattle.slots.proofs.Phased.{phased-start, phased-start-good}
use Rattle.slots.proofs.Start.{good-em}
use Rattle.slots.proofs.Apart.{from-apart}

-- a running tariff that was accepted on a line of spacing S
pub data Sound (S : ℕ) : Running → Type 0 where
  idle : Sound S nothing
  endless-em : (f P : ℕ) → sound_em S 0 P ≡ true → Sound S (endless f P)
  counted-em : (f C P : ℕ) → 1 ≤ C → sound_em S C P ≡ true → Sound S (counted f C P)
  phases : (f : ℕ) (ps : List Phase) → 1 ≤ length ps → length ps ≤ 8 → sound_phases S ps ≡ true → Sound S (phased f ps)

-- any two slots of an accepted tariff are at least 2S apart
pub slots_apart : (S : ℕ) (r : Running) (t u : ℕ) → 1 ≤ S → Sound S r → slot_at r t ≢ None → slot_at r u ≢ None
    → t < u → t + 2 * S ≤ u
unfolding slot_at slots_of em_of
slots_apart S r t u spaced idle first second l = absurd (first refl)
slots_apart S r t u spaced (endless-em f P ok) first second l =
    from-apart S [] 0 spaced (endless_slot P) (Endless P) (good-em S [] 0 0 P 1 ok (omega arith)) (λ x. refl) f t u first
    second l
slots_apart S r t u spaced (counted-em f zero P some ok) first second l = absurd (omega arith)
slots_apart S r t u spaced (counted-em f (suc c) P some ok) first second l =
    from-apart S [] 0 spaced (counted_slot (suc c) P) (Counted (em (suc c) P) 0) (good-em S [] 0 (suc c) P 1 ok (omega arith))
    (counted_start [] 0 (suc c) P) f t u first second l
slots_apart S r t u spaced (phases f ps some eight ok) first second l =
    let n = length ps in
    let whole = le_refl n in
    let start = phased-start ps n some eight whole in
    from-apart S ps n spaced (phased_slot ps) (phased_of ps)
    (phased-start-good S ps n 1 spaced some eight whole (rw (take-length ps) ok) (omega arith))
    (λ x. rw (take-length ps) at (start x)) f t u first second l

-- the next slot past tick t is at tick u: the least later tick with a slot, an empty one too
pub record NextSlot (r : Running) (t u : ℕ) : Type 0 where
  pub later : t < u
  pub slot : slot_at r u ≡ None → ⊥
  pub least : (v : ℕ) → t < v → v < u → slot_at r v ≡ None

none_of : (s : Option Slot) → no_slot s ≡ true → s ≡ None
none_of None e = refl
none_of (Some Empty) e = absurd (false≢true e)
none_of (Some Pulse) e = absurd (false≢true e)

some_of : (s : Option Slot) → no_slot s ≡ false → s ≢ None
some_of s e n = false≢true (sym e ∙ rw n)

-- there is at most one next slot
next-first : (r : Running) (t u v : ℕ) → NextSlot r t u → NextSlot r t v → u ≤ v
next-first r t u v next other = ⊎_elim (λ l. absurd (other.slot (next.least v other.later l))) (λ l. l) (cases_lt v u)

pub next-unique : (r : Running) (t u v : ℕ) → NextSlot r t u → NextSlot r t v → u ≡ v
next-unique r t u v next other = omega (arith, next-first r t u v next other, next-first r t v u other next)

-- a tick on, the next slot is the same unless that tick has it
next-before : (r : Running) (t u : ℕ) → no_slot (slot_at r (t + 1)) ≡ true → NextSlot r (t + 1) u → NextSlot r t u
next-before r t u none next = record { later = omega (arith, next.later); slot = next.slot; least = least }
  where
    least : (v : ℕ) → t < v → v < u → slot_at r v ≡ None
    least v l m = ⊎_elim (λ e. rw e (none_of (slot_at r (t + 1)) none)) (λ e. next.least v (omega arith) m) (cases_eq v (t + 1))

next-now : (r : Running) (t : ℕ) → no_slot (slot_at r (t + 1)) ≡ false → NextSlot r t (t + 1)
next-now r t some = record { later = omega arith; slot = some_of (slot_at r (t + 1)) some; least = λ v l m. absurd (omega arith) }

-- each of the n ticks has no slot
quiet_each : (r : Running) (n t u : ℕ) → quiet_for r t n ≡ true → t < u → u ≤ t + n → slot_at r u ≡ None
unfolding quiet_for
quiet_each r zero t u q l m = absurd (omega arith)
quiet_each r (suc n) t u q l m =
    let both = (and-eq-true_iff (no_slot (slot_at r (t + 1))) (quiet_for r (t + 1) n)).0 q in
    ⊎_elim
    (λ e. rw e (none_of (slot_at r (t + 1)) both.0))
    (λ e. quiet_each r n (t + 1) u both.1 (omega arith) (omega arith))
    (cases_eq u (t + 1))

quiet-past : (r : Running) (n t : ℕ) → quiet_for r t n ≡ true → (u : ℕ) → NextSlot r t u → t + n < u
quiet-past r n t q u next =
    ⊎_elim (λ l. l) (λ l. absurd (next.slot (quiet_each r n t u q next.later l))) (cases_lt (t + n) u)

quiet-before : (r : Running) (n t : ℕ) → ((u : ℕ) → NextSlot r t u → t + n < u) → quiet_for r t n ≡ true
unfolding quiet_for
quiet-before r zero t far = refl
quiet-before r (suc n) t far =
    cases (no_slot (slot_at r (t + 1)))
    (λ b. rw (b, quiet-before r n (t + 1) (λ u next. omega (arith, far u (next-before r t u b next)))))
    (λ b. absurd (omega (arith, far (t + 1) (next-now r t b))))

-- n ticks are quiet exactly where the next slot, if one is left, is past them
pub quiet_is : (r : Running) (t n : ℕ) → quiet_for r t n ≡ true ↔ ((u : ℕ) → NextSlot r t u → t + n < u)
quiet_is r t n = (quiet-past r n t, quiet-before r n t)

-- now + S is not past the next slot, if one is left
pub quiet-room : (S : ℕ) (r : Running) (now : ℕ)
    → quiet_for r now (S - 1) ≡ true ↔ ((u : ℕ) → NextSlot r now u → now + S ≤ u)
quiet-room S r now = (
  λ q u next. omega (arith, next.later, (quiet_is r now (S - 1)).0 q u next),
  λ far. (quiet_is r now (S - 1)).1 (λ u next. omega (arith, next.later, far u next)),
)
