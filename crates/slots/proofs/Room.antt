-- The next slot of what runs is where the line expects it, and so is the room before it.
use Rattle.std.specs.Prelude.{None}
use mathlib.Core.Path.{◌≡◌, refl, sym, ◌∙◌, ap}
use mathlib.Core.Bool.{true, false, ◌||◌, false≢true}
use mathlib.Core.Logic.{⊎_elim}
use mathlib.Core.List.{List}
use Prim.Native.Nat.{ℕ, ◌+◌, ◌-◌, ◌≤◌, ◌<◌}
use native.Mathlib.Omega.{arith}
use borrow.Table.Steps.{cases}
use borrow.Author.Tests.{eq-eqb, ne_eqb, le-leb, lt-leb}
use lib.Dec.{leb, eqb}
use Rattle.tariff.specs.Tariffs.{schedule_of, room_of, timed}
use Rattle.steps.specs.Steps.{due_of}
use Rattle.tariff.specs.declared.Phase.{Phase}
use Rattle.tariff.specs.declared.Tariff.{Tariff}
use Rattle.tariff.specs.declared.Tariff.TheVariants.{Idle, Endless, Counted, Phased, Ending}
use Rattle.slots.specs.Slots.{Running, slot_at, no_slot, quiet_for}
use Rattle.std.proofs.lemmas.Bool.{cases_lt, cases_eq}
use Rattle.slots.proofs.From.{from_past, from-before}
use Rattle.slots.proofs.Ahead.{Good, next_of, slots_of, ahead}
use Rattle.slots.proofs.Agree.{Agree}
use Rattle.slots.proofs.Step.{none_left}
use Rattle.slots.proofs.Due.{first_slot}
use Rattle.slots.proofs.Laws.{NextSlot, next-unique, quiet-room}

-- room by the ticks to the next slot
pub room_next : (S : ℕ) (a : List Phase) (n : ℕ) (t : Tariff) (w : ℕ) → Good S a n t w
    → room_of S (timed t w) ≡ (eqb (next_of t w) 0 || leb S (next_of t w))
room_next S a n Idle w g = refl
room_next S a n (Endless P) w g = rw (ne_eqb w 0 (λ e. omega (arith, g.0)))
room_next S a n (Counted m k) w g = rw (ne_eqb w 0 (λ e. omega (arith, g.0)))
room_next S a n (Phased q) w g = rw (ne_eqb w 0 (λ z. omega (arith, g.0)))
room_next S a n Ending w g = refl

-- where a slot is left, it waits for one
some-due : (D : ℕ) (a : List Phase) (n : ℕ) (t : Tariff) (w : ℕ) → 1 ≤ next_of t w → no_slot (due_of D (schedule_of a n) t).slot ≡ false
unfolding due_of
some-due D a n Idle w l = absurd (omega arith)
some-due D a n (Endless P) w l = refl
some-due D a n (Counted m k) w l = refl
some-due D a n (Phased q) w l = refl
some-due D a n Ending w l = absurd (omega arith)

module _ (S D : ℕ) (a : List Phase) (n : ℕ) (r : Running) (t : Tariff) (w i : ℕ) (g : Good S a n t w)
    (agree : Agree D a n r t w i) where
  -- what runs has at tick u what is ahead
  at_tick : (u : ℕ) → i < u → slot_at r u ≡ ahead a n t w (u - i)
  at_tick u l = ap (slot_at r) (omega arith) ∙ agree.slots (u - i) (omega arith)

  -- where the line expects a slot, it is the next one
  pub next-least : 1 ≤ next_of t w → NextSlot r i (i + next_of t w)
  next-least some =
      record {
        later = omega arith;
        slot = λ none. false≢true (sym (some-due D a n t w some) ∙ ap no_slot (sym due ∙ none));
        least = λ v l m. at_tick v l ∙ from-before (slots_of a n t) (next_of t w) (v - i) (omega arith);
      }
    where
      due : slot_at r (i + next_of t w) ≡ (due_of D (schedule_of a n) t).slot
      due =
          agree.slots (next_of t w) some ∙ from_past (slots_of a n t) (next_of t w) (next_of t w) (omega arith)
          ∙ ap (slots_of a n t) (omega arith) ∙ first_slot S D a n t w g

  -- where it expects none, none is left
  pub next-none : next_of t w ≡ 0 → (u : ℕ) → i < u → slot_at r u ≡ None
  next-none left u l = at_tick u l ∙ none_left S a n t w g left (u - i)

  quiet_next : 1 ≤ next_of t w → quiet_for r i (S - 1) ≡ leb S (next_of t w)
  quiet_next some = ⊎_elim (λ l. near l ∙ sym (lt-leb S (next_of t w) l)) (λ l. far l ∙ sym (le-leb S (next_of t w) l)) (cases_lt (next_of t w) S)
    where
      next : NextSlot r i (i + next_of t w)
      next = next-least some

      far : S ≤ next_of t w → quiet_for r i (S - 1) ≡ true
      far l = (quiet-room S r i).1 (λ u other. omega (arith, next-unique r i u (i + next_of t w) other next))

      near : next_of t w < S → quiet_for r i (S - 1) ≡ false
      near l =
          cases (quiet_for r i (S - 1)) (λ q. absurd (omega (arith, (quiet-room S r i).0 q (i + next_of t w) next))) (λ q. q)

  quiet_ever : next_of t w ≡ 0 → quiet_for r i (S - 1) ≡ true
  quiet_ever left = (quiet-room S r i).1 (λ u next. absurd (next.slot (next-none left u next.later)))

  -- the line knows whether now + S is past the next slot
  pub agree-room : quiet_for r i (S - 1) ≡ room_of S (timed t w)
  agree-room =
      ⊎_elim
      (λ e. quiet_ever e ∙ sym (room_next S a n t w g ∙ rw (eq-eqb (next_of t w) 0 e)))
      (λ e. quiet_next (omega arith) ∙ sym (room_next S a n t w g ∙ rw (ne_eqb (next_of t w) 0 e)))
      (cases_eq (next_of t w) 0)
