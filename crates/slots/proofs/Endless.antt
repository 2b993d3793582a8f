-- An em with C = 0: its slots are P apart, and the first slot past a tick moves with the tick.
use Rattle.std.specs.Prelude.{Some}
use mathlib.Core.Path.{◌≡◌, sym, ◌∙◌}
use mathlib.Core.Logic.{⊎_elim}
use Prim.Native.Nat.{ℕ, suc, ◌+◌, ◌-◌, ◌*◌, ◌/◌, ◌≤◌, ◌<◌}
use native.Mathlib.Nat.{zero-mod, mod-eq_of_lt, mod-eq-sub-mod, div-eq_of_lt-le, div-mul-le_self}
use native.Mathlib.Omega.{arith}
use borrow.Author.Tests.{lt-ltb, le-ltb, ne_eqb}
use Rattle.tariff.specs.declared.Slot.TheVariants.{Pulse}
use Rattle.slots.specs.Slots.{endless_slot}
use Rattle.slots.specs.Slots.{from, first_past}
use Rattle.std.proofs.lemmas.Bool.{cases_lt}
use Rattle.slots.proofs.From.{from_is}

-- slot 0 is at the origin
pub endless-zero : (P : ℕ) → endless_slot P 0 ≡ (Some Pulse)
unfolding endless_slot
endless-zero P = rw (zero-mod P)

-- the slots from P ticks on are those past slot 0
pub endless-rest : (P y : ℕ) → 1 ≤ y → from P (endless_slot P) y ≡ endless_slot P y
unfolding endless_slot
endless-rest P y l =
    from_is (endless_slot P) P y (endless_slot P y)
    (λ past. rw (mod-eq-sub-mod past))
    (λ before. rw (mod-eq_of_lt before, ne_eqb y 0 (λ e. omega arith)))

-- the first slot is yet to come
pub first-ahead : (f P c : ℕ) → c < f → first_past f P c ≡ f
first-ahead f P c l = rw (lt-ltb c f l)

-- slot q + 1 is the first past every tick from slot q on and before it
first_between : (f P c q : ℕ) → f + q * P ≤ c → c < f + suc q * P → first_past f P c ≡ f + suc q * P
first_between f P c q low high =
    let d : (c - f) / P ≡ q = div-eq_of_lt-le P (omega arith) (omega arith) in
    rw (le-ltb c f (omega arith), d) (omega arith)

-- where slot q + 1 is the first past tick i, slot q is not past it
first-late : (f P i u : ℕ) → f ≤ i → first_past f P i ≡ u → (f + (i - f) / P * P ≤ i) × (f + suc ((i - f) / P) * P ≡ u)
first-late f P i u l e =
    let d = rw (le-ltb i f l) at e in
    let low = div-mul-le_self (i - f) P in
    (omega arith, omega arith)

-- a tick on, the first slot past it is the same
pub first-waits : (f P i w : ℕ) → 1 < w → first_past f P i ≡ i + w → first_past f P (i + 1) ≡ i + w
first-waits f P i w more e = ⊎_elim ahead past (cases_lt i f)
  where
    ahead : i < f → first_past f P (i + 1) ≡ i + w
    ahead l =
        let here = sym (first-ahead f P i l) ∙ e in
        first-ahead f P (i + 1) (omega arith) ∙ here

    past : f ≤ i → first_past f P (i + 1) ≡ i + w
    past l =
        let late = first-late f P i (i + w) l e in
        first_between f P (i + 1) ((i - f) / P) (omega arith) (omega arith) ∙ late.1

-- unless that tick has it: then the first is P ticks on
pub first-due : (f P i : ℕ) → 1 ≤ P → first_past f P i ≡ i + 1 → first_past f P (i + 1) ≡ i + 1 + P
first-due f P i some e = ⊎_elim ahead past (cases_lt i f)
  where
    ahead : i < f → first_past f P (i + 1) ≡ i + 1 + P
    ahead l =
        let here = sym (first-ahead f P i l) ∙ e in
        first_between f P (i + 1) 0 (omega arith) (omega arith) ∙ omega arith

    past : f ≤ i → first_past f P (i + 1) ≡ i + 1 + P
    past l =
        let late = first-late f P i (i + 1) l e in
        first_between f P (i + 1) (suc ((i - f) / P)) (omega arith) (omega arith) ∙ omega arith
