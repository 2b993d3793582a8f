-- An em with C > 0: slot k at k × P/C rounded down; slots climb by at least P/C, and none lies between two neighbours.
use Rattle.std.specs.Prelude.{None, Some}
use mathlib.Core.Path.{◌≡◌, refl, sym, ◌∙◌, ap}
use mathlib.Core.Bool.{false}
use mathlib.Core.List.{List}
use mathlib.Core.Logic.{◌≢◌, ⊎_elim}
use Prim.Native.Nat.{ℕ, suc, ◌+◌, ◌-◌, ◌*◌, ◌/◌, ◌≤◌, ◌<◌}
use native.Mathlib.Nat.{mul-le-mul_right, le-mul_of_pos_right}
use native.Mathlib.Nat.{le-div_iff_mul-le, div-lt_iff_lt-mul, div-mul-le_self, lt-div-mul-add}
use native.Mathlib.Omega.{arith}
use borrow.Table.Steps.{cases}
use borrow.Author.Tests.{eq-eqb, ne_eqb, ltb-true, ltb-false}
use lib.Dec.{ltb, eqb}
use Rattle.tariff.specs.Tariffs.{em}
use Rattle.steps.specs.Steps.{distance_after, after_counted}
use Rattle.tariff.specs.declared.Em.{Em}
use Rattle.tariff.specs.declared.Phase.{Phase}
use Rattle.tariff.specs.declared.Slot.TheVariants.{Pulse}
use Rattle.tariff.specs.declared.Tariff.TheVariants.{Counted}
use Rattle.tariff.specs.declared.Timed.{Timed}
use Rattle.slots.specs.Slots.{counted_slot}
use Rattle.slots.specs.Slots.{from}
use Rattle.std.proofs.lemmas.Bool.{cases_lt}
use Rattle.slots.proofs.Any.{any_some, any_none}
use Rattle.slots.proofs.From.{from_is, from-none}
use Rattle.slots.proofs.Ahead.{Good, Waits, next_of, slots_of, ahead, completes_in}

-- slot 0 is at the origin
pub counted_start : (a : List Phase) (n C P x : ℕ) → slots_of a n (Counted (em C P) 0) x ≡ counted_slot C P x
unfolding slots_of
counted_start a n C P x = ap (counted_slot C P) (omega arith)

-- a later slot is no earlier
slot_mono : (C P k m : ℕ) → 1 ≤ C → k ≤ m → k * P / C ≤ m * P / C
slot_mono C P k m c l = (le-div_iff_mul-le c).1 (omega (arith, div-mul-le_self (k * P) C, mul-le-mul_right P l))

-- from slot k to slot k + 1 it is at least P/C and at most P
slot_next : (C P k : ℕ) → 1 ≤ C → (k * P / C + P / C ≤ (k + 1) * P / C) × ((k + 1) * P / C ≤ k * P / C + P)
slot_next C P k c =
    let below = div-mul-le_self (k * P) C in
    let part = div-mul-le_self P C in
    let above = lt-div-mul-add {a = k * P} c in
    let whole = le-mul_of_pos_right P c in
    let high : (k + 1) * P / C < k * P / C + P + 1 = (div-lt_iff_lt-mul c).1 (omega arith) in
    ((le-div_iff_mul-le c).1 (omega arith), omega arith)

-- past slot k, and before slot k + 1 if there is one, no slot stands
counted_none : (C P k x : ℕ) → k < C → k * P / C < x → (k + 1 < C → x < (k + 1) * P / C) → counted_slot C P x ≡ None
unfolding counted_slot
counted_none C P k x few low high =
    rw (any_none C (λ m. eqb (m * P / C) x) (λ m l. ne_eqb (m * P / C) x (other m l)))
  where
    other : (m : ℕ) → m < C → m * P / C ≢ x
    other m l e =
        ⊎_elim
        (λ past. omega (arith, high (omega arith), slot_mono C P (k + 1) m (omega arith) (omega arith)))
        (λ before. omega (arith, slot_mono C P m k (omega arith) before))
        (cases_lt k m)

-- slot k is a pulse
pub counted-pulse : (C P k : ℕ) → k < C → counted_slot C P (k * P / C) ≡ (Some Pulse)
unfolding counted_slot
counted-pulse C P k few = rw (any_some C (λ m. eqb (m * P / C) (k * P / C)) k few (eq-eqb (k * P / C) (k * P / C) refl))

-- the slots from slot k + 1 on are those past slot k
counted_next : (C P k y : ℕ) → k < C → 1 ≤ y
    → from (distance_after C P k) (λ x. counted_slot C P (x + (k + 1) * P / C)) y ≡ counted_slot C P (y + k * P / C)
unfolding distance_after
counted_next C P k y few l =
    let mono = slot_mono C P k (k + 1) (omega arith) (omega arith) in
    from_is (λ x. counted_slot C P (x + (k + 1) * P / C)) (distance_after C P k) y (counted_slot C P (y + k * P / C))
    (λ past. ap (counted_slot C P) (omega arith))
    (λ before. counted_none C P k (y + k * P / C) few (omega arith) (λ more. omega arith))

-- it does not complete up to its next slot
pub counted_open : (D : ℕ) (a : List Phase) (n : ℕ) (m : Em) (k w y : ℕ) → 1 ≤ D → y ≤ w
    → completes_in a n D (Counted m k) w y ≡ false
unfolding completes_in
counted_open D a n m k w y lasts l =
    ne_eqb y (w + ((m.count - 1) * m.period / m.count - k * m.period / m.count) + D) (λ e. omega arith)

-- what is ahead once slot k is past
module _ (D : ℕ) (a : List Phase) (n : ℕ) (m : Em) (k : ℕ) (few : k < m.count) where
  abbrev C : ℕ
  C = m.count

  abbrev P : ℕ
  P = m.period

  abbrev later : Timed
  later = after_counted D m k

  pub counted-rest : (y : ℕ) → 1 ≤ y → ahead a n later.tariff later.wait y ≡ slots_of a n (Counted m k) y
  unfolding after_counted slots_of
  counted-rest y l = cases (ltb (k + 1) C) (λ b. rw b (counted_next C P k y few l)) (λ b. rw b (last (ltb-false (k + 1) C b)))
    where
      last : C ≤ k + 1 → from 0 (λ x. None) y ≡ counted_slot C P (y + k * P / C)
      last end =
          from-none (λ x. None) 0 y (λ x. refl)
          ∙ sym (counted_none C P k (y + k * P / C) few (omega arith) (λ more. absurd (omega arith)))

  pub counted-ends : (y : ℕ) → completes_in a n D later.tariff later.wait y ≡ completes_in a n D (Counted m k) 1 (suc y)
  unfolding after_counted distance_after completes_in
  counted-ends y = cases (ltb (k + 1) C) (λ b. rw b (more (ltb-true (k + 1) C b))) (λ b. rw b (last (ltb-false (k + 1) C b)))
    where
      more : k + 1 < C
          → completes_in a n D (Counted m (k + 1)) (distance_after C P k) y ≡ completes_in a n D (Counted m k) 1 (suc y)
      more further =
          let here = slot_mono C P k (k + 1) (omega arith) (omega arith) in
          let there = slot_mono C P (k + 1) (C - 1) (omega arith) (omega arith) in
          grind arith

      last : C ≤ k + 1 → eqb y D ≡ completes_in a n D (Counted m k) 1 (suc y)
      last end =
          let e : C - 1 ≡ k = omega arith in
          rw e (grind arith)

  module _ (S : ℕ) (spaced : 1 ≤ S) (far : 2 * S ≤ P / C) where
    pub counted-good : Waits D → C ≤ 65535 → P ≤ 86400000 → Good S a n later.tariff later.wait
    unfolding after_counted distance_after
    counted-good waits count most =
        let next = slot_next C P k (omega arith) in
        cases (ltb (k + 1) C)
        (λ b. rw b (let more = ltb-true (k + 1) C b in omega arith))
        (λ b. rw b waits)

    pub counted-far : next_of later.tariff later.wait ≢ 0 → 2 * S ≤ next_of later.tariff later.wait
    unfolding after_counted distance_after
    counted-far =
        let next = slot_next C P k (omega arith) in
        cases (ltb (k + 1) C)
        (λ b. rw b (λ left. omega arith))
        (λ b. rw b (λ left. absurd (left refl)))
