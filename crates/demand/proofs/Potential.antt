-- How many ticks a line needs until the next pulse of a burst begins, whatever its tariff: a bound that each tick lowers.
-- Of a line it takes: w, the ticks since the last front, held at S; g and k, the burst's distance and the ticks since its
-- own last front, held at g; v, the ticks to the next slot, 0 where none is left.
use mathlib.Core.Path.{◌≡◌, refl}
use Prim.Native.Nat.{ℕ, ◌+◌, ◌-◌, ◌*◌, min, max, ◌≤◌, ◌<◌}
use native.Mathlib.Decide.{dec_le}
use native.Mathlib.Omega.{arith}

-- within E ticks both distances have passed
pub record Passed (S w g k E : ℕ) : Type 0 where
  pub some : 1 ≤ E
  pub fronts : S ≤ w + E
  pub own : g ≤ k + E

-- the next burst pulse begins within F ticks, while no call changes the tariff: no slot is left; or there is time before the
-- next slot; or S ticks after it; or, later, before a slot that is 2S away from the one before it
pub data Within (S w g k v F : ℕ) : Type 0 where
  free : (E : ℕ) → Passed S w g k E → v ≡ 0 → E ≤ F → Within S w g k v F
  before : (E : ℕ) → Passed S w g k E → E + S ≤ v → E ≤ F → Within S w g k v F
  after : (E : ℕ) → Passed S w g k E → 1 ≤ v → E ≤ v + S → v + S ≤ F → Within S w g k v F
  late : (E : ℕ) → Passed S w g k E → E + 2 * S ≤ F → Within S w g k v F

-- why no burst pulse begins at a tick with no slot: the next slot is too near, or a distance has not passed
pub data Blocked (S w g k v : ℕ) : Type 0 where
  slot-near : 1 ≤ v → v ≤ S → Blocked S w g k v
  front-near : w + 1 < S → Blocked S w g k v
  own-near : k + 1 < g → Blocked S w g k v

module _ (S : ℕ) (z : 1 ≤ S) (w g k v F : ℕ) where
  pub positive : Within S w g k v F → 1 ≤ F
  positive (free E s p q) = omega arith
  positive (before E s p q) = omega arith
  positive (after E s o p q) = omega arith
  positive (late E s p) = omega arith

  -- a fresh tariff costs 2S at most
  pub replaced : (u : ℕ) → Within S w g k v F → Within S w g k u (F + 2 * S)
  replaced u (free E s p q) = late E s (omega arith)
  replaced u (before E s p q) = late E s (omega arith)
  replaced u (after E s o p q) = late E s (omega arith)
  replaced u (late E s p) = late E s (omega arith)

  pub stopped : Within S w g k v F → Within S w g k 0 F
  stopped (free E s p q) = free E s refl q
  stopped (before E s p q) = free E s refl q
  stopped (after E s o p q) = free E s refl (omega arith)
  stopped (late E s p) = free E s refl (omega arith)

  -- after a slot the next one, if there is one, is 2S away: w' is the ticks since the last front then
  module _ (w' u : ℕ) (far : (u ≡ 0 → ⊥) → 2 * S ≤ u) where
    soonest : (E : ℕ) → E ≤ S → Passed S w' g (min g (k + 1)) E → E ≤ F - 1 → Within S w' g (min g (k + 1)) u (F - 1)
    soonest E n s l = by (dec_le u 0)
      where
        by : Dec (u ≤ 0) → Within S w' g (min g (k + 1)) u (F - 1)
        by (yes h) = free E s (omega arith) l
        by (no h) = before E s (let m = far (λ e. h (omega arith)) in omega arith) l

  pub pulse-slot : (u : ℕ) → ((u ≡ 0 → ⊥) → 2 * S ≤ u) → v ≡ 1 → Within S w g k v F → Within S 0 g (min g (k + 1)) u (F - 1)
  pulse-slot u far e (free E s p q) = absurd (omega arith)
  pulse-slot u far e (before E s p q) = absurd (omega arith)
  pulse-slot u far e (after E s o p q) = soonest 0 u far S (omega arith) (omega arith) (omega arith)
  pulse-slot u far e (late E s p) = by (dec_le E (S + 1))
    where
      by : Dec (E ≤ S + 1) → Within S 0 g (min g (k + 1)) u (F - 1)
      by (yes h) = soonest 0 u far S (omega arith) (omega arith) (omega arith)
      by (no h) = late (E - 1) (omega arith) (omega arith)

  pub empty-slot : (u : ℕ) → ((u ≡ 0 → ⊥) → 2 * S ≤ u) → v ≡ 1 → Within S w g k v F → Within S (min S (w + 1)) g (min g (k + 1)) u (F - 1)
  empty-slot u far e (free E s p q) = absurd (omega arith)
  empty-slot u far e (before E s p q) = absurd (omega arith)
  empty-slot u far e (after E s o p q) = soonest (min S (w + 1)) u far S (omega arith) (omega arith) (omega arith)
  empty-slot u far e (late E s p) = by (dec_le E (S + 1))
    where
      by : Dec (E ≤ S + 1) → Within S (min S (w + 1)) g (min g (k + 1)) u (F - 1)
      by (yes h) = soonest (min S (w + 1)) u far S (omega arith) (omega arith) (omega arith)
      by (no h) = late (E - 1) (omega arith) (omega arith)

  pub waits : (v ≡ 1 → ⊥) → Blocked S w g k v → Within S w g k v F → Within S (min S (w + 1)) g (min g (k + 1)) (v - 1) (F - 1)
  waits o (slot-near y x) (free E s p q) = absurd (omega arith)
  waits o (front-near h) (free E s p q) = free (E - 1) (omega arith) (omega arith) (omega arith)
  waits o (own-near h) (free E s p q) = free (E - 1) (omega arith) (omega arith) (omega arith)
  waits o (slot-near y x) (before E s p q) = absurd (omega arith)
  waits o (front-near h) (before E s p q) = before (E - 1) (omega arith) (omega arith) (omega arith)
  waits o (own-near h) (before E s p q) = before (E - 1) (omega arith) (omega arith) (omega arith)
  waits o (slot-near y x) (after E s u p q) = after (max 1 (E - 1)) (omega arith) (omega arith) (omega arith) (omega arith)
  waits o (front-near h) (after E s u p q) = after (max 1 (E - 1)) (omega arith) (omega arith) (omega arith) (omega arith)
  waits o (own-near h) (after E s u p q) = after (max 1 (E - 1)) (omega arith) (omega arith) (omega arith) (omega arith)
  waits o (slot-near y x) (late E s p) = by (dec_le E 1)
    where
      by : Dec (E ≤ 1) → Within S (min S (w + 1)) g (min g (k + 1)) (v - 1) (F - 1)
      by (yes h) = after 1 (omega arith) (omega arith) (omega arith) (omega arith)
      by (no h) = late (E - 1) (omega arith) (omega arith)
  waits o (front-near h) (late E s p) = late (E - 1) (omega arith) (omega arith)
  waits o (own-near h) (late E s p) = late (E - 1) (omega arith) (omega arith)
