-- The first place of which a test holds, by what `find` answers.
use mathlib.Core.Path.{◌≡◌, refl}
use mathlib.Core.Bool.{Bool, true, false}
use Prim.Native.Nat.{ℕ, zero, suc, ◌+◌, ◌-◌, ◌≤◌, ◌<◌}
use native.Mathlib.Omega.{arith}
use native.Mathlib.Decide.{dec_lt}
use Rattle.std.specs.Prelude.{Option, Some, None, MatchOption}
use Rattle.dispatcher.specs.Dispatch.{first_from}

module _ (f : ℕ → Bool) where
  -- it holds nowhere from place i on and before place j
  abbrev pub Nowhere : ℕ → ℕ → Type 0
  Nowhere i j = (n : ℕ) → i ≤ n → n < j → f n ≡ false

  first-none : (k i : ℕ) → Nowhere i (i + k) → None ≡ first_from f k i
  unfolding first_from
  first-none zero i h = refl
  first-none (suc k) i h = rw (h i (omega arith) (omega arith)) (first-none k (suc i) (λ n a b. h n (omega arith) (omega arith)))

  first-some : (k i n : ℕ) → i ≤ n → n < i + k → f n ≡ true → Nowhere i n → Some n ≡ first_from f k i
  unfolding first_from
  first-some zero i n a b e h = absurd (omega arith)
  first-some (suc k) i n a b e h =
      elim (dec_lt i n) [
        | yes l ↦ rw (h i (omega arith) l) (first-some k (suc i) n l (omega arith) e (λ m c d. h m (omega arith) d))
        | no l ↦ let same : i ≡ n = omega arith in rw (same, e) refl
      ]

  pub first-found : (i to : ℕ) (r : Option ℕ) → MatchOption r (Nowhere i to) (λ n. (i ≤ n) × (n < to) × (f n ≡ true) × Nowhere i n) → r ≡ first_from f (to - i) i
  first-found i to None h = first-none (to - i) i (λ n a b. h n a (omega arith))
  first-found i to (Some n) h = first-some (to - i) i n h.0 (omega (arith, h.0, h.1)) h.2 h.3
