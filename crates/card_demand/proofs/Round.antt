-- The place that is served: the first with something to tell, going round.
use mathlib.Core.Path.{◌≡◌, refl, sym, ◌∙◌}
use mathlib.Core.Bool.{Bool, true, false, cond, true≢false}
use Prim.Native.Nat.{ℕ, zero, suc, ◌+◌, ◌-◌, min, ◌≤◌, ◌<◌}
use native.Mathlib.Omega.{arith}
use native.Mathlib.Decide.{dec_lt}
use borrow.Author.Tests.{ltb-true, ltb-false}
use lib.Dec.{ltb}
use Rattle.dispatcher.specs.Dispatch.{first_from, going_round, place_after}
use Rattle.std.specs.Prelude.{Option, Some, None}
use Rattle.std.specs.Option.{option_or}

module _ (f : ℕ → Bool) where
  -- the first of k places from a on
  data First (a k : ℕ) : Option ℕ → Type 0 where
    nowhere : ((i : ℕ) → a ≤ i → i < a + k → f i ≡ false) → First a k None
    first : (j : ℕ) → a ≤ j → j < a + k → f j ≡ true → ((i : ℕ) → a ≤ i → i < j → f i ≡ false) → First a k (Some j)

  at_or_after : (a i : ℕ) → a ≤ i → f a ≡ false → (suc a ≤ i → f i ≡ false) → f i ≡ false
  at_or_after a i h e g = by (dec_lt a i)
    where
      by : Dec (a < i) → f i ≡ false
      by (yes l) = g l
      by (no l) = let same : i ≡ a = omega arith in rw same e

  later : (a k : ℕ) (r : Option ℕ) → f a ≡ false → First (suc a) k r → First a (suc k) r
  later a k r e (nowhere g) = nowhere (λ i h l. at_or_after a i h e (λ h'. g i h' (omega arith)))
  later a k r e (first j h l t g) = first j (omega arith) (omega arith) t (λ i h' l'. at_or_after a i h' e (λ h''. g i h'' l'))

  first-here : (a k : ℕ) (r : Option ℕ) (b : Bool) → f a ≡ b → First (suc a) k r → First a (suc k) (cond b (Some a) r)
  first-here a k r true e g = first a (omega arith) (omega arith) e (λ i h l. absurd (let c : a < a = omega arith in omega arith))
  first-here a k r false e g = later a k r e g

  first-from : (k a : ℕ) → First a k (first_from f k a)
  unfolding first_from
  first-from zero a = nowhere (λ i h l. absurd (omega arith))
  first-from (suc k) a = first-here a k (first_from f k (suc a)) (f a) refl (first-from k (suc a))

  -- going round from a in a row of n, no place with something to tell comes before j
  pub record Foremost (n a j : ℕ) : Type 0 where
    pub inside : j < n
    pub holds : f j ≡ true
    pub onward : (i : ℕ) → a ≤ i → i < n → f i ≡ true → (a ≤ j) × (j ≤ i)
    pub round : (i : ℕ) → i < a → j < a → f i ≡ true → j ≤ i

  pub data Round (n a : ℕ) : Option ℕ → Type 0 where
    nobody : ((i : ℕ) → i < n → f i ≡ false) → Round n a None
    turn-of : (j : ℕ) → Foremost n a j → Round n a (Some j)

  clash : {A : Type 0} (i : ℕ) → f i ≡ true → f i ≡ false → A
  clash i t e = absurd (true≢false (sym t ∙ e))

  not-before : (i j : ℕ) → (i < j → f i ≡ false) → f i ≡ true → j ≤ i
  not-before i j g t = by (dec_lt i j)
    where
      by : Dec (i < j) → j ≤ i
      by (yes l) = clash i t (g l)
      by (no l) = omega arith

  two_parts : (n a : ℕ) → a ≤ n → (r s : Option ℕ) → First a (n - a) r → First 0 (min a n) s → Round n a (option_or r s)
  two_parts n a h r s (first j u v t g) x =
      turn-of j (record { inside = omega arith; holds = t; onward = λ i p q e. (u, not-before i j (g i p) e); round = λ i p q e. absurd (omega arith) })
  two_parts n a h r s (nowhere g) (first j u v t k) =
      turn-of j
      (record {
        inside = omega arith;
        holds = t;
        onward = λ i p q e. clash i e (g i p (omega arith));
        round = λ i p q e. not-before i j (k i (omega arith)) e;
      })
  two_parts n a h r s (nowhere g) (nowhere k) = nobody (λ i l. by i l (dec_lt i a))
    where
      by : (i : ℕ) → i < n → Dec (i < a) → f i ≡ false
      by i l (yes p) = k i (omega arith) (omega arith)
      by i l (no p) = g i (omega arith) (omega arith)

  pub going_round_lem : (n a : ℕ) → a ≤ n → Round n a (going_round f n a)
  going_round_lem n a h = two_parts n a h (first_from f (n - a) a) (first_from f (min a n) 0) (first-from (n - a) a) (first-from (min a n) 0)

-- u ticks have passed over place i, and a is the next place: the places from a round to i and those u are fewer than n
pub record Passed (n a i u : ℕ) : Type 0 where
  pub next : a < n
  pub onward : a ≤ i → u + i < n + a
  pub round : i < a → u + i < a

-- a tick that serves another place brings i nearer
pub nearer : (f : ℕ → Bool) (n a i u j : ℕ) → i < n → f i ≡ true → (i ≡ j → ⊥) → Passed n a i u → Foremost f n a j → Passed n (place_after n j) i (u + 1)
nearer f n a i u j l t ne p q = by (ltb (j + 1) n) refl (dec_lt i a) (dec_lt j a)
  where
    by : (b : Bool) → ltb (j + 1) n ≡ b → Dec (i < a) → Dec (j < a) → Passed n (cond b (j + 1) 0) i (u + 1)
    by true e (yes x) (yes y) = let z = ltb-true (j + 1) n e in let o = q.round i x y t in let w = p.round x in let k = p.next in
        record { next = z; onward = λ g. omega arith; round = λ g. absurd (ne (omega arith)) }
    by true e (yes x) (no y) = let z = ltb-true (j + 1) n e in let w = p.round x in let k = p.next in
        record { next = z; onward = λ g. absurd (omega arith); round = λ g. omega arith }
    by true e (no x) d = let z = ltb-true (j + 1) n e in let o = q.onward i (omega arith) l t in let w = p.onward (omega arith) in
        record { next = z; onward = λ g. omega (arith, o.0, o.1); round = λ g. absurd (ne (omega (arith, o.0, o.1))) }
    by false e (yes x) (yes y) = let z = ltb-false (j + 1) n e in let o = q.round i x y t in let k = p.next in absurd (omega arith)
    by false e (yes x) (no y) = let z = ltb-false (j + 1) n e in let w = p.round x in let k = p.next in let s = q.inside in
        record { next = omega arith; onward = λ g. omega arith; round = λ g. absurd (omega arith) }
    by false e (no x) d = let z = ltb-false (j + 1) n e in let o = q.onward i (omega arith) l t in let s = q.inside in absurd (ne (omega (arith, o.0, o.1)))

pub passed-few : (n a i u : ℕ) → i < n → Passed n a i u → u < n
passed-few n a i u l p = by (dec_lt i a)
  where
    by : Dec (i < a) → u < n
    by (yes x) = omega (arith, p.round x, p.next)
    by (no x) = omega (arith, p.onward (omega arith))

pub passed-zero : (n a i : ℕ) → a < n → i < n → Passed n a i 0
passed-zero n a i h l = record { next = h; onward = λ g. omega arith; round = λ g. omega arith }

pub after-inside : (n j : ℕ) → 0 < n → place_after n j < n
after-inside n j h = by (ltb (j + 1) n) refl
  where
    by : (b : Bool) → ltb (j + 1) n ≡ b → cond b (j + 1) 0 < n
    by true e = ltb-true (j + 1) n e
    by false e = h
