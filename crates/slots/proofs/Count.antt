-- How many numbers below a bound pass a test.
use mathlib.Core.Path.{◌≡◌, refl}
use mathlib.Core.Bool.{Bool, true, false, cond, ◌||◌}
use Prim.Native.Nat.{ℕ, zero, suc, ◌+◌, ◌*◌, ◌≤◌, ◌<◌}
use native.Mathlib.Nat.{add-zero, add-suc, mul-lt-mul_of_pos_right}
use native.Mathlib.Omega.{arith}
use borrow.Author.Tests.{ne_eqb, eqb-true, eqb-false}
use borrow.Table.Steps.{cases}
use lib.Dec.{eqb}
use Rattle.slots.specs.Slots.{any_below}
use Rattle.slots.proofs.Any.{any_none}

-- 1 for a test that is passed
abbrev bit : Bool → ℕ
bit b = cond b 1 0

-- the numbers below n that pass the test
unfoldable pub count_below : ℕ → (ℕ → Bool) → ℕ
count_below zero test = 0
count_below (suc n) test = count_below n test + bit (test n)

pub count-more : (m n : ℕ) (test : ℕ → Bool) → count_below (m + n) test ≡ count_below m test + count_below n (λ k. test (m + k))
unfolding count_below
count-more m zero test = rw (add-zero m, add-zero (count_below m test))
count-more m (suc n) test = rw (add-suc m n) (omega (arith, count-more m n test))

pub count_same : (n : ℕ) (f g : ℕ → Bool) → ((k : ℕ) → k < n → f k ≡ g k) → count_below n f ≡ count_below n g
unfolding count_below
count_same zero f g same = refl
count_same (suc n) f g same = rw (same n (omega arith), count_same n f g (λ k h. same k (omega arith)))

count_none : (n : ℕ) (test : ℕ → Bool) → ((k : ℕ) → k < n → test k ≡ false) → count_below n test ≡ 0
unfolding count_below
count_none zero test none = refl
count_none (suc n) test none = rw (none n (omega arith), count_none n test (λ k h. none k (omega arith)))

count-one : (n c : ℕ) → c < n → count_below n (λ k. eqb c k) ≡ 1
unfolding count_below
count-one zero c h = absurd (omega arith)
count-one (suc n) c h =
    cases (eqb c n)
    (λ t. let last = eqb-true c n t in rw (t, count_none n (λ k. eqb c k) (λ k less. ne_eqb c k (λ same. absurd (omega arith)))))
    (λ t. let before = eqb-false c n t in rw t (omega (arith, count-one n c (omega arith))))

count-either : (n : ℕ) (f g : ℕ → Bool) → ((k : ℕ) → f k ≡ true → g k ≡ false)
    → count_below n (λ k. f k || g k) ≡ count_below n f + count_below n g
unfolding count_below
count-either zero f g apart = refl
count-either (suc n) f g apart = grind (arith, count-either n f g apart, apart n)

-- the first m multiples of q are m numbers
pub count_multiples : (m q n : ℕ) → 1 ≤ q → m * q ≤ n → count_below n (λ k. any_below m (λ j. eqb (j * q) k)) ≡ m
unfolding any_below
count_multiples zero q n some room = count_none n (λ k. false) (λ k h. refl)
count_multiples (suc m) q n some room =
    omega (
      arith,
      count-either n (λ k. eqb (m * q) k) (λ k. any_below m (λ j. eqb (j * q) k)) apart,
      count-one n (m * q) (omega arith),
      count_multiples m q n some (omega arith),
    )
  where
    apart : (k : ℕ) → eqb (m * q) k ≡ true → any_below m (λ j. eqb (j * q) k) ≡ false
    apart k here =
        let last = eqb-true (m * q) k here in
        any_none m (λ j. eqb (j * q) k)
        (λ j less. ne_eqb (j * q) k (λ same. absurd (omega (arith, mul-lt-mul_of_pos_right {m = j} {n = m} {k = q} less some))))
