-- The X's among the first k elements of any map, worked out from k alone.
use mathlib.Core.Path.{◌≡◌, refl, sym, ap, ◌∙◌}
use mathlib.Core.List.{List, [], ◌∷◌, ◌++◌, append-nil}
use mathlib.Core.Logic.{⊎_elim}
use Prim.Native.Nat.{ℕ, zero, suc, ◌+◌, ◌-◌, ◌*◌, ◌/◌, min, ◌≤◌, ◌<◌}
use native.Mathlib.Nat.{zero-mul, suc-mul, zero-min, min-zero, sub-zero, zero-sub, suc-sub-suc, suc-min-suc}
use native.Mathlib.Nat.{div-eq_of_lt, add-div_left, div-eq-sub-div, div-le_self, mul-div-le}
use native.Mathlib.Omega.{arith}
use lib.ListN.{take, replicate}
use lib.Seq.{take-nil}
use borrow.Author.Tests.{le-leb, lt-leb}
use Rattle.fractions.specs.Rounding.{rounded_half_up}
use Rattle.pulse_map.specs.Map.{Entry, X, N, x_groups, n_groups, map_of, bit_of, xs_in}
use Rattle.std.proofs.lemmas.Bool.{cases_lt}
use Rattle.pulse_map.proofs.Laws.{x-groups_xs, prefix_le, prefix_le_whole}

moved : (l : List Entry) {i j : ℕ} → i ≡ j → xs_in (take i l) ≡ xs_in (take j l)
moved l e = ap (λ (k : ℕ). xs_in (take k l)) e

-- a run of m entries e, and what follows it
run : (e : Entry) (m k : ℕ) (l : List Entry) → xs_in (take k (replicate m e ++ l)) ≡ min k m * bit_of e + xs_in (take (k - m) l)
unfolding xs_in
run e zero k l = rw (min-zero, sub-zero, zero-mul) (omega arith)
run e (suc m) zero l = rw (zero-sub, zero-min, zero-mul)
run e (suc m) (suc k) l = rw (suc-min-suc, suc-sub-suc) (omega (arith, suc-mul (min k m) (bit_of e), run e m k l))

nothing : (k : ℕ) → xs_in (take k []) ≡ 0
unfolding xs_in
nothing k = rw take-nil

-- a run with nothing after it
last-run : (e : Entry) (m k : ℕ) → xs_in (take k (replicate m e)) ≡ min k m * bit_of e
last-run e m k =
    ap (λ (l : List Entry). xs_in (take k l)) (sym (append-nil (replicate m e)))
    ∙ omega (arith, run e m k [], nothing (k - m))

-- the N after a run
past-n : (k : ℕ) (l : List Entry) → xs_in (take k (N ∷ l)) ≡ xs_in (take (k - 1) l)
unfolding xs_in
past-n zero l = refl
past-n (suc k) l = let e : k ≡ suc k - 1 = omega arith in omega (arith, moved l e)

module _ (g : ℕ) where
  -- within the first group, and past it
  within : (k : ℕ) → k ≤ g → k / (g + 1) ≡ 0
  within k h = div-eq_of_lt (omega arith)

  beyond : (k : ℕ) → g < k → k / (g + 1) ≡ (k - (g + 1)) / (g + 1) + 1
  beyond k h = div-eq-sub-div (omega arith) (omega arith)

  -- k elements are more than their groups by as many as stand in one group
  groups_le : (k : ℕ) → k / (g + 1) + min g k ≤ k
  groups_le k =
      ⊎_elim
      (λ h. omega (arith, beyond k h, div-le_self (k - (g + 1)) (g + 1)))
      (λ h. omega (arith, within k h))
      (cases_lt g k)

  -- ---- g X's and one N: the N's of k elements are its whole groups, as far as there are N's
  x-step : (x n k : ℕ) → xs_in (take k (x_groups g x (suc n))) ≡ min k (min g x) + xs_in (take (k - min g x - 1) (x_groups g (x - g) n))
  unfolding x_groups
  x-step x n k = omega (arith, run X (min g x) k (N ∷ x_groups g (x - g) n), past-n (k - min g x) (x_groups g (x - g) n))

  -- within the first group, past it, and with fewer X's than it has
  x_in : (x n k : ℕ) → g ≤ x → k ≤ g → xs_in (take k (x_groups g x (suc n))) ≡ k
  x_in x n k l h = omega (arith, x-step x n k, prefix_le (x_groups g (x - g) n) (k - min g x - 1))

  x-over : (x n k : ℕ) → g ≤ x → g < k → xs_in (take k (x_groups g x (suc n))) ≡ g + xs_in (take (k - (g + 1)) (x_groups g (x - g) n))
  x-over x n k l h =
      let e : k - min g x - 1 ≡ k - (g + 1) = omega arith in
      omega (arith, x-step x n k, moved (x_groups g (x - g) n) e)

  x-few : (x n k : ℕ) → x < g → xs_in (take k (x_groups g x (suc n))) ≡ min k x
  x-few x n k l = omega (arith, x-step x n k, prefix_le_whole (x_groups g (x - g) n) (k - min g x - 1), x-groups_xs g (x - g) n)

  -- one group more has g X's more, as far as there are X's
  after-group : (x k q n : ℕ) → q ≤ k → g + min x (k - min q n) ≡ min (g + x) (g + 1 + k - min (q + 1) (suc n))
  after-group x k q n h = omega arith

  x_prefix : (x n k : ℕ) → xs_in (take k (x_groups g x n)) ≡ min x (k - min (k / (g + 1)) n)
  unfolding x_groups
  x_prefix x zero k = omega (arith, last-run X x k)
  x_prefix x (suc n) k =
      ⊎_elim
      (λ l. x-few x n k l ∙ omega (arith, groups_le k))
      (λ l. ⊎_elim
      (λ h. let all : g + (x - g) ≡ x = omega arith in
      let whole : g + 1 + (k - (g + 1)) ≡ k = omega arith in
      x-over x n k l h
      ∙ ap (λ (xs : ℕ). g + xs) (x_prefix (x - g) n (k - (g + 1)))
      ∙ rw (all, whole, ← beyond k h) at (after-group (x - g) (k - (g + 1)) ((k - (g + 1)) / (g + 1)) n (div-le_self (k - (g + 1)) (g + 1))))
      (λ h. x_in x n k l h ∙ omega (arith, groups_le k))
      (cases_lt g k))
      (cases_lt x g)

  -- ---- one X and g N's: the X's of k elements are the groups that begin in them, as far as there are X's
  n-step : (x n k : ℕ) → g ≤ n → xs_in (take (suc k) (n_groups g (suc x) n)) ≡ 1 + xs_in (take (k - g) (n_groups g x (n - g)))
  unfolding n_groups xs_in
  n-step x n k h =
      let e : k - min g n ≡ k - g = omega arith in
      omega (arith, run N (min g n) k (n_groups g x (n - g)), moved (n_groups g x (n - g)) e)

  n_prefix : (x n k : ℕ) → x * g ≤ n → xs_in (take k (n_groups g x n)) ≡ min x ((k + g) / (g + 1))
  unfolding n_groups xs_in
  n_prefix zero n k h = omega (arith, last-run N n k)
  n_prefix (suc x) n zero h = omega (arith, within (0 + g) (omega arith))
  n_prefix (suc x) n (suc k) h =
      let e : suc k + g ≡ g + 1 + k = omega arith in
      let step = n-step x n k (omega (arith, suc-mul x g)) in
      let rest = n_prefix x (n - g) (k - g) (omega (arith, suc-mul x g)) in
      rw (e, add-div_left k {k = g + 1} (omega arith))
      (⊎_elim
      (λ l. let f : k - g + g ≡ g = omega arith in omega (arith, step, rw f at rest, within k (omega arith), within g (omega arith)))
      (λ l. let f : k - g + g ≡ k = omega arith in omega (arith, step, rw f at rest))
      (cases_lt k g))

-- ---- of a map

map-x : (x n : ℕ) → n ≤ x → map_of x n ≡ x_groups (rounded_half_up x n) x n
unfolding map_of x_groups
map-x x zero h = refl
map-x zero (suc n) h = absurd (omega arith)
map-x (suc x) (suc n) h = rw (le-leb (suc n) (suc x) h)

map-n : (x n : ℕ) → x < n → map_of x n ≡ n_groups (n / x) x n
unfolding map_of n_groups
map-n x zero h = absurd (omega arith)
map-n zero (suc n) h = refl
map-n (suc x) (suc n) h = rw (lt-leb (suc n) (suc x) h)

pub prefix_x : (x n k : ℕ) → n ≤ x → xs_in (take k (map_of x n)) ≡ min x (k - min (k / (rounded_half_up x n + 1)) n)
prefix_x x n k h = rw (map-x x n h) (x_prefix (rounded_half_up x n) x n k)

pub prefix_n : (x n k : ℕ) → x < n → xs_in (take k (map_of x n)) ≡ min x ((k + n / x) / (n / x + 1))
prefix_n x n k h = rw (map-n x n h) (n_prefix (n / x) x n k (mul-div-le n x))
