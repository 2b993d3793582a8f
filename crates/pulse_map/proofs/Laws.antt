-- The laws of a pulse map, each for any length.
use mathlib.Core.Path.{◌≡◌, refl}
use mathlib.Core.List.{List, [], ◌∷◌, ◌++◌}
use Prim.Native.Nat.{ℕ, zero, suc, ◌+◌, ◌-◌, ◌*◌, min, ◌≤◌}
use native.Mathlib.Nat.{suc-mul, zero-mul}
use native.Mathlib.Omega.{arith}
use lib.Dec.{leb}
use lib.ListN.{length, get_or, take, replicate, length-append, length-replicate}
use Rattle.pulse_map.specs.Map.{Entry, X, N, x_groups, n_groups, map_of, bit_of, xs_in, ns_in}
use Rattle.std.proofs.lemmas.Bool.{cond_both}

-- ---- counts of a list

pub bit_le : (e : Entry) → bit_of e ≤ 1
bit_le X = omega arith
bit_le N = omega arith

pub xs_append : (a b : List Entry) → xs_in (a ++ b) ≡ xs_in a + xs_in b
unfolding xs_in
xs_append [] b = omega arith
xs_append (e ∷ a) b = omega (arith, xs_append a b)

xs_replicate : (m : ℕ) (e : Entry) → xs_in (replicate m e) ≡ m * bit_of e
unfolding xs_in
xs_replicate zero e = omega (arith, zero-mul (bit_of e))
xs_replicate (suc m) e = omega (arith, suc-mul m (bit_of e), xs_replicate m e)

xs_and_ns : (l : List Entry) → xs_in l + ns_in l ≡ length l
unfolding xs_in ns_in
xs_and_ns [] = refl
xs_and_ns (X ∷ l) = omega (arith, xs_and_ns l)
xs_and_ns (N ∷ l) = omega (arith, xs_and_ns l)

-- ---- counts of the groups

pub x-groups_xs : (g x n : ℕ) → xs_in (x_groups g x n) ≡ x
unfolding x_groups xs_in
x-groups_xs g x zero = omega (arith, xs_replicate x X)
x-groups_xs g x (suc n) =
    omega (arith, xs_append (replicate (min g x) X) (N ∷ x_groups g (x - g) n), xs_replicate (min g x) X, x-groups_xs g (x - g) n)

n-groups_xs : (g x n : ℕ) → xs_in (n_groups g x n) ≡ x
unfolding n_groups xs_in
n-groups_xs g zero n = omega (arith, xs_replicate n N)
n-groups_xs g (suc x) n =
    omega (arith, xs_append (replicate (min g n) N) (n_groups g x (n - g)), xs_replicate (min g n) N, n-groups_xs g x (n - g))

x-groups-length : (g x n : ℕ) → length (x_groups g x n) ≡ x + n
unfolding x_groups
x-groups-length g x zero = simp length-replicate (omega arith)
x-groups-length g x (suc n) = simp (length-append, length-replicate) (omega (arith, x-groups-length g (x - g) n))

n-groups-length : (g x n : ℕ) → length (n_groups g x n) ≡ x + n
unfolding n_groups
n-groups-length g zero n = simp length-replicate (omega arith)
n-groups-length g (suc x) n = simp (length-append, length-replicate) (omega (arith, n-groups-length g x (n - g)))

-- ---- the laws of a map

-- a map has repx X's
pub map_xs : (repx repn : ℕ) → xs_in (map_of repx repn) ≡ repx
unfolding map_of
map_xs x zero = omega (arith, xs_replicate x X)
map_xs zero (suc n) = omega (arith, xs_replicate (suc n) N)
map_xs (suc x) (suc n) =
    cond_both (leb (suc n) (suc x)) _ _ (λ (l : List Entry). xs_in l ≡ suc x)
    (λ _. x-groups_xs _ (suc x) (suc n))
    (λ _. n-groups_xs _ (suc x) (suc n))

-- its length is repx + repn
pub map-length : (repx repn : ℕ) → length (map_of repx repn) ≡ repx + repn
unfolding map_of
map-length x zero = omega (arith, length-replicate x X)
map-length zero (suc n) = omega (arith, length-replicate (suc n) N)
map-length (suc x) (suc n) =
    cond_both (leb (suc n) (suc x)) _ _ (λ (l : List Entry). length l ≡ suc x + suc n)
    (λ _. x-groups-length _ (suc x) (suc n))
    (λ _. n-groups-length _ (suc x) (suc n))

-- a map has repn N's
pub map_ns : (repx repn : ℕ) → ns_in (map_of repx repn) ≡ repn
map_ns x n = omega (arith, xs_and_ns (map_of x n), map_xs x n, map-length x n)

-- with no N it is all X
pub all-x : (repx : ℕ) → map_of repx 0 ≡ replicate repx X
unfolding map_of
all-x x = refl

-- with no X it is all N
pub all-n : (repn : ℕ) → map_of 0 repn ≡ replicate repn N
unfolding map_of
all-n zero = refl
all-n (suc n) = refl

-- ---- the laws of a prefix

-- one element more has that element's X more
pub prefix_step : (l : List Entry) (k : ℕ) → xs_in (take (suc k) l) ≡ xs_in (take k l) + bit_of (get_or l k N)
unfolding xs_in
prefix_step [] zero = refl
prefix_step [] (suc k) = refl
prefix_step (e ∷ l) zero = omega arith
prefix_step (e ∷ l) (suc k) = omega (arith, prefix_step l k)

-- so the X's grow by at most one an element
pub prefix_grows : (l : List Entry) (k : ℕ) → (xs_in (take k l) ≤ xs_in (take (suc k) l)) × (xs_in (take (suc k) l) ≤ xs_in (take k l) + 1)
prefix_grows l k = (omega (arith, prefix_step l k), omega (arith, prefix_step l k, bit_le (get_or l k N)))

-- and never exceed the prefix's length
pub prefix_le : (l : List Entry) (k : ℕ) → xs_in (take k l) ≤ k
unfolding xs_in
prefix_le l zero = omega arith
prefix_le l (suc k) = omega (arith, prefix_le l k, prefix_grows l k)

-- nor those of the whole list
pub prefix_le_whole : (l : List Entry) (k : ℕ) → xs_in (take k l) ≤ xs_in l
unfolding xs_in
prefix_le_whole l zero = omega arith
prefix_le_whole [] (suc k) = omega arith
prefix_le_whole (e ∷ l) (suc k) = omega (arith, prefix_le_whole l k)
