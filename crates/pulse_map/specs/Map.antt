-- The pulse map of repx entries X and repn entries N.
use Rattle.std.specs.Prelude.{if◌then◌else◌, List, [], ◌∷◌, ◌++◌, ℕ, zero, suc, ◌+◌, ◌-◌, ◌/◌, min, nat_le, replicate}
use Rattle.fractions.specs.Rounding.{rounded_half_up}

-- an interval with an entry X has pcx pulses, one with an entry N has pcn
pub data Entry : Type 0 where
  X : Entry
  N : Entry

-- repeat g X's and one N until one kind is used up; the rest is the other kind
unfoldable pub x_groups : ℕ → ℕ → ℕ → List Entry
x_groups g x zero = replicate x X
x_groups g x (suc n) = replicate (min g x) X ++ N ∷ x_groups g (x - g) n

-- repeat one X and g N's, then the remaining N's
unfoldable pub n_groups : ℕ → ℕ → ℕ → List Entry
n_groups g zero n = replicate n N
n_groups g (suc x) n = X ∷ replicate (min g n) N ++ n_groups g x (n - g)

-- If either is 0 the map is all of the other. If repx ≥ repn > 0, g is repx/repn rounded half up; if repn > repx > 0,
-- g is repn/repx rounded down.
unfoldable pub map_of : ℕ → ℕ → List Entry
map_of repx zero = replicate repx X
map_of zero (suc n) = replicate (suc n) N
map_of (suc x) (suc n) =
    if nat_le (suc n) (suc x) then x_groups (rounded_half_up (suc x) (suc n)) (suc x) (suc n)
    else n_groups (suc n / suc x) (suc x) (suc n)

-- 1 for X
abbrev pub bit_of : Entry → ℕ
bit_of X = 1
bit_of N = 0

-- the number of X's
unfoldable pub xs_in : List Entry → ℕ
xs_in [] = 0
xs_in (e ∷ es) = bit_of e + xs_in es

-- the number of N's
unfoldable pub ns_in : List Entry → ℕ
ns_in [] = 0
ns_in (X ∷ es) = ns_in es
ns_in (N ∷ es) = suc (ns_in es)
