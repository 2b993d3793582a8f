-- What a history adds up to, part by part.
use mathlib.Core.Path.{◌≡◌}
use mathlib.Core.List.{List, [], ◌∷◌, ◌++◌}
use Prim.Native.Nat.{ℕ, ◌+◌}
use native.Mathlib.Omega.{arith}
use Rattle.demand.specs.Calls.{Entry}
use Rattle.demand.specs.History.{sum, ticks}

pub ticks_append : (a b : List Entry) → ticks (a ++ b) ≡ ticks a + ticks b
unfolding ticks
ticks_append [] b = omega arith
ticks_append (e ∷ a) b = grind (arith, ticks_append a b)

pub sum_append : (f : Entry → ℕ) (a b : List Entry) → sum f (a ++ b) ≡ sum f a + sum f b
unfolding sum
sum_append f [] b = omega arith
sum_append f (e ∷ a) b = omega (arith, sum_append f a b)
