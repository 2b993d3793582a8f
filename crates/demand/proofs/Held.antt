-- Ticks since the last front, held at a number: what a line keeps of a distance, against what its history says.
use mathlib.Core.Path.{◌≡◌}
use Prim.Native.Nat.{ℕ, suc, ◌+◌, ◌-◌, min, max, ◌≤◌}
use native.Mathlib.Omega.{arith}
use borrow.Author.Tests.{le-leb, le-ltb}
use lib.Dec.{leb, ltb}
use Rattle.burst.specs.Bursts.{held_more}
use Rattle.demand.specs.History.{Last, never, at, passed, pulse_on, origin_after}

-- two tests that stand for the same fact are equal
pub same_le : (a b c d : ℕ) → (a ≤ b → c ≤ d) → (c ≤ d → a ≤ b) → leb a b ≡ leb c d
same_le a b c d f g = grind arith

-- n where there was no front: with no earlier front a distance asks nothing
abbrev pub held_since : ℕ → Last → ℕ → ℕ
held_since n never now = n
held_since n (at u) now = min n (now - u)

-- a front is not later than now
abbrev pub Before : Last → ℕ → Type 0
Before never now = Unit {0}
Before (at u) now = u ≤ now

pub before_more : (last : Last) (i : ℕ) → Before last i → Before last (i + 1)
before_more never i b = tt
before_more (at u) i b = omega arith

module _ (n i : ℕ) where
  pub held_more_lem : (last : Last) → Before last i → held_more n (held_since n last i) ≡ held_since n last (i + 1)
  held_more_lem never b = omega arith
  held_more_lem (at u) b = omega arith

  pub held-passed : (last : Last) → Before last i → leb n (held_since n last i) ≡ passed n last i
  held-passed never b = le-leb n n (omega arith)
  held-passed (at u) b = same_le n (min n (i - u)) (u + n) i (λ p. omega arith) (λ p. omega arith)

  pub held_on : (D : ℕ) → D ≤ n → (last : Last) → Before last i → ltb (held_since n last i) D ≡ pulse_on D last i
  held_on D l never b = le-ltb n D l
  held_on D l (at u) b = same_le (suc (min n (i - u))) D (suc i) (u + D) (λ p. omega arith) (λ p. omega arith)

  pub origin_is : (last : Last) → Before last i → origin_after n last i ≡ i + max 1 (n - held_since n last i)
  origin_is never b = omega arith
  origin_is (at u) b = omega arith
