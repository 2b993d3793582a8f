-- A fresh tariff and a rate: the tariff that the line keeps is good, and the ticks to its next slot.
use mathlib.Core.Path.{◌≡◌, refl}
use mathlib.Core.Bool.{true}
use mathlib.Core.List.{List}
use Prim.Native.Nat.{ℕ, zero, suc}
use native.Mathlib.Omega.{arith}
use Rattle.rules.specs.Rules.{sound_em, distance_of}
use Rattle.tariff.specs.Tariffs.{em_of, phased_of, rate_of}
use Rattle.tariff.specs.declared.Phase.{Phase}
use Rattle.tariff.specs.declared.Tariff.{Tariff}
use Rattle.tariff.specs.declared.Tariff.TheVariants.{Idle, Endless, Counted, Phased, Ending}
use Rattle.slots.proofs.Ahead.{Waits, Good, next_of}

module _ (S : ℕ) (a : List Phase) (n : ℕ) where
  -- an em that is accepted
  pub good-em : (C P w : ℕ) → sound_em S C P ≡ true → Waits w → Good S a n (em_of C P) w
  unfolding em_of sound_em distance_of
  good-em zero P w ok waits = grind arith
  good-em (suc c) P w ok waits = grind arith

  -- a rate that is accepted
  pub good-rate : (P : ℕ) (t : Tariff) (w : ℕ) → sound_em S 0 P ≡ true → Good S a n t w → Good S a n (rate_of P t) w
  unfolding em_of rate_of
  good-rate P Idle w ok g = g
  good-rate P (Endless Q) w ok g = good-em 0 P w ok g.0
  good-rate P (Counted m k) w ok g = g
  good-rate P (Phased q) w ok g = g
  good-rate P Ending w ok g = g

-- the next slot of a fresh tariff is at its origin, and a rate leaves it
pub next-em : (C P w : ℕ) → next_of (em_of C P) w ≡ w
unfolding em_of
next-em zero P w = refl
next-em (suc c) P w = refl

pub next-phased : (a : List Phase) (w : ℕ) → next_of (phased_of a) w ≡ w
unfolding phased_of
next-phased a w = refl

pub next-rate : (P : ℕ) (t : Tariff) (w : ℕ) → next_of (rate_of P t) w ≡ next_of t w
unfolding rate_of
next-rate P Idle w = refl
next-rate P (Endless Q) w = refl
next-rate P (Counted m k) w = refl
next-rate P (Phased q) w = refl
next-rate P Ending w = refl
