-- Some number below a bound passes a test, or none does.
use mathlib.Core.Path.{◌≡◌, refl}
use mathlib.Core.Bool.{Bool, true, false, or-true}
use Prim.Native.Nat.{ℕ, zero, suc, ◌<◌}
use native.Mathlib.Omega.{arith}
use borrow.Table.Steps.{cases}
use borrow.Author.Tests.{eqb-true, eqb-false}
use lib.Dec.{eqb}
use Rattle.slots.specs.Slots.{any_below}

-- k passes
pub any_some : (n : ℕ) (test : ℕ → Bool) (k : ℕ) → k < n → test k ≡ true → any_below n test ≡ true
unfolding any_below
any_some zero test k l p = absurd (omega arith)
any_some (suc n) test k l p =
    cases (eqb k n)
    (λ e. rw (← eqb-true k n e, p) refl)
    (λ e. let d = eqb-false k n e in rw (any_some n test k (omega arith) p) (or-true (test n)))

-- every number below n fails
pub any_none : (n : ℕ) (test : ℕ → Bool) → ((k : ℕ) → k < n → test k ≡ false) → any_below n test ≡ false
unfolding any_below
any_none zero test none = refl
any_none (suc n) test none = rw (none n (omega arith), any_none n test (λ k l. none k (omega arith)))
