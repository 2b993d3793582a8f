-- What is left of the quiet ticks, turn by turn.
use Rattle.std.proofs.Common.{◌≡◌, ℕ, suc, ◌+◌, ◌-◌, ◌<◌, arith}
use Rattle.std.specs.Prelude.{true, false}
use Rattle.state.specs.States.{quiet_of, waited_of}
use Rattle.state.specs.declared.State.{State}
use Rattle.meter.specs.Quiet.{quiet_first}

module _ (D S n : ℕ) where
  -- at first all of them are
  pub first : (s : State) → quiet_first D S n s ≡ quiet_first D S (n - 0) s
  first s = let e : n - 0 ≡ n = omega arith in rw e

  -- a quiet tick goes on to the next state
  pub goes_on : (i : ℕ) (s : State) → i < n → quiet_of D S s ≡ true →
      quiet_first D S (n - i) s ≡ quiet_first D S (n - (i + 1)) (waited_of S s)
  unfolding quiet_first
  goes_on i s below quiet = let e : n - i ≡ suc (n - (i + 1)) = omega arith in rw (e, quiet)

  -- a busy one ends them
  pub stops : (i : ℕ) (s : State) → i < n → quiet_of D S s ≡ false → quiet_first D S (n - i) s ≡ (s, n - i)
  unfolding quiet_first
  stops i s below busy = let e : n - i ≡ suc (n - (i + 1)) = omega arith in rw (e, busy)

  -- and so does the last
  pub ends : (i : ℕ) (s : State) → n ≡ i → quiet_first D S (n - i) s ≡ (s, 0)
  unfolding quiet_first
  ends i s last = let e : n - i ≡ 0 = omega arith in rw e
