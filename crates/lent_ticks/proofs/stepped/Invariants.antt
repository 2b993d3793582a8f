-- The value is that after the steps so far.
use Rattle.std.proofs.Common.{◌≡◌}
use Rattle.lent_ticks.specs.Runs.{repeated}
use Rattle.lent_ticks.proofs.stepped.Given as goal

abbrev pub invariant-loop : goal.invariant-loop
invariant-loop g l =
    goal.F-IsAlwaysCallable g l.step
    × ((once : _) → ((x : _) (y : _) → goal.F-post g l.fn.step x tt y → y.now ≡ once x.now) →
    l.value ≡ repeated once l.counter l.fn.value)
