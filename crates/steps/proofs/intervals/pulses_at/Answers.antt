use Rattle.std.proofs.Common.{◌≡◌, ℕ, ◌+◌, ◌≤◌, arith}
use borrow.Table.Steps.{cases}
use Rattle.pulse_map.specs.Refusals.{no_map}
use Rattle.steps.specs.Steps.{pulses_at}
use Rattle.tariff.specs.declared.Phase.{Phase}
use Rattle.pulse_map.proofs.Refusals.{has-map}
use Rattle.steps.proofs.intervals.pulses_at.Goals as goal

-- no map has more than a hundred entries
no-entry : (p : Phase) (e : ℕ) → 100 ≤ e → 0 ≡ pulses_at p e
unfolding pulses_at
no-entry p e past =
    cases (no_map p.repx p.repn (e + 1)) (λ t. rw t) (λ t. absurd (omega (arith, has-map p.repx p.repn (e + 1) t)))

pub returns-in_default : goal.returns-in_default
returns-in_default c = no-entry _ _ (omega (arith, c.in_default.ensures))
