-- A refused call leaves the line as it was.
use mathlib.Core.Path.{◌≡◌}
use Prim.Native.Nat.{ℕ}
use native.Mathlib.Omega.{arith}
use Rattle.descriptor.specs.Names.{Ruling}
use Rattle.std.specs.Prelude.{Ok, Err}
use Rattle.descriptor.specs.declared.Hook.TheVariants.{Keep, Stop}
use Rattle.line.specs.Lines.{ask_of, hook_of, period_of, no_period_of, audit_of, answered_by}
use Rattle.line.specs.declared.Line.{Line}
use Rattle.demand.specs.Calls.{Call, describe, ask, hook, period, no_period, audit, tick, refused}
use Rattle.demand.specs.Machine.{ruling_of, outcome, answered, step}
use Rattle.demand.proofs.Described.{describe-step}

ruled-keeps : (u : Ruling) (l changed l' : Line) (k n : ℕ) → answered (answered_by u l changed k) ≡ outcome (refused n) l' → l' ≡ l
ruled-keeps (Ok tt) l changed l' k n e = absurd (let o : ◌≡◌ {A = ℕ} 0 1 = cc in omega arith)
ruled-keeps (Err r) l changed l' k n e = cc

pub refused-keeps : (l l' : Line) (c : Call) (n : ℕ) → step l c ≡ outcome (refused n) l' → l' ≡ l
unfolding step ask_of hook_of period_of no_period_of audit_of
refused-keeps l l' (describe k d) n e = ruled-keeps (ruling_of l (describe k d)) l _ l' _ n (rw (describe-step l k d) at e)
refused-keeps l l' (ask d) n e = absurd (let o : ◌≡◌ {A = ℕ} 0 1 = cc in omega arith)
refused-keeps l l' (hook Keep) n e = absurd (let o : ◌≡◌ {A = ℕ} 0 1 = cc in omega arith)
refused-keeps l l' (hook Stop) n e = absurd (let o : ◌≡◌ {A = ℕ} 0 1 = cc in omega arith)
refused-keeps l l' (period p) n e = ruled-keeps (ruling_of l (period p)) l _ l' _ n e
refused-keeps l l' no_period n e = absurd (let o : ◌≡◌ {A = ℕ} 0 1 = cc in omega arith)
refused-keeps l l' audit n e = absurd (let o : ◌≡◌ {A = ℕ} 0 1 = cc in omega arith)
refused-keeps l l' tick n e = absurd (let o : ◌≡◌ {A = ℕ} 0 1 = cc in omega arith)
