-- `take_rate` meets its contract: a line that accepts has the rate, and its serial is one more.
use Rattle.std.proofs.Common.{sym, ◌∙◌, ap, is_ok}
use Rattle.line.specs.Lines.{Verdict}
use Rattle.group.proofs.RateLaws.{rate-taken, rate-kept}
use Rattle.group.proofs.rating.take_rate.Goals as goal

pub returns-then-is_ok : goal.returns-then-is_ok
returns-then-is_ok c =
    let accepts = sym (ap (λ (v : Verdict). is_ok v) c.answer.ensures) ∙ sym c.is_ok.ensures.value ∙ c.if-is_ok.true in
    rw (c.saturating_add-line.ensures, c.rated-line.ensures) (sym (rate-taken c.args.line.now c.args.interval accepts))

pub returns-else-is_ok : goal.returns-else-is_ok
returns-else-is_ok c =
    let refuses = sym (ap (λ (v : Verdict). is_ok v) c.answer.ensures) ∙ sym c.is_ok.ensures.value ∙ c.if-is_ok.false in
    sym (rate-kept c.args.line.now c.args.interval refuses)
