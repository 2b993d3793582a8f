-- `answer` meets its contract.
use Rattle.group.proofs.RateLaws.{rate-verdict}
use Rattle.group.proofs.asking.answer.Goals as goal

pub returns : goal.returns
returns c =
    rw (c.and.ensures, c.ruling.ensures, c.empty.ensures, c.is_endless-endless.ensures, c.is_running-running.ensures) (rate-verdict c.args.line.now c.args.interval)
