use Rattle.std.proofs.Common.{rules, sym, ap, ◌∙◌, length}
use Rattle.lines.proofs.SqueezeLaws.{whole, kept-turn, skipped_turn}
use Rattle.lines.proofs.squeezing.squeeze.Goals as goal
use Rattle.lines.proofs.squeezing.squeeze.Goals.{then-not-is_redundant, else-not-is_redundant}

pub loop-j-preserved : goal.loop-j-preserved
loop-j-preserved c =
    let l = c.loop-j in
    let d = c.args.buf.now in
    elim c.if-not-is_redundant.branch [
      | then-not-is_redundant w ↦ kept-turn d l.run l.kept l.j l.buf l.invariant _ _ _ _ (search rules) c.is_redundant.ensures c.after-run.ensures w.if-not-is_redundant.true w.buf-is w.kept-is
      | else-not-is_redundant w ↦ skipped_turn d l.run l.kept l.j l.buf l.invariant _ _ _ _ (search rules) c.is_redundant.ensures c.after-run.ensures w.if-not-is_redundant.false w.buf-is w.kept-is
    ]

pub returns-clause-value : goal.returns-clause-value
returns-clause-value c =
    let l = c.loop-j in
    sym l.invariant.size ∙ ap length (whole c.args.buf.now l.run l.kept l.j l.buf l.invariant (search rules))

pub returns-clause-buf_after : goal.returns-clause-buf_after
returns-clause-buf_after c =
    let l = c.loop-j in
    l.invariant.front ∙ rw (whole c.args.buf.now l.run l.kept l.j l.buf l.invariant (search rules))
