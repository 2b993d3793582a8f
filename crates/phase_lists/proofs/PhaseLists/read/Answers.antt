-- `read` meets its contract: a phase that is met and stored extends the table by one.
use Rattle.std.proofs.Common.{◌≡◌, ◌∙◌, arith}
use Rattle.phase_lists.specs.Lists.{lists_in}
use Rattle.phase_lists.specs.Tables.{table_of}
use Rattle.phase_lists.proofs.PhaseTables.{no-phases, stored_next, stored_past}
use Rattle.phase_lists.proofs.PhaseLists.read.Goals as goal
use Rattle.phase_lists.proofs.PhaseLists.read.Goals.{then-i-lt8, else-i-lt8}

pub loop-i-init : goal.loop-i-init
loop-i-init c = c.empty-table.ensures ∙ no-phases c.args.spacing (lists_in c.args.self)

pub loop-i-preserved : goal.loop-i-preserved
loop-i-preserved c =
    let i = c.loop-i.i in
    let ls = lists_in c.args.self in
    elim c.if-i-lt8.branch [
      | then-i-lt8 w ↦
          rw (w.table-is, c.meet-table.ensures, c.phase-p.ensures, c.loop-i.invariant)
          (stored_next c.args.spacing ls i w.if-i-lt8.true)
      | else-i-lt8 w ↦
          rw (w.table-is, c.meet-table.ensures, c.phase-p.ensures, c.loop-i.invariant)
          (stored_past c.args.spacing ls i w.if-i-lt8.false)
    ]

pub returns : goal.returns
unfolding table_of
returns c =
    let all : c.loop-i.i ≡ c.count-i-end.result = omega arith in
    rw (c.loop-i.invariant, all, c.count-i-end.ensures)
