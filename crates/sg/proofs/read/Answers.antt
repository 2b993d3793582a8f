-- `read` meets its contract.
use Rattle.std.proofs.Common.{◌∙◌, sym, arith, rules}
use Rattle.sg.proofs.Loop.{refuses, goes-on}
use Rattle.sg.proofs.read.Goals as goal
use Rattle.sg.proofs.read.Goals.{in-Some, in_default}

pub returns-in_err-turn : goal.returns-in_err-turn
returns-in_err-turn c =
    let l = c.loop-b in
    let w = c.in_err-turn in
    refuses c.args.text.now l.b-index l.scanner l.notes (omega arith) l.invariant.held-is c.from_residual.result w.field-0.0
    (sym c.step.ensures ∙ w.ensures.ok_part) (search rules) c.from_residual.ensures.1

pub loop-b-preserved : goal.loop-b-preserved
loop-b-preserved c =
    let l = c.loop-b in
    let t = c.in_ok-turn in
    record {
      held-is =
          goes-on c.args.text.now l.b-index l.scanner l.notes (omega arith) l.invariant.held-is t.turn c.match-turn.notes
          (sym c.step.ensures ∙ t.ensures.ok_part)
          (elim c.match-turn.branch [ in-Some w ↦ rw (w.in-Some.is) (w.notes-is ∙ w.note.ensures) | in_default w ↦ rw w.in_default.is w.notes-is ]);
    }
