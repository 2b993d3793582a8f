-- `Dispatcher::tick` meets its contract: each turn ticks one line more and gathers what it tells.
use Rattle.std.proofs.Common.{◌∙◌, refl, sym, ap, add-one, rules}
use Rattle.std.proofs.lemmas.List.{take_all}
use Rattle.dispatcher.specs.Dispatch.{dispatch_of}
use Rattle.dispatcher.specs.ByLine.{with_waiting}
use Rattle.dispatcher.proofs.RowLaws.{gather_none, row_step, gather-step, row_end, taken_end}
use Rattle.dispatcher.proofs.Dispatcher.tick.Goals as goal

pub returns-then-refuses-clause-answer : goal.returns-then-refuses-clause-answer
unfolding dispatch_of
returns-then-refuses-clause-answer c = search rules

pub loop-i-init : goal.loop-i-init
loop-i-init c = record { rows = refl; gathers = ap (with_waiting c.args.self) (sym (gather_none c.args.self.waiting)) }

pub loop-i-preserved : goal.loop-i-preserved
loop-i-preserved c =
    let ls = c.args.row.now in
    let i = c.loop-i.i in
    let l = c.loop-i-test.true in
    record {
      rows = rw (c.tick_in_place.ensures.moved, c.loop-i.invariant.rows, add-one) (row_step _ i ls l);
      gathers = rw (c.gather.ensures, c.tick_in_place.ensures.told, c.loop-i.invariant.rows, c.loop-i.invariant.gathers, add-one) (gather-step _ c.args.self i ls l);
    }

pub returns-clause-answer : goal.returns-clause-answer
returns-clause-answer c =
    let ls = c.args.row.now in
    let all = take_all c.loop-i.i ls c.loop-i-test.false in
    rw (c.serve-sent.ensures.sent, c.serve-sent.ensures.after, c.loop-i.invariant.gathers, all)
    (taken_end c.args.self ls (sym c.refuses.ensures ∙ c.if-refuses.false))

pub returns-clause-row_after : goal.returns-clause-row_after
returns-clause-row_after c =
    rw (c.loop-i.invariant.rows, sym c.refuses.ensures ∙ c.if-refuses.false) (row_end c.loop-i.i c.args.row.now c.loop-i-test.false)
