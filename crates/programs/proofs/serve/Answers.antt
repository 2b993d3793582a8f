-- `serve` meets its contract: each turn of the loop is one step more.
use Rattle.std.proofs.Common.{refl, inl, inr, arith}
use Rattle.std.proofs.lemmas.Result.{on_ok_weaker}
use Rattle.programs.proofs.StepLaws.{no_step, one_more}
use Rattle.programs.proofs.serve.Goals as goal
use Rattle.programs.proofs.serve.Goals.{else-loop-test, then-loop-test+then-is_over}

pub loop-init : goal.loop-init
loop-init g c = no_step g.P.Program.reads g.P.Program.puts _

pub loop-preserved : goal.loop-preserved
loop-preserved g c =
    one_more g.P.Program.reads g.P.Program.puts c.loop.counter _ _ _ c.loop.invariant
    (record {
      more = rw (c.is_over.ensures, c.next-line.ensures) at c.if-is_over.false;
      handed = rw c.next-line.ensures at c.in_ok-react.ensures.program;
      put = rw c.next-line.ensures at c.in_ok-react.ensures.output;
      onward = rw c.next-line.ensures at c.onward.ensures;
    })

pub returns-clause-served : goal.returns-clause-served
returns-clause-served g c =
    on_ok_weaker c.close.result
    (λ grows. record {
      steps = c.loop.counter;
      last = _;
      taken = c.loop.invariant;
      ends =
          elim c.loop-test.branch [
            | else-loop-test w ↦ inr (omega (arith, w.loop-test, c.loop.auto.counter-end))
            | then-loop-test+then-is_over w ↦ inl (rw (w.is_over.ensures, w.next-line.ensures) at w.if-is_over.true)
          ];
      input = refl;
      buf = refl;
      program = refl;
      output = grows;
    })
    c.close.ensures.output
