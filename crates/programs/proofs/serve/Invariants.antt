-- The program and its output stand where as many steps lead as are counted.
use Rattle.outlet.specs.Held.{known_of}
use Rattle.programs.specs.Serving.{Steps, stand}
use Rattle.programs.proofs.serve.Given as goal

abbrev pub invariant-loop : goal.invariant-loop
invariant-loop g l =
    let known = known_of g.W.Write.contents in
    let i = l.initial in
    Steps g.P.Program.reads g.P.Program.puts l.counter
    (stand i.input.at i.input.buf i.program (known i.out))
    (stand l.input.at l.input.buf l.program (known l.out))
