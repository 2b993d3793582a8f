-- What waits after the tick of one line, as the code gathers it.
use Rattle.std.specs.Prelude.{List, ℕ, set}
use Rattle.answers.specs.declared.Tick.{Tick}
use Rattle.dispatcher.specs.Dispatch.{gathered, waits_in}
use Rattle.dispatcher.specs.declared.Waiting.{Waiting}
use Rattle.dispatcher.specs.declared.Dispatcher.{Dispatcher}

abbrev pub with_waiting : Dispatcher → List Waiting → Dispatcher
with_waiting d ws = record { length = d.length; next = d.next; waiting = ws }

-- with what the tick of the line at place i told
unfoldable pub gathered_at : Dispatcher → ℕ → Tick → Dispatcher
gathered_at d i t = with_waiting d (set d.waiting i (gathered (waits_in d.waiting i) t))
