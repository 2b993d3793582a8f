-- What one more read leaves: the bytes that come are free, and those that were held stay.
use Rattle.std.specs.Prelude.{◌≡◌, Option, Some, None, List, ℕ, ◌-◌, length, take}
use Rattle.lines.specs.declared.progress.Progress.{Progress}
use Rattle.lines.specs.declared.Span.{Span}
use Rattle.lines.specs.Spans.{past_of}
use Rattle.lines.specs.Rooms.{fronted, room_of, fed_of}

-- after one more read: there was room, some bytes came into it, and the bytes before it are as they were
pub record More (buf : List ℕ) (i : Progress) (after : List ℕ) (r : Progress) : Type 0 where
  pub size : length after ≡ length buf
  pub kept : take (room_of buf i).end after ≡ take (room_of buf i).end (fronted buf i)
  pub fed : r ≡ fed_of (room_of buf i) (length buf) (r.end - (room_of buf i).end)

-- past a line, where there is one, with the buffer as it was; else after one more read
abbrev pub Onward : Option Span → List ℕ → Progress → List ℕ → Progress → Type 0
Onward (Some line) buf i after r = (after ≡ buf) × (r ≡ past_of i line.to)
Onward None buf i after r = More buf i after r
