-- The lines in a buffer: where the next one ends, and what is left past it.
use Rattle.std.specs.Prelude.{Bool, true, false, if◌then◌else◌, not, ◌&&◌, ◌||◌, Option, Some, None, is_some}
use Rattle.std.specs.Prelude.{ℕ, ◌+◌, ◌-◌, ◌==◌, min, nat_lt, List, length, take, drop}
use Rattle.std.specs.List.{position_or_len}
use Rattle.lines.specs.declared.progress.Progress.{Progress}
use Rattle.lines.specs.declared.Span.{Span}

-- the byte that ends a line
abbrev pub line_feed : ℕ
line_feed = 10

abbrev pub is_line_feed : ℕ → Bool
is_line_feed b = b == line_feed

-- the bytes from the place `from` on and before the place `to`, as far as there are any
unfoldable pub part : ℕ → ℕ → List ℕ → List ℕ
part from to buf = take (to - from) (drop from buf)

-- how many bytes stand before the first line feed: all of them where there is none
abbrev pub before_feed : List ℕ → ℕ
before_feed l = position_or_len is_line_feed l

-- whether a byte is a line feed
abbrev pub has_feed : List ℕ → Bool
has_feed l = nat_lt (before_feed l) (length l)

-- what is held stands at the front, up to `end`
abbrev pub at_front : ℕ → Bool → Progress
at_front end dropped = record { start = 0; end = end; dropped = dropped; came = true }

-- before the first read
abbrev pub begun : Progress
begun = at_front 0 false

-- what is read and not yet taken
abbrev pub held : List ℕ → Progress → List ℕ
held buf i = part i.start i.end buf

-- whether a last line without a line feed is left: the input has ended, and bytes are left or were dropped
abbrev pub last_of : Progress → Bool
last_of i = not i.came && (i.dropped || nat_lt i.start i.end)

-- the next line, if there is one: what stands before the first line feed, or all that is left where the input has ended
abbrev pub next_of : List ℕ → Progress → Option Span
next_of buf i =
    if has_feed (held buf i) || last_of i
    then Some (record { whole = not i.dropped; from = i.start; to = i.start + before_feed (held buf i) })
    else None

-- the input has ended and no line is left
abbrev pub over_of : Progress → Option Span → Bool
over_of i line = not (is_some line || i.came)

-- past a line that ends at `to`, and past its line feed if it has one
abbrev pub past_of : Progress → ℕ → Progress
past_of i to = record { start = min (to + 1) i.end; end = i.end; dropped = false; came = i.came }
