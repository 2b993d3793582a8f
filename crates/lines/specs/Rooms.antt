-- Room for more bytes in a buffer, and the bytes that come.
use Rattle.std.specs.Prelude.{Bool, if◌then◌else◌, ◌&&◌, ◌||◌, List, ◌++◌, ℕ, ◌+◌, ◌-◌, ◌/◌, min, nat_lt, nat_le}
use Rattle.std.specs.Prelude.{length, drop}
use Rattle.lines.specs.declared.progress.Progress.{Progress}
use Rattle.lines.specs.Spans.{at_front, held}
use Rattle.lines.specs.Squeezing.{squeezed}

-- whether what is held fills the buffer
abbrev pub is_full : List ℕ → Progress → Bool
is_full buf i = nat_le (length buf) (length (held buf i))

-- what is kept of it: where it fills the buffer, what says something
abbrev pub kept_of : List ℕ → Progress → List ℕ
kept_of buf i = if is_full buf i then squeezed (held buf i) else held buf i

-- the buffer with what is kept at its front, and as it was behind that
abbrev pub fronted : List ℕ → Progress → List ℕ
fronted buf i = kept_of buf i ++ drop (length (kept_of buf i)) buf

-- a line is too long if it fills the buffer, and over half of it still says something
abbrev pub too_long : List ℕ → Progress → Bool
too_long buf i = is_full buf i && nat_lt (length buf / 2) (length (kept_of buf i))

-- with room: what is kept stands at the front, or is dropped where the line is too long
abbrev pub room_of : List ℕ → Progress → Progress
room_of buf i = at_front (if too_long buf i then 0 else length (kept_of buf i)) (too_long buf i || i.dropped)

-- the bytes of a read that have room
abbrev pub fitting : Progress → ℕ → ℕ → ℕ
fitting i size got = min got (size - i.end)

-- after a read of `got` bytes into a buffer of `size` bytes: the end of the input where none came
abbrev pub fed_of : Progress → ℕ → ℕ → Progress
fed_of i size got =
    record {
      start = i.start;
      end = i.end + fitting i size got;
      dropped = i.dropped;
      came = nat_lt 0 (fitting i size got);
    }
