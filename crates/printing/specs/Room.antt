-- The room of a text.
use Rattle.std.specs.Prelude.{List, ◌++◌, ℕ, ◌-◌, length, take}

-- how many bytes have room in a text: as many as the longest has, that of a tick with two completions, a front and a
-- report
abbrev pub room : ℕ
room = 69

-- a text with bytes at its end, as many of them as have room
unfoldable pub extended : List ℕ → List ℕ → List ℕ
extended text bytes = text ++ take (room - length text) bytes
