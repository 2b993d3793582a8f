-- A buffer of eight bytes, into which `ab`, a line feed and `c` were read.
use Rattle.std.specs.Prelude.{◌≡◌, refl, true, false, Some, None, List, [], ◌∷◌, ◌++◌, ℕ, replicate}
use Rattle.lines.specs.declared.progress.Progress.{Progress}
use Rattle.lines.specs.Spans.{part, at_front, begun, next_of, over_of, past_of}
use Rattle.lines.specs.Squeezing.{squeezed_from, squeezed}
use Rattle.lines.specs.Rooms.{fronted, room_of, fed_of}

abbrev buf : List ℕ
buf = 97 ∷ 98 ∷ 10 ∷ 99 ∷ 0 ∷ 0 ∷ 0 ∷ 0 ∷ []

-- the four bytes came
abbrev read : Progress
read = fed_of begun 8 4

pub came : read ≡ at_front 4 false
came = refl

-- the first line is `ab`
pub first : next_of buf read ≡ Some (record { whole = true; from = 0; to = 2 })
unfolding part
first = refl

-- past it no line is read whole, and the input is not over
pub second : next_of buf (past_of read 2) ≡ None
unfolding part
second = refl

pub goes_on : over_of (past_of read 2) None ≡ false
goes_on = refl

-- `c` moves to the front, and where no byte comes it is the last line
pub moved : fronted buf (past_of read 2) ≡ 99 ∷ 98 ∷ 10 ∷ 99 ∷ 0 ∷ 0 ∷ 0 ∷ 0 ∷ []
unfolding part
moved = refl

pub last :
    next_of (fronted buf (past_of read 2)) (fed_of (room_of buf (past_of read 2)) 8 0)
    ≡ Some (record { whole = true; from = 0; to = 1 })
unfolding part
last = refl

-- a buffer that is full of one line is emptied, and the rest of the line is not whole
pub dropped : room_of buf (at_front 8 false) ≡ at_front 0 true
unfolding part squeezed_from
dropped = refl

pub rest : next_of buf (fed_of (at_front 0 true) 8 4) ≡ Some (record { whole = false; from = 0; to = 2 })
unfolding part
rest = refl

-- of `rp`, five blanks and `5` three bytes and one blank stay: the line is not too long for the buffer
abbrev blanks : List ℕ
blanks = 114 ∷ 112 ∷ 32 ∷ 32 ∷ 32 ∷ 32 ∷ 32 ∷ 53 ∷ []

pub squeezed-front : fronted blanks (at_front 8 false) ≡ 114 ∷ 112 ∷ 32 ∷ 53 ∷ 32 ∷ 32 ∷ 32 ∷ 53 ∷ []
unfolding part squeezed_from
squeezed-front = refl

pub squeezed-room : room_of blanks (at_front 8 false) ≡ at_front 4 false
unfolding part squeezed_from
squeezed-room = refl

-- of twenty zeros eleven stay
pub zeros : squeezed (replicate 20 48 ++ (53 ∷ [])) ≡ replicate 11 48 ++ (53 ∷ [])
unfolding squeezed_from
zeros = refl
