-- Bytes moved to the front, and the room behind them.
use mathlib.Core.Bool.{true, false}
use mathlib.Core.Path.{◌≡◌}
use mathlib.Core.List.{List, [], ◌∷◌, ◌++◌}
use Prim.Native.Nat.{ℕ, ◌-◌, ◌/◌, ◌≤◌, ◌<◌, min}
use native.Mathlib.Nat.{zero-add}
use native.Mathlib.Omega.{arith}
use borrow.Author.Tests.{le-leb, lt-leb, lt-ltb, le-ltb}
use lib.ListN.{length, drop}
use lib.Seq.{take-nil, drop-nil, take_all}
use Rattle.lines.specs.declared.progress.Progress.{Progress}
use Rattle.lines.specs.Spans.{part, at_front, held}
use Rattle.lines.specs.Squeezing.{squeezed}
use Rattle.lines.specs.Rooms.{is_full, fronted, room_of}
use Rattle.std.specs.List.{copy_within}
use Rattle.lines.proofs.PartLaws.{length_part, part-within}

-- a part that fills the buffer is the buffer
pub full : (s e : ℕ) (l : List ℕ) → length l ≤ length (part s e l) → part s e l ≡ l
unfolding part
full s e [] h = rw (drop-nil s, take-nil (e - s))
full s e (x ∷ m) h =
    let n = length_part s e (x ∷ m) in
    let none : s ≡ 0 = omega arith in
    rw none (take_all (e - 0) (x ∷ m) (omega arith))

-- room is made: what is moved or squeezed is what is kept
module _ (buf : List ℕ) (i : Progress) (start end : ℕ) (ends : end ≡ min i.end (length buf)) (starts : start ≡ min i.start end) where
  size : end - start ≡ length (held buf i)
  size = let n = length_part i.start i.end buf in omega arith

  -- the buffer is not full
  module _ (h : end - start < length buf) where
    short : is_full buf i ≡ false
    short = lt-leb (length buf) (length (held buf i)) (omega (arith, size))

    pub room-free : room_of buf i ≡ at_front (end - start) i.dropped
    room-free = rw (short, size)

    pub front-free : fronted buf i ≡ copy_within buf start end 0
    front-free = let moved = part-within i.start i.end buf start end ends starts in rw (short, zero-add, moved, size)

  -- it is full
  module _ (h : length buf ≤ end - start) where
    fills : is_full buf i ≡ true
    fills = le-leb (length buf) (length (held buf i)) (omega (arith, size, h))

    all : held buf i ≡ buf
    all = full i.start i.end buf (omega (arith, size, h))

    pub front-full : fronted buf i ≡ squeezed buf ++ drop (length (squeezed buf)) buf
    front-full = rw (fills, all)

    -- over half of it says something
    pub room-long : length buf / 2 < length (squeezed buf) → room_of buf i ≡ at_front 0 true
    room-long l = let long = lt-ltb (length buf / 2) (length (squeezed buf)) l in rw (fills, all, long)

    -- half of it or less does
    pub room-squeezed : length (squeezed buf) ≤ length buf / 2 → room_of buf i ≡ at_front (length (squeezed buf)) i.dropped
    room-squeezed l = let less = le-ltb (length buf / 2) (length (squeezed buf)) l in rw (fills, all, less)

pub ruleset rooms = (room-free, front-free, front-full, room-long, room-squeezed)
