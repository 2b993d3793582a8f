-- How many bytes the next line has.
use mathlib.Core.Bool.{Bool, true, false, ◌||◌}
use mathlib.Core.Path.{◌≡◌, refl}
use mathlib.Core.List.{List}
use Prim.Native.Nat.{ℕ, ◌≤◌}
use native.Mathlib.Omega.{arith}
use lib.ListN.{length}
use Rattle.std.specs.Prelude.{Some, None, cond}
use Rattle.std.specs.Option.{option_or}
use Rattle.std.specs.Bool.{then_some}
use Rattle.std.proofs.lemmas.Option.{same_Some}
use Rattle.std.proofs.lemmas.List.Sums.{prefix_len-le-length}
use borrow.Author.Tests.{ltb-false}
use Rattle.lines.specs.Spans.{before_feed, has_feed}

-- no more bytes stand before a line feed than there are
pub before_feed-le : (l : List ℕ) → before_feed l ≤ length l
before_feed-le l = prefix_len-le-length _ l

-- where a line feed is found, the bytes before it; else all that are left, where they make a last line
pub line_size : (l : List ℕ) (last : Bool) (n : ℕ) → option_or (cond (has_feed l) (Some (before_feed l)) None) (then_some last (length l)) ≡ Some n
    → (has_feed l || last ≡ true) × (n ≡ before_feed l)
line_size l last n e = by (has_feed l) last refl e
  where
    by : (b c : Bool) → has_feed l ≡ b → option_or (cond b (Some (before_feed l)) None) (then_some c (length l)) ≡ Some n → (b || c ≡ true) × (n ≡ before_feed l)
    by true c h e = (refl, same_Some n (before_feed l) (grind arith))
    by false true h e = (refl, omega (arith, before_feed-le l, ltb-false (before_feed l) (length l) h, same_Some (length l) n e))
    by false false h e = grind arith
