-- The two parts of a conjunction that holds.
use mathlib.Core.Path.{◌≡◌}
use mathlib.Core.Bool.{Bool, true, ◌&&◌, and-eq-true_iff}

pub both_left : (b c : Bool) → b && c ≡ true → b ≡ true
both_left b c t = ((and-eq-true_iff b c).0 t).0

pub both_right : (b c : Bool) → b && c ≡ true → c ≡ true
both_right b c t = ((and-eq-true_iff b c).0 t).1
