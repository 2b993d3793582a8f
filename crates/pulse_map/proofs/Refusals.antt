-- What is known of a map that is not turned down.
use mathlib.Core.Path.{◌≡◌, refl}
use mathlib.Core.Bool.{Bool, true, false, ◌||◌, true≢false}
use Prim.Native.Nat.{ℕ, ◌+◌, ◌≤◌}
use lib.Dec.{ltb}
use borrow.Author.Tests.{ltb-false}
use Rattle.fractions.specs.Answers.{outside}
use Rattle.pulse_map.specs.Refusals.{no_map}

pub record HasMap (repx repn k : ℕ) : Type 0 where
  pub some : 1 ≤ repx + repn
  pub most : repx + repn ≤ 100
  pub enough : k ≤ repx + repn

neither : (a b : Bool) → (a || b) ≡ false → (a ≡ false) × (b ≡ false)
neither true b e = absurd (true≢false e)
neither false b e = (refl, e)

pub has-map : (repx repn k : ℕ) → no_map repx repn k ≡ false → HasMap repx repn k
unfolding no_map
has-map x n k e =
    let both = neither (outside (x + n) 1 100) (ltb (x + n) k) e in
    let within = neither (ltb (x + n) 1) (ltb 100 (x + n)) both.0 in
    record {
      some = ltb-false _ _ within.0;
      most = ltb-false _ _ within.1;
      enough = ltb-false _ _ both.1;
    }
