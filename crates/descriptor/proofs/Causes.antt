-- What the ruling of a list of causes tells of them.
use mathlib.Core.Path.{◌≡◌, refl}
use mathlib.Core.Bool.{Bool, true, false}
use mathlib.Core.List.{List, [], ◌∷◌, ◌++◌}
use Prim.Native.Nat.{ℕ}
use native.Mathlib.Omega.{arith}
use Rattle.descriptor.specs.Refusals.{Cause, cause, ruling}
use Rattle.descriptor.specs.Rulings.{and_then}
use Rattle.std.specs.Prelude.{Ok}
use Rattle.descriptor.specs.declared.Refusal.{Refusal}

pub none_first : (r : Refusal) (b : Bool) (cs : List Cause) → ruling (cause r b ∷ cs) ≡ Ok tt → (b ≡ false) × (ruling cs ≡ Ok tt)
unfolding ruling
none_first r true cs h = absurd (let o : ◌≡◌ {A = ℕ} 0 1 = cc in omega arith)
none_first r false cs h = (refl, h)

pub none_after : (cs ds : List Cause) → ruling (cs ++ ds) ≡ Ok tt → (ruling cs ≡ Ok tt) × (ruling ds ≡ Ok tt)
unfolding ruling
none_after [] ds h = (refl, h)
none_after (cause r b ∷ cs) ds h =
    let first = none_first r b (cs ++ ds) h in
    let rest = none_after cs ds first.1 in
    (rw first.0 rest.0, rest.1)

-- the ruling of two lists of causes is that of the first, or where that is allowed that of the second
pub ruling_append : (cs ds : List Cause) → ruling (cs ++ ds) ≡ and_then (ruling cs) (ruling ds)
unfolding ruling
ruling_append [] ds = refl
ruling_append (cause r true ∷ cs) ds = refl
ruling_append (cause r false ∷ cs) ds = ruling_append cs ds
