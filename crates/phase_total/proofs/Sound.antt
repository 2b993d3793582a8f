-- A list of phases met one by one: what one more adds.
use mathlib.Core.List.{List, [], ◌∷◌, ◌++◌}
use mathlib.Core.Path.{◌≡◌}
use Prim.Native.Nat.{ℕ, ◌+◌, ◌<◌}
use lib.ListN.{length, get_or, take}
use native.Mathlib.Numerals.{add-one}
use Rattle.std.proofs.Math.Seq.{take-suc}
use Rattle.tariff.specs.declared.Phase.{Phase}
use Rattle.rules.specs.Carried.{carried, met_by}
use Rattle.rules.proofs.OnePass.{carried-more}

pub carried_next : (S : ℕ) (ps : List Phase) (i : ℕ) (p : Phase) → i < length ps
    → carried S (take (i + 1) ps) ≡ met_by S (carried S (take i ps)) (get_or ps i p)
carried_next S ps i p l =
    let next : take (i + 1) ps ≡ take i ps ++ (get_or ps i p ∷ []) = rw add-one (take-suc ps i p l) in
    rw next (carried-more S (take i ps) (get_or ps i p))
