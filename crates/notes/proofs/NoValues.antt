-- Eighteen slots of which each has no value are those of no text yet.
use Rattle.std.specs.Prelude.{◌≡◌, ℕ, List, replicate}
use Rattle.std.specs.Array.{AllOfLen}
use Rattle.std.proofs.Common.{sym, ◌∙◌, arith}
use Rattle.std.proofs.lemmas.List.{ext_get_or, get_or-replicate, length-replicate}
use Rattle.notes.specs.Noting.{no_values}

pub each_none : (l : List (List ℕ)) → AllOfLen (λ v. v ≡ no_values) l 18 → l ≡ replicate 18 no_values
each_none l h =
    let long = h.long in
    ext_get_or no_values l (replicate 18 no_values) (long ∙ sym (length-replicate 18 no_values))
    (λ i low. h.at i no_values (omega arith) ∙ sym (get_or-replicate 18 i no_values no_values (omega arith)))
