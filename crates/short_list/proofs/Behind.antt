-- The places behind the numbers hold 0 after a number more, too.
use Rattle.std.specs.Prelude.{◌≡◌, ◌-◌, ◌+◌, ℕ, List, drop, replicate, set}
use Rattle.std.proofs.Common.{◌∙◌, ap, sym, arith}
use Rattle.std.proofs.lemmas.List.{drop-set-lt, drop-replicate, drop-drop}

pub behind :
    (room count v : ℕ) (l : List ℕ) →
    drop count l ≡ replicate (room - count) 0 →
    drop (count + 1) (set l count v) ≡ replicate (room - (count + 1)) 0
behind room count v l rest =
    drop-set-lt (count + 1) l count v (omega arith)
    ∙ (sym (drop-drop 1 count l)
    ∙ (ap (drop 1) rest
    ∙ (drop-replicate 1 (room - count) 0 ∙ ap (λ k. replicate k 0) (omega arith))))
