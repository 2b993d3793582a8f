-- The numbers that are held give back the whole list, since the places behind them hold 0.
use Rattle.std.specs.Prelude.{◌≡◌, ◌≤◌, ◌-◌, ◌++◌, ℕ, List, length, take, drop, replicate}
use Rattle.std.proofs.Common.{sym, ◌∙◌, ap, arith, take-append-drop, length-take-le}

pub refilled :
    (room count : ℕ) (l : List ℕ) →
    count ≤ room →
    length l ≡ room →
    drop count l ≡ replicate (room - count) 0 →
    take count l ++ replicate (room - length (take count l)) 0 ≡ l
refilled room count l low long rest =
    ap (λ k. take count l ++ replicate (room - k) 0) (length-take-le count l (omega (arith, low, long)))
    ∙ (ap (λ r. take count l ++ r) (sym rest) ∙ take-append-drop count l)
