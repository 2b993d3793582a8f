-- One test over a whole table, carried to each entry.
use mathlib.Core.Path.{◌≡◌, ap, sym, ◌∙◌}
use Prim.Native.Nat.{ℕ, zero, suc, ◌+◌, ◌<◌}
use native.Mathlib.Omega.{arith}
use lib.ListN.{get_or}
use Rattle.constants.specs.Tables.{table}

entry-from : (f : ℕ → ℕ) (n i k : ℕ) → k < n → get_or (table f i n) k 0 ≡ f (i + k)
entry-from f zero i k h = absurd (omega arith)
entry-from f (suc n) i zero h = ap f (omega arith)
entry-from f (suc n) i (suc k) h = let e : suc i + k ≡ i + suc k = omega arith in entry-from f n (suc i) k (omega arith) ∙ ap f e

pub entry : (f : ℕ → ℕ) (n k : ℕ) → k < n → get_or (table f 0 n) k 0 ≡ f k
entry f n k h = let e : 0 + k ≡ k = omega arith in entry-from f n 0 k h ∙ ap f e

-- functions with the same table
pub agree : (f g : ℕ → ℕ) (n : ℕ) → table f 0 n ≡ table g 0 n → (k : ℕ) → k < n → f k ≡ g k
agree f g n e k h = sym (entry f n k h) ∙ (ap (λ l. get_or l k 0) e ∙ entry g n k h)
