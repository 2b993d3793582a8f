-- One step more.
use Rattle.std.proofs.Common.{◌≡◌, refl, List, ℕ, suc, ◌+◌, arith}
use Rattle.std.specs.Prelude.{Option}
use Rattle.programs.specs.Serving.{Stand, Step, Steps}

module _ {A : Type 0} (reads : A → List ℕ → A → Type 0)
    (puts : A → List ℕ → Option (List ℕ) → Option (List ℕ) → Type 0) where
  -- no step leads from where a program stands to where it stands
  pub no_step : (s : Stand A) → Steps reads puts 0 s s
  unfolding Steps
  no_step s = refl

  pub one_more : (n : ℕ) (s m t : Stand A) → Steps reads puts n s m → Step reads puts m t → Steps reads puts (n + 1) s t
  unfolding Steps
  one_more n s m t taken step = let e : n + 1 ≡ suc n = omega arith in rw e (m, taken, step)
