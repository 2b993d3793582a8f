-- What is turned down: the causes of refusal 11.
use Rattle.std.specs.Prelude.{Bool, ◌||◌, ℕ, ◌+◌, nat_lt}
use Rattle.fractions.specs.Answers.{outside}

-- 11: repx + repn outside 1 to 100, or fewer elements than the k asked for
unfoldable pub no_map : ℕ → ℕ → ℕ → Bool
no_map repx repn k = outside (repx + repn) 1 100 || nat_lt (repx + repn) k
