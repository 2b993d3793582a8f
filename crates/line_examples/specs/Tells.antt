-- What a tick and a verdict tell, as tests.
use Rattle.std.specs.Prelude.{Bool, true, false, ◌==◌, ℕ, Ok, Err, Option, None, Some}
use Rattle.answers.specs.declared.Front.{Front}
use Rattle.answers.specs.declared.Front.TheVariants.{Tariff, Burst}
use Rattle.descriptor.specs.Refusals.{refusal_number}
use Rattle.line.specs.Lines.{Verdict}

-- a tariff pulse begins
abbrev pub is_tariff : Option Front → Bool
is_tariff None = false
is_tariff (Some Tariff) = true
is_tariff (Some Burst) = false

-- accepted, with so many burst pulses cancelled
abbrev pub accepts : ℕ → Verdict → Bool
accepts k (Ok n) = n == k
accepts k (Err r) = false

-- refused with this number
abbrev pub refuses : ℕ → Verdict → Bool
refuses n (Ok k) = false
refuses n (Err r) = refusal_number r == n
