-- The counters of a line: cpc is the fronts since the last fresh em, held at the top through every tick and command.
use Rattle.std.specs.Prelude.{Option, Some, None}
use mathlib.Core.Path.{◌≡◌, refl}
use mathlib.Core.List.{List}
use Prim.Native.Nat.{ℕ, ◌+◌, min}
use native.Mathlib.Omega.{arith}
use Rattle.answers.specs.Fronts.{if_front}
use Rattle.state.specs.Rules.{one_more}
use Rattle.demand.specs.Names.{Front, TariffFront, BurstFront, TariffPart, NoTariff, KeepTariff, Rate, Em, Phased}
use Rattle.demand.specs.Calls.{Entry}
use Rattle.demand.specs.History.{zeroed_by, fronts_since_em}

abbrev pub total : List Entry → ℕ
total h = min 4294967295 (fronts_since_em h)

-- a counter after a tick with this front or none
abbrev pub counter_after : Option Front → ℕ → ℕ
counter_after f n = if_front f (one_more n) n

pub counted-held : (f : Option Front) (n : ℕ) → counter_after f (min 4294967295 n) ≡ min 4294967295 (if_front f (n + 1) n)
counted-held None n = refl
counted-held (Some TariffFront) n = omega arith
counted-held (Some BurstFront) n = omega arith

pub zeroed_held : (t : TariffPart) (n : ℕ) → zeroed_by t (min 4294967295 n) ≡ min 4294967295 (zeroed_by t n)
zeroed_held NoTariff n = refl
zeroed_held KeepTariff n = refl
zeroed_held (Rate P) n = refl
zeroed_held (Em m) n = omega arith
zeroed_held Phased n = refl
