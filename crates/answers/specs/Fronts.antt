-- A tick's front by cases, and a tick that tells nothing.
use Rattle.std.specs.Prelude.{false, ℕ, Option, None, Some}
use Rattle.answers.specs.declared.Front.{Front}
use Rattle.answers.specs.declared.Front.TheVariants.{Tariff, Burst}
use Rattle.answers.specs.declared.Tick.{Tick}

abbrev pub silent : Tick
silent = record { tariff = false; burst = false; front = None; report = false }

-- a where a pulse begins, and else b
abbrev pub if_front : {A : Type 0} → Option Front → A → A → A
if_front f a b = elim f [ None ↦ b | Some kind ↦ a ]

-- a where a burst pulse begins, and else b
abbrev pub if_burst : {A : Type 0} → Option Front → A → A → A
if_burst f a b = elim f [ None ↦ b | Some Tariff ↦ b | Some Burst ↦ a ]

abbrev pub is_front : Option Front → ℕ
is_front f = if_front f 1 0

abbrev pub is_burst_front : Option Front → ℕ
is_burst_front f = if_burst f 1 0
