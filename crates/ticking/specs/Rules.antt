-- What a tick begins: a rule that the paper gives in two sentences.
use Rattle.std.specs.Prelude.{Bool, if◌then◌else◌, Option, None, Some}
use Rattle.answers.specs.declared.Front.{Front}
use Rattle.answers.specs.declared.Front.TheVariants.{Tariff, Burst}
use Rattle.tariff.specs.declared.Slot.{Slot}
use Rattle.tariff.specs.declared.Slot.TheVariants.{Empty, Pulse}

-- a slot due now starts its pulse, or nothing if it is empty; where no slot is due, a burst pulse may start
abbrev pub front_at : Option Slot → Bool → Option Front
front_at None burst = if burst then Some Burst else None
front_at (Some Empty) burst = None
front_at (Some Pulse) burst = Some Tariff
