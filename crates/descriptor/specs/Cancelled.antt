-- What an accepted call cancels: a rule that the paper gives in a sentence.
use Rattle.std.specs.Prelude.{ℕ}
use Rattle.descriptor.specs.declared.BurstPart.{BurstPart}
use Rattle.descriptor.specs.declared.BurstPart.TheVariants.{None as NoBurst, Keep as KeepBurst, Start}

-- the burst pulses that an accepted call cancels, of those owed
abbrev pub cancelled_by : BurstPart → ℕ → ℕ
cancelled_by NoBurst owed = owed
cancelled_by KeepBurst owed = 0
cancelled_by (Start n P) owed = 0
