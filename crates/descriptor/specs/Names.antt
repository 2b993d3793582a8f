-- What descriptors carry and refusals say, under names that do not clash.
use Rattle.std.specs.Prelude.{⊤, Result}
pub use Rattle.descriptor.specs.declared.TariffPart.{TariffPart}
pub use Rattle.descriptor.specs.declared.TariffPart.TheVariants.{None as NoTariff, Keep as KeepTariff}
pub use Rattle.descriptor.specs.declared.TariffPart.TheVariants.{Rate, Em, Phased}
pub use Rattle.descriptor.specs.declared.BurstPart.{BurstPart}
pub use Rattle.descriptor.specs.declared.BurstPart.TheVariants.{None as NoBurst, Keep as KeepBurst, Start}
pub use Rattle.std.specs.Prelude.{Ok, Err}
pub use Rattle.descriptor.specs.declared.Refusal.{Refusal}
pub use Rattle.descriptor.specs.declared.Refusal.TheVariants.{Configuration, Period, NoEndlessEm, Interval}
pub use Rattle.descriptor.specs.declared.Refusal.TheVariants.{Lists as PhaseLists, Phase, Burst, BurstRuns}
pub use Rattle.descriptor.specs.declared.Refusal.TheVariants.{Grammar, Content, Row, Place, Ticket, Serial}

-- what the table of refusals makes of a call: it is allowed, or turned down for a cause
abbrev pub Ruling : Type 0
Ruling = Result ⊤ Refusal
