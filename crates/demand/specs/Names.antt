-- What calls carry and ticks tell, under names that do not clash, and the rules that the definitions beside this cite.
pub use Rattle.answers.specs.Fronts.{silent, is_front, is_burst_front, if_front, if_burst}
pub use Rattle.answers.specs.declared.Front.{Front}
pub use Rattle.answers.specs.declared.Front.TheVariants.{Tariff as TariffFront, Burst as BurstFront}
pub use Rattle.answers.specs.declared.Tick.{Tick}
pub use Rattle.tariff.specs.declared.Phase.{Phase}
pub use Rattle.tariff.specs.declared.Slot.{Slot}
pub use Rattle.tariff.specs.declared.Slot.TheVariants.{Empty, Pulse}
pub use Rattle.descriptor.specs.declared.TariffPart.{TariffPart}
pub use Rattle.descriptor.specs.declared.TariffPart.TheVariants.{None as NoTariff, Keep as KeepTariff}
pub use Rattle.descriptor.specs.declared.TariffPart.TheVariants.{Rate, Em, Phased}
pub use Rattle.descriptor.specs.declared.BurstPart.{BurstPart}
pub use Rattle.descriptor.specs.declared.BurstPart.TheVariants.{None as NoBurst, Keep as KeepBurst, Start}
pub use Rattle.descriptor.specs.declared.Hook.{Hook}
pub use Rattle.descriptor.specs.declared.Hook.TheVariants.{Keep as KeepHook, Stop}
pub use Rattle.descriptor.specs.Names.{Ruling}
pub use Rattle.std.specs.Prelude.{Ok, Err}
pub use Rattle.descriptor.specs.declared.Refusal.TheVariants.{Grammar, Content}
pub use Rattle.descriptor.specs.Refusals.{refusal_number, Cause, cause, ruling, descriptor_causes, period_causes}
pub use Rattle.descriptor.specs.Refusals.{ticket_causes}
pub use Rattle.descriptor.specs.Cancelled.{cancelled_by}
pub use Rattle.phase_lists.specs.Lists.{Lists, phases_of}
pub use Rattle.grammar.specs.Meaning.{Reading, unreadable, senseless, descriptor}
pub use Rattle.state.specs.Rules.{one_more, report_due}
pub use Rattle.ticking.specs.Rules.{front_at}
pub use Rattle.slots.specs.Slots.{slot_at, quiet_for, completes_at, runs_endless}
