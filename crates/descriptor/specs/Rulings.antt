-- The table of refusals as the code goes through it, with the phase lists read and met in one pass.
use Rattle.std.specs.Prelude.{Bool, if◌then◌else◌, ℕ, Ok, Err}
use Rattle.tariff.specs.Ranges.{within}
use Rattle.rules.specs.Rules.{sound_em}
use Rattle.rules.specs.declared.Carry.{Carry}
use Rattle.phase_lists.specs.Lists.{Lists}
use Rattle.phase_lists.specs.Tables.{no_table, table_of}
use Rattle.phase_lists.specs.declared.PhaseTable.{PhaseTable}
use Rattle.descriptor.specs.Refusals.{sound_burst}
use Rattle.descriptor.specs.declared.TariffPart.{TariffPart}
use Rattle.descriptor.specs.declared.TariffPart.TheVariants.{None as NoTariff, Keep as KeepTariff}
use Rattle.descriptor.specs.declared.TariffPart.TheVariants.{Rate, Em, Phased}
use Rattle.descriptor.specs.declared.BurstPart.{BurstPart}
use Rattle.descriptor.specs.declared.BurstPart.TheVariants.{None as NoBurst, Keep as KeepBurst, Start}
use Rattle.descriptor.specs.declared.Refusal.TheVariants.{NoEndlessEm, Interval, Lists as PhaseLists}
use Rattle.descriptor.specs.declared.Refusal.TheVariants.{Phase as BadPhase, Burst, BurstRuns}
use Rattle.descriptor.specs.Names.{Ruling}

-- the lists are looked at only where the tariff part is phased
abbrev pub table_for : ℕ → TariffPart → Lists → PhaseTable
table_for S NoTariff ls = no_table
table_for S KeepTariff ls = no_table
table_for S (Rate P) ls = no_table
table_for S (Em m) ls = no_table
table_for S Phased ls = table_of S ls

abbrev pub ruled_by : Ruling → Bool → Ruling → Ruling
ruled_by why sound rest = if sound then rest else why

-- by what the phases leave to carry: their number is judged before the phases
abbrev pub carried_ruling : Carry → Ruling
carried_ruling c =
    ruled_by (Err PhaseLists) (within 1 8 c.count) (ruled_by (Err BadPhase) c.sound (Ok tt))

-- on a line of spacing S, where e says whether an em with C = 0 runs
unfoldable pub tariff_ruling : ℕ → Bool → TariffPart → PhaseTable → Ruling
tariff_ruling S e NoTariff t = Ok tt
tariff_ruling S e KeepTariff t = Ok tt
tariff_ruling S e (Rate P) t =
    ruled_by (Err NoEndlessEm) e (ruled_by (Err Interval) (sound_em S 0 P) (Ok tt))
tariff_ruling S e (Em m) t = ruled_by (Err Interval) (sound_em S m.count m.period) (Ok tt)
tariff_ruling S e Phased t = carried_ruling t.carry

-- where running says whether a burst runs
unfoldable pub burst_ruling : Bool → BurstPart → Ruling
burst_ruling running NoBurst = Ok tt
burst_ruling running KeepBurst = Ok tt
burst_ruling running (Start n P) =
    ruled_by (Err Burst) (sound_burst n P) (if running then Err BurstRuns else Ok tt)

-- a ruling, or where that is allowed the next
abbrev pub and_then : Ruling → Ruling → Ruling
and_then (Ok tt) next = next
and_then (Err r) next = Err r

-- of a descriptor whose phases, if it is phased, are in the table
abbrev pub descriptor_ruling : ℕ → Bool → Bool → TariffPart → PhaseTable → BurstPart → Ruling
descriptor_ruling S e running t table b = and_then (tariff_ruling S e t table) (burst_ruling running b)
