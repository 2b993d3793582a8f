-- What an accepted descriptor tells: no cause of the table applied.
use mathlib.Core.Path.{◌≡◌, ◌∙◌}
use mathlib.Core.Bool.{Bool, false, not, and-eq-true_iff}
use mathlib.Core.List.{◌++◌}
use Prim.Native.Nat.{ℕ}
use native.Mathlib.Omega.{arith}
use borrow.Author.Tests.{leb-true, not-false}
use lib.Dec.{leb}
use lib.ListN.{length}
use Rattle.tariff.specs.Ranges.{within}
use Rattle.rules.specs.Rules.{sound_em, sound_phases}
use Rattle.slots.specs.Slots.{Running, runs_endless}
use Rattle.phase_lists.specs.Lists.{Lists, phases_of, sound_lists}
use Rattle.descriptor.specs.Refusals.{ruling, sound_burst, tariff_causes, burst_causes}
use Rattle.std.specs.Prelude.{Ok}
use Rattle.descriptor.specs.declared.TariffPart.{TariffPart}
use Rattle.descriptor.specs.declared.TariffPart.TheVariants.{None as NoTariff, Keep as KeepTariff, Rate, Em, Phased}
use Rattle.descriptor.specs.declared.BurstPart.{BurstPart}
use Rattle.descriptor.specs.declared.BurstPart.TheVariants.{None as NoBurst, Keep as KeepBurst, Start}
use Rattle.phase_lists.proofs.PhaseTables.{phases-length, lists_length}
use Rattle.descriptor.proofs.Causes.{none_first, none_after}
use Rattle.demand.proofs.Commands.{TariffTaken, BurstTaken}

module _ (S : ℕ) (e b : Bool) where
  tariff-taken : (t : TariffPart) (ls : Lists) (r : Running) → runs_endless r ≡ e → ruling (tariff_causes S e b t ls) ≡ Ok tt → TariffTaken S t (phases_of ls) r
  tariff-taken NoTariff ls r x h = tt
  tariff-taken KeepTariff ls r x h = tt
  tariff-taken (Rate P) ls r x h =
      let first = none_first _ (not e) _ h in
      (x ∙ not-false e first.0, not-false (sound_em S 0 P) (none_first _ (not (sound_em S 0 P)) _ first.1).0)
  tariff-taken (Em m) ls r x h =
      not-false (sound_em S m.count m.period) (none_first _ (not (sound_em S m.count m.period)) _ h).0
  tariff-taken Phased ls r x h =
      let first = none_first _ (not (sound_lists ls)) _ h in
      let few = lists_length ls (not-false (sound_lists ls) first.0) in
      let size = phases-length ls (length ls.pri) in
      (omega arith, omega arith, not-false (sound_phases S (phases_of ls)) (none_first _ (not (sound_phases S (phases_of ls))) _ first.1).0)

  burst-taken : (p : BurstPart) → ruling (burst_causes S e b p) ≡ Ok tt → BurstTaken b p
  burst-taken NoBurst h = tt
  burst-taken KeepBurst h = tt
  burst-taken (Start n P) h =
      let first = none_first _ (not (sound_burst n P)) _ h in
      let sound = not-false (sound_burst n P) first.0 in
      (leb-true 1 n ((and-eq-true_iff (leb 1 n) _).0 ((and-eq-true_iff (within 1 65535 n) _).0 sound).0).0, (none_first _ b _ first.1).0)

  pub taken : (t : TariffPart) (ls : Lists) (p : BurstPart) (r : Running) → runs_endless r ≡ e → ruling (tariff_causes S e b t ls ++ burst_causes S e b p) ≡ Ok tt → TariffTaken S t (phases_of ls) r × BurstTaken b p
  taken t ls p r x h =
      let both = none_after (tariff_causes S e b t ls) (burst_causes S e b p) h in
      (tariff-taken t ls r x both.0, burst-taken p both.1)

  -- a descriptor that starts a burst is allowed only where none runs
  pub starts_idle : (t : TariffPart) (ls : Lists) (n P : ℕ) → ruling (tariff_causes S e b t ls ++ burst_causes S e b (Start n P)) ≡ Ok tt → b ≡ false
  starts_idle t ls n P h = (burst-taken (Start n P) (none_after (tariff_causes S e b t ls) (burst_causes S e b (Start n P)) h).1).1
