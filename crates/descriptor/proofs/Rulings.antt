-- The ruling by a table of phases is that of the paper's causes.
use mathlib.Core.Path.{◌≡◌, refl, sym}
use mathlib.Core.Bool.{Bool}
use Prim.Native.Nat.{ℕ}
use borrow.Table.Steps.{cases}
use Rattle.rules.specs.Rules.{sound_em}
use Rattle.phase_lists.specs.Lists.{Lists}
use Rattle.descriptor.specs.Refusals.{ruling, sound_burst, tariff_causes, burst_causes, descriptor_causes}
use Rattle.descriptor.specs.Rulings.{table_for, tariff_ruling, burst_ruling, descriptor_ruling}
use Rattle.descriptor.specs.declared.TariffPart.{TariffPart}
use Rattle.descriptor.specs.declared.TariffPart.TheVariants.{None as NoTariff, Keep as KeepTariff, Rate, Em, Phased}
use Rattle.descriptor.specs.declared.BurstPart.{BurstPart}
use Rattle.descriptor.specs.declared.BurstPart.TheVariants.{None as NoBurst, Keep as KeepBurst, Start}
use Rattle.descriptor.proofs.Causes.{ruling_append}
use Rattle.descriptor.proofs.OnePass.{lists_verdict}

-- each part is ruled as its causes say
module _ (S : ℕ) (e b : Bool) where
  tariff-ruling-is : (t : TariffPart) (ls : Lists) → tariff_ruling S e t (table_for S t ls) ≡ ruling (tariff_causes S e b t ls)
  unfolding tariff_ruling ruling
  tariff-ruling-is NoTariff ls = refl
  tariff-ruling-is KeepTariff ls = refl
  tariff-ruling-is (Rate P) ls =
      cases e (λ t. cases (sound_em S 0 P) (λ u. rw (t, u)) (λ u. rw (t, u))) (λ t. rw t)
  tariff-ruling-is (Em m) ls = cases (sound_em S m.count m.period) (λ u. rw u) (λ u. rw u)
  tariff-ruling-is Phased ls = lists_verdict S e b ls

  burst-ruling-is : (p : BurstPart) → burst_ruling b p ≡ ruling (burst_causes S e b p)
  unfolding burst_ruling ruling
  burst-ruling-is NoBurst = refl
  burst-ruling-is KeepBurst = refl
  burst-ruling-is (Start n P) = cases (sound_burst n P) (λ u. rw u) (λ u. rw u)

  pub descriptor-ruling-is : (t : TariffPart) (ls : Lists) (p : BurstPart) → descriptor_ruling S e b t (table_for S t ls) p ≡ ruling (descriptor_causes S e b t ls p)
  descriptor-ruling-is t ls p =
      rw (tariff-ruling-is t ls, burst-ruling-is p) (sym (ruling_append (tariff_causes S e b t ls) (burst_causes S e b p)))
