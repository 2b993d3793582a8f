-- The table of refusals: a call is allowed exactly when no cause applies, and else the lowest number that applies is returned.
use mathlib.Core.Path.{◌≡◌, refl, ap}
use mathlib.Core.Bool.{Bool, true, false}
use mathlib.Core.List.{List, [], ◌∷◌, ◌++◌}
use mathlib.Core.Logic.{◌↔◌}
use Prim.Native.Nat.{ℕ, ◌≤◌, ◌<◌}
use native.Mathlib.Omega.{arith}
use Rattle.phase_lists.specs.Lists.{Lists}
use Rattle.descriptor.specs.Refusals.{refusal_number, Cause, cause, ruling, tariff_causes, burst_causes, descriptor_causes, period_causes}
use Rattle.descriptor.specs.declared.TariffPart.{TariffPart}
use Rattle.descriptor.specs.declared.TariffPart.TheVariants.{None as NoTariff, Keep as KeepTariff, Rate, Em, Phased}
use Rattle.descriptor.specs.declared.BurstPart.{BurstPart}
use Rattle.descriptor.specs.declared.BurstPart.TheVariants.{None as NoBurst, Keep as KeepBurst, Start}
use Rattle.descriptor.specs.declared.Refusal.{Refusal}
use Rattle.descriptor.specs.Names.{Ruling}
use Rattle.std.specs.Prelude.{Ok, Err}

-- r stands in the list of causes, and applies
pub data Applies (r : Refusal) : List Cause → Type 0 where
  here : {cs : List Cause} → Applies r (cause r true ∷ cs)
  later : {c : Cause} {cs : List Cause} → Applies r cs → Applies r (c ∷ cs)

-- the numbers of the causes ascend, from above n
abbrev pub Ascending : ℕ → List Cause → Type 0
Ascending n [] = Unit {0}
Ascending n (cause r applies ∷ cs) = (n < refusal_number r) × Ascending (refusal_number r) cs

pub none-applies : (cs : List Cause) → ruling cs ≡ Ok tt → (r : Refusal) → Applies r cs → ⊥
unfolding ruling
none-applies [] e q a = elim a [ ]
none-applies (cause r true ∷ cs) e q a = absurd (let o : ◌≡◌ {A = ℕ} 0 1 = cc in omega arith)
none-applies (cause r false ∷ cs) e q (later a) = none-applies cs e q a

-- the ruling is a cause that applies
pub refused-applies : (cs : List Cause) (r : Refusal) → ruling cs ≡ Err r → Applies r cs
unfolding ruling
refused-applies [] r e = absurd (let o : ◌≡◌ {A = ℕ} 0 1 = cc in omega arith)
refused-applies (cause q true ∷ cs) r e = let same : q ≡ r = cc in rw same here
refused-applies (cause q false ∷ cs) r e = later (refused-applies cs r e)

pub allowed_exactly : (cs : List Cause) → (ruling cs ≡ Ok tt) ↔ ((r : Refusal) → Applies r cs → ⊥)
allowed_exactly cs = (none-applies cs, λ none. by (ruling cs) refl none)
  where
    by : (u : Ruling) → ruling cs ≡ u → ((r : Refusal) → Applies r cs → ⊥) → ruling cs ≡ Ok tt
    by (Ok tt) e none = e
    by (Err r) e none = absurd (none r (refused-applies cs r e))

above : (n : ℕ) (cs : List Cause) (q : Refusal) → Ascending n cs → Applies q cs → n < refusal_number q
above n [] q a x = elim x [ ]
above n (cause r b ∷ cs) q a here = a.0
above n (cause r b ∷ cs) q a (later p) = omega (arith, a.0, above (refusal_number r) cs q a.1 p)

-- and no larger than any that applies
pub refused_lowest : (n : ℕ) (cs : List Cause) (r q : Refusal) → Ascending n cs → ruling cs ≡ Err r → Applies q cs → refusal_number r ≤ refusal_number q
unfolding ruling
refused_lowest n [] r q a e x = elim x [ ]
refused_lowest n (cause p true ∷ cs) r q a e here = let same : p ≡ r = cc in rw same (omega arith)
refused_lowest n (cause p true ∷ cs) r q a e (later x) = let same : p ≡ r = cc in omega (arith, ap refusal_number same, above (refusal_number p) cs q a.1 x)
refused_lowest n (cause p false ∷ cs) r q a e (later x) = refused_lowest (refusal_number p) cs r q a.1 e x

-- ---- the causes of a descriptor and of a report period ascend
weaker : (m n : ℕ) (cs : List Cause) → n ≤ m → Ascending m cs → Ascending n cs
weaker m n [] l a = tt
weaker m n (cause r b ∷ cs) l a = (omega (arith, a.0), a.1)

module _ (S : ℕ) (e b : Bool) where
  tariff_ascends : (t : TariffPart) (ls : Lists) (more : List Cause) → Ascending 6 more → Ascending 0 (tariff_causes S e b t ls ++ more)
  tariff_ascends NoTariff ls more a = weaker 6 0 more (omega arith) a
  tariff_ascends KeepTariff ls more a = weaker 6 0 more (omega arith) a
  tariff_ascends (Rate P) ls more a = (omega arith, (omega arith, weaker 6 4 more (omega arith) a))
  tariff_ascends (Em m) ls more a = (omega arith, weaker 6 4 more (omega arith) a)
  tariff_ascends Phased ls more a = (omega arith, (omega arith, a))

  burst_ascends : (p : BurstPart) → Ascending 6 (burst_causes S e b p)
  burst_ascends NoBurst = tt
  burst_ascends KeepBurst = tt
  burst_ascends (Start n P) = (omega arith, (omega arith, tt))

  pub descriptor_ascends : (t : TariffPart) (ls : Lists) (p : BurstPart) → Ascending 0 (descriptor_causes S e b t ls p)
  descriptor_ascends t ls p = tariff_ascends t ls (burst_causes S e b p) (burst_ascends p)

pub period_ascends : (rp : ℕ) → Ascending 0 (period_causes rp)
period_ascends rp = (omega arith, tt)
