-- A change of the tariff, of the burst or of the report period keeps the coupling.
use Rattle.std.specs.Prelude.{Option, None}
use mathlib.Core.Path.{◌≡◌, refl, sym, ◌∙◌}
use mathlib.Core.Bool.{Bool, true, false}
use mathlib.Core.List.{List}
use Prim.Native.Nat.{ℕ, ◌+◌, ◌-◌, max, ◌≤◌}
use native.Mathlib.Omega.{arith}
use lib.ListN.{length}
use Rattle.rules.specs.Rules.{sound_em, sound_phases}
use Rattle.tariff.specs.Tariffs.{em_of, phased_of, rate_of}
use Rattle.tariff.specs.declared.Phase.{Phase}
use Rattle.slots.specs.Slots.{Running, runs_endless}
use Rattle.phase_lists.specs.Tables.{eight_of}
use Rattle.descriptor.specs.declared.TariffPart.{TariffPart}
use Rattle.descriptor.specs.declared.TariffPart.TheVariants.{None as NoTariff, Keep as KeepTariff, Rate, Em, Phased}
use Rattle.descriptor.specs.declared.BurstPart.{BurstPart}
use Rattle.descriptor.specs.declared.BurstPart.TheVariants.{None as NoBurst, Keep as KeepBurst, Start}
use Rattle.line.specs.Lines.{scheduled, tariff_changed, burst_changed, with_period}
use Rattle.line.specs.declared.Line.{Line}
use Rattle.demand.specs.History.{Last, Started, origin_after, changed_by, zeroed_by, burst_by}
use Rattle.slots.proofs.Ahead.{Waits}
use Rattle.slots.proofs.Phased.{phased-start-good}
use Rattle.slots.proofs.Start.{good-em, good-rate, next-em, next-phased, next-rate}
use Rattle.slots.proofs.Fresh.{agree-idle, agree-em, agree-phased}
use Rattle.slots.proofs.Rate.{agree-rate, rate-runs}
use Rattle.phase_lists.proofs.PhaseTables.{eight-front, eight-room}
use Rattle.demand.proofs.Held.{origin_is}
use Rattle.demand.proofs.Coupled.{Config, none, runs, At, line_at}

-- what the table leaves of a tariff part and of a burst part that are taken, where r runs
abbrev pub TariffTaken : ℕ → TariffPart → List Phase → Running → Type 0
TariffTaken S NoTariff ps r = Unit {0}
TariffTaken S KeepTariff ps r = Unit {0}
TariffTaken S (Rate P) ps r = (runs_endless r ≡ true) × (sound_em S 0 P ≡ true)
TariffTaken S (Em m) ps r = sound_em S m.count m.period ≡ true
TariffTaken S Phased ps r = (1 ≤ length ps) × (length ps ≤ 8) × (sound_phases S ps ≡ true)

abbrev pub BurstTaken : Bool → BurstPart → Type 0
BurstTaken running NoBurst = Unit {0}
BurstTaken running KeepBurst = Unit {0}
BurstTaken running (Start n P) = (1 ≤ n) × (running ≡ false)

module _ (D S clock : ℕ) (cfg : Config D S) where
  wait-fits : (w : ℕ) → Waits (max 1 (S - w))
  wait-fits w = record { some = omega arith; most = omega arith }

  pub tariff-at : {i : ℕ} {last : Last} {b : Started} {r : Running} {cpc pcslr : ℕ} {rp : Option ℕ} {l : Line} (t : TariffPart) (ps : List Phase) → TariffTaken S t ps r → At D S clock i last b r cpc pcslr rp l →
      At D S clock i last b (changed_by t ps (origin_after S last i) i r) (zeroed_by t cpc) (zeroed_by t pcslr) rp (tariff_changed t (scheduled ps) l)
  unfolding tariff_changed
  tariff-at {i} NoTariff ps h (line_at {ps = qs} {n = n} e before a g u x) = line_at e before (agree-idle D qs n 0 i) tt u (λ z. absurd (z refl))
  tariff-at KeepTariff ps h (line_at e before a g u x) = line_at e before a g u x
  tariff-at {i} {r = r} (Rate P) ps h (line_at {w = w} {t = t} {ps = qs} {n = n} e before a g u x) =
      line_at {w = w} {t = rate_of P t} {ps = qs} {n = n} e before (agree-rate D qs n S r t w i g a (sym (rate-runs D qs n r t w i a) ∙ h.0) P) (good-rate S qs n P t w h.1 g) u (rw (next-rate P t w) x)
  tariff-at {i} {last} (Em m) ps h (line_at {v = v} {ps = qs} {n = n} e before a g u x) =
      let w : ℕ = max 1 (S - v) in
      let C = m.count in
      let P = m.period in
      line_at {w = w} {t = em_of C P} {ps = qs} {n = n} e before (rw (origin_is S i last before, ← e) (agree-em D qs n C P i w (omega arith))) (good-em S qs n C P w h (wait-fits v)) u (rw (next-em C P w) (λ z. omega arith))
  tariff-at {i} {last} Phased ps h (line_at {v = v} e before a g u x) =
      let w : ℕ = max 1 (S - v) in
      line_at {w = w} {t = phased_of (eight_of ps)} {ps = eight_of ps} {n = length ps} e before
      (rw (origin_is S i last before, ← e) (rw (eight-front ps) at (agree-phased D (eight_of ps) (length ps) h.0 h.1 (eight-room ps) i w (omega arith))))
      (phased-start-good S (eight_of ps) (length ps) w (omega arith) h.0 h.1 (eight-room ps) (rw (eight-front ps) h.2) (wait-fits v))
      u
      (rw (next-phased (eight_of ps) w) (λ z. omega arith))

  pub burst-at : {i : ℕ} {last : Last} {b : Started} {r : Running} {cpc pcslr : ℕ} {rp : Option ℕ} {l : Line} (running : Bool) (p : BurstPart) → BurstTaken running p → At D S clock i last b r cpc pcslr rp l →
      At D S clock i last (burst_by p None (i + 1) b) r cpc pcslr rp (burst_changed p l)
  unfolding burst_changed
  burst-at running NoBurst h (line_at e before a g u x) = line_at e before a g none x
  burst-at running KeepBurst h (line_at e before a g u x) = line_at e before a g u x
  burst-at running (Start n P) h (line_at e before a g u x) = line_at e before a g (runs {n = n} {P = P} {k = 0} {m = n} (omega arith) refl tt (λ z. absurd (omega arith))) x

  pub period-at : {i : ℕ} {last : Last} {b : Started} {r : Running} {cpc pcslr : ℕ} {rp : Option ℕ} {l : Line} (n : Option ℕ) → At D S clock i last b r cpc pcslr rp l → At D S clock i last b r cpc pcslr n (with_period l n)
  period-at n (line_at e before a g u x) = line_at e before a g u x
