-- What is claimed of a phase that is charged by its count.
use mathlib.Core.Path.{◌≡◌, refl, ap, ◌∙◌}
use mathlib.Core.List.{map}
use Prim.Native.Nat.{ℕ, ◌+◌, ◌-◌, ◌*◌, ◌<◌, max}
use native.Mathlib.Nat.{mul-pos, zero-mul, div-eq_of_lt-le, div-add-mod'}
use native.Mathlib.Omega.{arith}
use borrow.Author.Tests.{le-ltb, eqb-true}
use borrow.Table.Steps.{cases}
use Rattle.std.specs.Prelude.{◌==◌}
use Rattle.std.specs.List.{sum}
use Rattle.std.proofs.lemmas.Nat.{div-mul-add}
use Rattle.fractions.specs.Components.{Components}
use Rattle.fractions.specs.Rounding.{rounded_up}
use Rattle.fractions.specs.Answers.{no_tariff}
use Rattle.pulse_map.specs.Pulses.{pulses_in, pulses_of, entry_of}
use Rattle.pulse_map.specs.Map.{Entry, X, N}
use Rattle.tariff.specs.declared.Phase.{Phase}
use Rattle.phase_total.specs.Rest.{half_up}
use Rattle.phase_total.specs.Windows.{whole, remaining, elements, first_map, total, sent, second_count, first_window, second_window, windows, no_counts}
use Rattle.phase_total.specs.Claims.{Counted, phase_pulses}
use Rattle.phase_total.specs.declared.Charging.{Charging}
use Rattle.phase_total.proofs.Rest.{less_first}
use Rattle.phase_total.proofs.Nearest.{nearest}

-- an interval with n for X and n for N has n pulses
alike : (n : ℕ) (e : Entry) → pulses_of n n e ≡ n
alike n X = refl
alike n N = refl

module _ (c : Charging) (some : 0 < c.b) (interval : 0 < c.ci) where
  total_first : second_count (first_map c) c ≡ half_up (total c) - sent (first_map c) c
  unfolding second_count
  total_first = less_first (c.a * c.pd) (c.b * c.ci) (sent (first_map c) c) (mul-pos some interval)

  nine : 0 < whole c → no_counts c ≡ no_tariff c.a c.b (elements c)
  unfolding no_tariff
  nine first = rw (le-ltb (elements c) 1 (omega arith), le-ltb 100 (elements c) (omega arith)) refl

  first_pulses : (m : Components) → phase_pulses (first_window m c) ≡ sent m c
  first_pulses m =
      ap (pulses_in m.pcx m.repx m.pcn m.repn) (div-mul-add (whole c) c.ci (c.ci - 1) (omega arith))

  second_pulses : (m : Components) → 0 < remaining c → phase_pulses (second_window m c) ≡ second_count m c
  unfolding pulses_in
  second_pulses m rest =
      let r = remaining c in
      let once : rounded_up r r ≡ 1 = div-eq_of_lt-le r (omega arith) (omega arith) in
      rw once (omega (arith, alike (second_count m c) (entry_of 1 0 0)))

  -- a sum over both windows, of which one that is not there would add nothing
  both : (f : Phase → ℕ) (m : Components)
      → (whole c ≡ 0 → f (first_window m c) ≡ 0) → (remaining c ≡ 0 → f (second_window m c) ≡ 0)
      → sum (map f (windows m c)) ≡ f (first_window m c) + f (second_window m c)
  unfolding windows
  both f m first second =
      cases (whole c == 0)
      (λ t.
      cases (remaining c == 0)
      (λ u. rw (t, u, first (eqb-true (whole c) 0 t), second (eqb-true (remaining c) 0 u)) refl)
      (λ u. rw (t, u, first (eqb-true (whole c) 0 t)) (omega arith)))
      (λ t.
      cases (remaining c == 0)
      (λ u. rw (t, u, second (eqb-true (remaining c) 0 u)) (omega arith))
      (λ u. rw (t, u) (omega arith)))

  seconds : sum (map (λ (p : Phase). p.pd) (windows (first_map c) c)) ≡ c.pd
  seconds =
      both (λ (p : Phase). p.pd) (first_map c) (λ e. rw e (zero-mul c.ci)) (λ e. e) ∙ div-add-mod' c.pd c.ci

  in_all : 0 < remaining c
      → sum (map phase_pulses (windows (first_map c) c)) ≡ max (half_up (total c)) (sent (first_map c) c)
  unfolding pulses_in
  in_all rest =
      let m = first_map c in
      both phase_pulses m (λ e. first_pulses m ∙ rw e refl) (λ e. omega arith)
      ∙ rw (first_pulses m, second_pulses m rest) (omega (arith, total_first))

  pub counted : Counted c
  counted =
      record {
        nearest = λ n. rw total_first (nearest (c.a * c.pd) (c.b * c.ci) (mul-pos some interval) (sent (first_map c) c) n);
        total_first = total_first;
        seconds = seconds;
        in_all = in_all;
        nine = nine;
      }
