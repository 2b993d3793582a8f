-- The windows of a phase.
use mathlib.Core.Path.{◌≡◌, refl}
use mathlib.Core.Bool.{false, and-false}
use mathlib.Core.List.{List, [], ◌∷◌, ◌++◌}
use Prim.Native.Nat.{ℕ, zero, suc, ◌<◌, ◌≤◌, min, max}
use native.Mathlib.Omega.{arith}
use borrow.Author.Tests.{lt-leb, le-ltb, ne_eqb}
use Rattle.std.specs.Prelude.{if◌then◌else◌, ◌==◌}
use Rattle.fractions.specs.Components.{Components, components_of, repx_of, repn_of}
use Rattle.fractions.proofs.Components.{reps_sum}
use Rattle.pulse_map.specs.Refusals.{no_map}
use Rattle.pulse_map.specs.Pulses.{pulses_in}
use Rattle.tariff.specs.declared.Phase.{Phase}
use Rattle.rules.specs.Rules.{sound_phase, sound_phases}
use Rattle.phase_total.specs.Windows.{whole, remaining, first_map, second_count, first_window, second_window, windows}
use Rattle.phase_total.specs.declared.Charging.{Charging}

-- a map of 1 to 100 elements is not refused
pub a_map : (a b n : ℕ) → 0 < b → 1 ≤ n → n ≤ 100 → no_map (repx_of a b n) (repn_of a b n) 0 ≡ false
unfolding no_map
a_map a b n some least most =
    rw (reps_sum a b n some, le-ltb n 1 least, le-ltb 100 n most, le-ltb n 0 (omega arith)) refl

-- without a whole interval the map makes no difference
same_by : (c : Charging) (k : ℕ) → whole c ≡ k
    → windows (components_of c.a c.b (max 1 (min k 10))) c ≡ windows (components_of c.a c.b (min 10 k)) c
unfolding windows second_count pulses_in
same_by c zero e = rw e refl
same_by c (suc k) e = let n : max 1 (min (suc k) 10) ≡ min 10 (suc k) = omega arith in rw n refl

pub same_windows : (c : Charging) → windows (components_of c.a c.b (max 1 (min (whole c) 10))) c ≡ windows (first_map c) c
same_windows c = same_by c (whole c) refl

-- a phase of more than 65,535 pulses an interval is not sound, and neither is a list that ends with it
phase_crowded : (S : ℕ) (p : Phase) → 65535 < p.pcx → sound_phase S p ≡ false
unfolding sound_phase
phase_crowded S p many = simp (lt-leb p.pcx 65535 many, and-false)

list_crowded : (S : ℕ) (ps : List Phase) (p : Phase) → 65535 < p.pcx → sound_phases S (ps ++ (p ∷ [])) ≡ false
unfolding sound_phases
list_crowded S [] p many = rw (phase_crowded S p many) refl
list_crowded S (q ∷ ps) p many = simp (list_crowded S ps p many, and-false)

-- so a second window may not have more
pub crowded : (S : ℕ) (m : Components) (c : Charging) → 0 < remaining c → 65535 < second_count m c
    → sound_phases S (windows m c) ≡ false
unfolding windows
crowded S m c some many =
    rw (ne_eqb (remaining c) 0 (λ e. omega arith))
    (list_crowded S (if whole c == 0 then [] else first_window m c ∷ []) (second_window m c) many)
