-- What a list of phases leaves to carry tells its length, held at 9, and whether it is sound as a whole.
use mathlib.Core.Path.{◌≡◌, refl, ◌∙◌}
use mathlib.Core.Bool.{Bool, true, not, ◌&&◌, and_assoc, and-true, and-false}
use mathlib.Core.List.{List, [], ◌∷◌, ◌++◌, foldl, foldl-append}
use Prim.Native.Nat.{ℕ, zero, suc, ◌+◌, ◌≤◌, min}
use native.Mathlib.Omega.{arith}
use borrow.Author.Tests.{lt-ltb, ne_eqb, lt-leb, leb-true, leb-false}
use borrow.Table.Steps.{cases}
use lib.Dec.{leb, ltb, eqb}
use lib.ListN.{length}
use Rattle.tariff.specs.Ranges.{within}
use Rattle.tariff.specs.declared.Phase.{Phase}
use Rattle.rules.specs.Rules.{sound_phase, sound_phases}
use Rattle.rules.specs.Carried.{none_met, met_by, carried}
use Rattle.rules.specs.declared.Carry.{Carry}

module _ (S : ℕ) where
  abbrev from : Carry → List Phase → Carry
  from = foldl (met_by S)

  -- one phase more at the end
  pub carried-more : (ps : List Phase) (p : Phase) → carried S (ps ++ (p ∷ [])) ≡ met_by S (carried S ps) p
  unfolding carried
  carried-more ps p = foldl-append (met_by S) none_met ps (p ∷ [])

  count-from : (c : Carry) (ps : List Phase) → c.count ≤ 9 → (from c ps).count ≡ min (c.count + length ps) 9
  count-from c [] few = omega arith
  count-from c (p ∷ ps) few = count-from (met_by S c p) ps (omega arith) ∙ omega arith

  pub carried-count : (ps : List Phase) → (carried S ps).count ≡ min (length ps) 9
  unfolding carried
  carried-count ps = count-from none_met ps (omega arith) ∙ omega arith

  -- the phases that follow are sound, and there are none after an endless one
  abbrev rest : Carry → List Phase → Bool
  rest c [] = true
  rest c (p ∷ ps) = not c.endless && sound_phases S (p ∷ ps)

  ends : (n : ℕ) → not (eqb n 0) ≡ ltb 0 n
  ends zero = refl
  ends (suc n) = rw (lt-ltb 0 (suc n) (omega arith), ne_eqb (suc n) 0 (λ e. omega arith))

  sound-from : (c : Carry) (ps : List Phase) → (from c ps).sound ≡ (c.sound && rest c ps)
  unfolding sound_phases
  sound-from c [] = rw (and-true c.sound)
  sound-from c (p ∷ []) = rw (and-true (sound_phase S p), and_assoc)
  sound-from c (p ∷ (q ∷ ps)) = sound-from (met_by S c p) (q ∷ ps) ∙ rw (ends p.pd, and_assoc, and_assoc)

  pub carried-sound : (ps : List Phase) → (carried S ps).sound ≡ sound_phases S ps
  unfolding carried sound_phases
  carried-sound [] = refl
  carried-sound (p ∷ ps) = sound-from none_met (p ∷ ps)

-- held at 9, a count tells 1 to 8 from all others
pub held-within : (n : ℕ) → within 1 8 (min n 9) ≡ within 1 8 n
held-within n =
    cases (leb n 9)
    (λ t. let few = leb-true n 9 t in let same : min n 9 ≡ n = omega arith in rw same)
    (λ t. let many = leb-false n 9 t in let held : min n 9 ≡ 9 = omega arith in rw (held, lt-leb n 8 (omega arith), and-false (leb 1 n)))
