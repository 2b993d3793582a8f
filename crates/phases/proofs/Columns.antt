-- The phases that are held are the phases of the seven lists.
use Rattle.std.proofs.Common.{◌≡◌, refl, sym, ap, subst, ◌∙◌, ℕ, zero, suc, ◌+◌, ◌≤◌, ◌<◌, true, List, [], ◌∷◌, ◌++◌, length, get_or, append_assoc, append-nil, arith}
use Rattle.std.proofs.Math.ListN.{get_or-append}
use Rattle.std.proofs.Math.Seq.{get_or-append_seam}
use Rattle.std.proofs.lemmas.Bool.Decides.{nat_tests}
use Rattle.std.proofs.lemmas.List.{length-append}
use borrow.Author.Tests.{eq-eqb}
use Rattle.std.specs.List.{fold}
use Rattle.tariff.specs.declared.Phase.{Phase}
use Rattle.notes.specs.Noting.{pushed}
use Rattle.phase_lists.specs.Lists.{phase_of, first_phases, phases_of, one_length}
use Rattle.phases.specs.declared.Phases.{Phases}
use Rattle.phases.specs.Holding.{none_held, with_phase, holding, lists_of_phases, AsHeld}

-- a number more, where fewer than nine are kept
module _ (k : ℕ) (room : k < 9) where
  at_end : (l : List ℕ) (v : ℕ) → length l ≡ k → pushed l v ≡ l ++ (v ∷ [])
  at_end l v long = grind (arith, nat_tests)

  longer : (l : List ℕ) (v : ℕ) → length l ≡ k → length (pushed l v) ≡ suc k
  longer l v long = ap length (at_end l v long) ∙ length-append l (v ∷ []) ∙ omega (arith, long)

  -- leaves those before it
  still : (l : List ℕ) (v i : ℕ) → length l ≡ k → i < k → get_or (pushed l v) i 0 ≡ get_or l i 0
  still l v i long before =
      ap (λ (m : List ℕ). get_or m i 0) (at_end l v long) ∙ get_or-append l (v ∷ []) 0 i (omega (arith, long))

  -- and comes after them
  comes : (l : List ℕ) (v : ℕ) → length l ≡ k → get_or (pushed l v) k 0 ≡ v
  comes l v long =
      ap (λ (m : List ℕ). get_or m k 0) (at_end l v long)
      ∙ ap (λ (j : ℕ). get_or (l ++ (v ∷ [])) j 0) (sym long)
      ∙ get_or-append_seam l v [] 0

-- each list has k numbers
record Long (s : Phases) (k : ℕ) : Type 0 where
  pub pri : length s.pri ≡ k
  pub pcx : length s.pcx ≡ k
  pub repx : length s.repx ≡ k
  pub pcn : length s.pcn ≡ k
  pub repn : length s.repn ≡ k
  pub ci : length s.ci ≡ k
  pub pd : length s.pd ≡ k

module _ (s : Phases) (p : Phase) (k : ℕ) (long : Long s k) (room : k < 9) where
  one_longer : Long (with_phase s p) (suc k)
  one_longer =
      record {
        pri = longer k room _ _ long.pri;
        pcx = longer k room _ _ long.pcx;
        repx = longer k room _ _ long.repx;
        pcn = longer k room _ _ long.pcn;
        repn = longer k room _ _ long.repn;
        ci = longer k room _ _ long.ci;
        pd = longer k room _ _ long.pd;
      }

  kept : (i : ℕ) → i < k → phase_of (lists_of_phases (with_phase s p)) i ≡ phase_of (lists_of_phases s) i
  kept i before =
      rw (
        still k room s.pri _ i long.pri before,
        still k room s.pcx _ i long.pcx before,
        still k room s.repx _ i long.repx before,
        still k room s.pcn _ i long.pcn before,
        still k room s.repn _ i long.repn before,
        still k room s.ci _ i long.ci before,
        still k room s.pd _ i long.pd before,
      )

  this : phase_of (lists_of_phases (with_phase s p)) k ≡ p
  this =
      rw (
        comes k room s.pri p.pri long.pri,
        comes k room s.pcx p.pcx long.pcx,
        comes k room s.repx p.repx long.repx,
        comes k room s.pcn p.pcn long.pcn,
        comes k room s.repn p.repn long.repn,
        comes k room s.ci p.ci long.ci,
        comes k room s.pd p.pd long.pd,
      )

  before-this : (i : ℕ) → i ≤ k → first_phases (lists_of_phases (with_phase s p)) i ≡ first_phases (lists_of_phases s) i
  unfolding first_phases
  before-this zero few = refl
  before-this (suc i) few = rw (before-this i (omega arith), kept i (omega arith))

  one_more_lem : phases_of (lists_of_phases (with_phase s p)) ≡ phases_of (lists_of_phases s) ++ (p ∷ [])
  unfolding first_phases
  one_more_lem =
      let after = lists_of_phases (with_phase s p) in
      let before = first_phases (lists_of_phases s) in
      ap (first_phases after) (longer k room s.pri p.pri long.pri)
      ∙ ap (λ (qs : List Phase). qs ++ (phase_of after k ∷ [])) (before-this k (omega arith))
      ∙ ap (λ (q : Phase). before k ++ (q ∷ [])) this
      ∙ ap (λ (j : ℕ). before j ++ (p ∷ [])) (sym long.pri)

-- with these phases
abbrev after : Phases → List Phase → Phases
after = fold with_phase

after_all : (ps : List Phase) (s : Phases) (k : ℕ) → Long s k → k + length ps ≤ 9
    → phases_of (lists_of_phases (after s ps)) ≡ phases_of (lists_of_phases s) ++ ps
after_all [] s k long room = sym (append-nil (phases_of (lists_of_phases s)))
after_all (p ∷ ps) s k long room =
    let few : k < 9 = omega arith in
    let more = one_more_lem s p k long few in
    after_all ps (with_phase s p) (suc k) (one_longer s p k long few) (omega arith) ∙ rw (more, append_assoc)

all_long : (ps : List Phase) (s : Phases) (k : ℕ) → Long s k → k + length ps ≤ 9 → Long (after s ps) (k + length ps)
all_long [] s k long room = subst (Long s) (omega arith) long
all_long (p ∷ ps) s k long room =
    let few : k < 9 = omega arith in
    subst (Long (after (with_phase s p) ps)) (omega arith)
    (all_long ps (with_phase s p) (suc k) (one_longer s p k long few) (omega arith))

as_long : (s : Phases) (k : ℕ) → Long s k → one_length (lists_of_phases s) ≡ true
as_long s k long =
    rw (long.pri, long.pcx, long.repx, long.pcn, long.repn, long.ci, long.pd, eq-eqb k k refl)

none-long : Long none_held 0
none-long = record { pri = refl; pcx = refl; repx = refl; pcn = refl; repn = refl; ci = refl; pd = refl }

pub as_held : AsHeld
unfolding first_phases
as_held ps room =
    let full : 0 + length ps ≤ 9 = omega arith in
    (as_long (holding ps) (0 + length ps) (all_long ps none_held 0 none-long full), after_all ps none_held 0 none-long full)
