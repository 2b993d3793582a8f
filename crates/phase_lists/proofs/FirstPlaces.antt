-- The first k places of seven lists of one length: they have one length too, and hold the first k phases.
use mathlib.Core.Path.{◌≡◌, refl}
use mathlib.Core.Bool.{true}
use mathlib.Core.List.{List}
use Prim.Native.Nat.{ℕ, zero, suc, ◌≤◌, ◌<◌}
use native.Mathlib.Omega.{arith}
use borrow.Author.Tests.{eq-eqb, eqb-true}
use lib.Dec.{eqb}
use lib.ListN.{length, take, get_or, length-take}
use lib.Seq.{get_or-take, take_all}
use Rattle.tariff.proofs.Both.{both_left, both_right}
use Rattle.phase_lists.specs.Lists.{Lists, phase_of, first_phases, phases_of, one_length, first_places}

module _ (ls : Lists) where
  abbrev AsLong : List ℕ → Type 0
  AsLong l = length l ≡ length ls.pri

  each_as_long : one_length ls ≡ true
      → AsLong ls.pcx × AsLong ls.repx × AsLong ls.pcn × AsLong ls.repn × AsLong ls.ci × AsLong ls.pd
  each_as_long same =
      let n = length ls.pri in
      let r2 = both_right (eqb (length ls.pcx) n) _ same in
      let r3 = both_right (eqb (length ls.repx) n) _ r2 in
      let r4 = both_right (eqb (length ls.pcn) n) _ r3 in
      let r5 = both_right (eqb (length ls.repn) n) _ r4 in (
        eqb-true (length ls.pcx) n (both_left _ _ same),
        eqb-true (length ls.repx) n (both_left _ _ r2),
        eqb-true (length ls.pcn) n (both_left _ _ r3),
        eqb-true (length ls.repn) n (both_left _ _ r4),
        eqb-true (length ls.ci) n (both_left _ _ r5),
        eqb-true (length ls.pd) n (both_right (eqb (length ls.ci) n) _ r5),
      )

module _ (ls : Lists) (k : ℕ) where
  same-phase : (i : ℕ) → i < k → phase_of (first_places ls k) i ≡ phase_of ls i
  same-phase i room = rw (at ls.pri, at ls.pcx, at ls.repx, at ls.pcn, at ls.repn, at ls.ci, at ls.pd)
    where
      at : (l : List ℕ) → get_or (take k l) i 0 ≡ get_or l i 0
      at l = get_or-take k l i 0 room

  same-phases : (n : ℕ) → n ≤ k → first_phases (first_places ls k) n ≡ first_phases ls n
  unfolding first_phases
  same-phases zero room = refl
  same-phases (suc n) room = rw (same-phases n (omega arith), same-phase n (omega arith))

  pub first-phases : k ≤ length ls.pri → phases_of (first_places ls k) ≡ first_phases ls k
  first-phases room =
      let all : length (take k ls.pri) ≡ k = rw (length-take k ls.pri) (omega arith) in
      rw (all, same-phases k (omega arith))

  -- a list that is as long as the first one is so when both are cut
  still : (l : List ℕ) → AsLong ls l → eqb (length (take k l)) (length (take k ls.pri)) ≡ true
  still l same = eq-eqb (length (take k l)) (length (take k ls.pri)) (rw (length-take k l, length-take k ls.pri, same))

  pub first-one-length : one_length ls ≡ true → one_length (first_places ls k) ≡ true
  first-one-length same =
      let e = each_as_long ls same in
      rw (still ls.pcx e.0, still ls.repx e.1, still ls.pcn e.2, still ls.repn e.3, still ls.ci e.4, still ls.pd e.5)

  -- none are left out where there are no more than k
  pub first-all : one_length ls ≡ true → length ls.pri ≤ k → first_places ls k ≡ ls
  first-all same few =
      let e = each_as_long ls same in
      rw (all ls.pri refl, all ls.pcx e.0, all ls.repx e.1, all ls.pcn e.2, all ls.repn e.3, all ls.ci e.4, all ls.pd e.5)
    where
      all : (l : List ℕ) → AsLong ls l → take k l ≡ l
      all l same = take_all k l (omega arith)
