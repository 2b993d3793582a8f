-- Nine values of each phase list are enough: they are sound exactly where the lists are, and then they are the lists.
use Prim.Native.Nat.{ℕ, ◌≤◌, min}
use native.Mathlib.Omega.{arith}
use mathlib.Core.Bool.{Bool, true, false}
use mathlib.Core.List.{List}
use mathlib.Core.Path.{◌≡◌, refl}
use lib.Dec.{eqb}
use lib.ListN.{length, take, length-take}
use lib.Seq.{take_all}
use Rattle.std.proofs.lemmas.Bool.{and_parts}
use Rattle.tariff.specs.Ranges.{within}
use Rattle.rules.proofs.OnePass.{held-within}
use Rattle.phase_lists.specs.Lists.{Lists, sound_lists, first_places}
use Rattle.phase_lists.proofs.FirstPlaces.{first-all}

-- a length up to 8 is told from any other
same_length : (l : List ℕ) (a : ℕ) → a ≤ 8 → eqb (length (take 9 l)) a ≡ eqb (length l) a
same_length l a few = rw (length-take 9 l) (grind arith)

within_nine : (l : List ℕ) → within 1 8 (length (take 9 l)) ≡ within 1 8 (length l)
within_nine l =
    let held : length (take 9 l) ≡ min (length l) 9 = rw (length-take 9 l) (omega arith) in
    rw held (held-within (length l))

module _ (ls : Lists) where
  few : within 1 8 (length ls.pri) ≡ true → length ls.pri ≤ 8
  few e = grind arith

  pub sound_nine : sound_lists (first_places ls 9) ≡ sound_lists ls
  unfolding sound_lists
  sound_nine = at (within 1 8 (length ls.pri)) refl
    where
      at : (t : Bool) → within 1 8 (length ls.pri) ≡ t → sound_lists (first_places ls 9) ≡ sound_lists ls
      at false e = rw (within_nine ls.pri, e)
      at true e =
          let n = few e in
          rw (take_all 9 ls.pri (omega arith), same_length ls.pcx (length ls.pri) n, same_length ls.repx (length ls.pri) n, same_length ls.pcn (length ls.pri) n, same_length ls.repn (length ls.pri) n, same_length ls.ci (length ls.pri) n, same_length ls.pd (length ls.pri) n)

  pub nine_whole : sound_lists ls ≡ true → first_places ls 9 ≡ ls
  unfolding sound_lists
  nine_whole e =
      let both = and_parts (within 1 8 (length ls.pri)) _ e in
      let n = few both.0 in first-all ls 9 both.1 (omega arith)
