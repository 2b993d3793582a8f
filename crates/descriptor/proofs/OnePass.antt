-- What is carried gives the verdict on a whole list, after every phase.
use mathlib.Core.Path.{◌≡◌, refl}
use mathlib.Core.Bool.{Bool, true, false, and-true, and-false}
use mathlib.Core.List.{List}
use Prim.Native.Nat.{ℕ, ◌<◌}
use borrow.Author.Tests.{lt-leb}
use borrow.Table.Steps.{cases}
use lib.Dec.{leb}
use lib.ListN.{length}
use Rattle.tariff.specs.Ranges.{within}
use Rattle.tariff.specs.declared.Phase.{Phase}
use Rattle.rules.specs.Rules.{sound_phases}
use Rattle.rules.specs.Carried.{carried}
use Rattle.rules.proofs.OnePass.{carried-count, carried-sound, held-within}
use Rattle.phase_lists.specs.Lists.{Lists, first_phases, phases_of, one_length, sound_lists, first_places}
use Rattle.phase_lists.specs.Tables.{phase_count, table_of}
use Rattle.phase_lists.proofs.PhaseTables.{phases-length}
use Rattle.phase_lists.proofs.FirstPlaces.{first-phases, first-one-length}
use Rattle.descriptor.specs.Refusals.{ruling, tariff_causes}
use Rattle.descriptor.specs.Rulings.{carried_ruling}
use Rattle.descriptor.specs.OnePass.{OnePass}
use Rattle.descriptor.specs.declared.TariffPart.TheVariants.{Phased}
use Rattle.descriptor.specs.declared.Refusal.TheVariants.{Lists as PhaseLists}
use Rattle.std.specs.Prelude.{Err}

module _ (S : ℕ) (e b : Bool) where
  -- of seven lists of one length
  whole-verdict : (ls : Lists) → one_length ls ≡ true → carried_ruling (carried S (phases_of ls)) ≡ ruling (tariff_causes S e b Phased ls)
  unfolding ruling sound_lists
  whole-verdict ls same =
      let n = length ls.pri in
      let ps = phases_of ls in
      rw (carried-count S ps, carried-sound S ps, phases-length ls n, held-within n, same, and-true (within 1 8 n))
      (cases (within 1 8 n) (λ t. rw t (cases (sound_phases S ps) (λ u. rw u) (λ u. rw u))) (λ t. rw t))

  -- lists of different lengths are met as no phase
  uneven : (ls : Lists) → one_length ls ≡ false → sound_lists ls ≡ false
  unfolding sound_lists
  uneven ls t = rw (t, and-false (within 1 8 (length ls.pri)))

  pub lists_verdict : (ls : Lists) → carried_ruling (table_of S ls).carry ≡ ruling (tariff_causes S e b Phased ls)
  unfolding table_of ruling first_phases carried phase_count
  lists_verdict ls = cases (one_length ls) (λ t. rw t (whole-verdict ls t)) (λ t. rw (t, uneven ls t))

  many-refused : (ps : List Phase) → 8 < length ps → carried_ruling (carried S ps) ≡ Err PhaseLists
  many-refused ps many =
      let n = length ps in
      rw (carried-count S ps, held-within n, lt-leb n 8 many, and-false (leb 1 n))

  pub one-pass : OnePass S e b
  unfolding carried
  one-pass =
      record {
        verdict = λ ls k same room. rw (← first-phases ls k room) (whole-verdict (first_places ls k) (first-one-length ls k same));
        none = refl;
        many = many-refused;
        held = carried-count S;
      }
