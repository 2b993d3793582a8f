-- What is claimed of the check of a list of phases in one pass, by what the paper says of whole lists.
use Rattle.std.specs.Prelude.{Bool, true, List, [], ◌≡◌, ℕ, ◌≤◌, ◌<◌, min, length, Err}
use Rattle.tariff.specs.declared.Phase.{Phase}
use Rattle.rules.specs.Carried.{carried}
use Rattle.phase_lists.specs.Lists.{Lists, first_phases, one_length, first_places}
use Rattle.descriptor.specs.Refusals.{ruling, tariff_causes}
use Rattle.descriptor.specs.Rulings.{carried_ruling}
use Rattle.descriptor.specs.declared.TariffPart.TheVariants.{Phased}
use Rattle.descriptor.specs.declared.Refusal.TheVariants.{Lists as PhaseLists}

-- on a line of spacing S, whether or not an em with C = 0 or a burst runs
pub record OnePass (S : ℕ) (endless_runs burst_runs : Bool) : Type 0 where
  -- after k phases, for every k, what is carried gives the verdict on those k as a whole list
  pub verdict : (ls : Lists) (k : ℕ) → one_length ls ≡ true → k ≤ length ls.pri
      → carried_ruling (carried S (first_phases ls k))
      ≡ ruling (tariff_causes S endless_runs burst_runs Phased (first_places ls k))
  -- no phase at all is refused with 5, and so are more than eight, whatever they are
  pub none : carried_ruling (carried S []) ≡ Err PhaseLists
  pub many : (ps : List Phase) → 8 < length ps → carried_ruling (carried S ps) ≡ Err PhaseLists
  -- the count is that of the phases, held at 9
  pub held : (ps : List Phase) → (carried S ps).count ≡ min (length ps) 9
