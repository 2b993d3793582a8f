-- The phases that the lines say are the phases that are held.
use Rattle.std.proofs.Common.{◌≡◌, refl, List, [], ◌∷◌, Some}
use Rattle.std.specs.List.{fold}
use Rattle.tariff.specs.declared.Phase.{Phase}
use Rattle.phases.specs.declared.Phases.{Phases}
use Rattle.phases.specs.Holding.{none_held, with_phase}
use Rattle.phase_lines.specs.Gathering.{with_all, AsRead}

-- each line of these is read
all_read : (ps : List Phase) (s : Phases) → with_all (Some s) ps ≡ Some (fold with_phase s ps)
unfolding with_all
all_read [] s = refl
all_read (p ∷ ps) s = all_read ps (with_phase s p)

pub as_read : AsRead
as_read ps = all_read ps none_held
