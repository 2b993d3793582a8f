-- The phase lines that a descriptor of a script has got so far, and the phases that they make.
use Rattle.std.specs.Prelude.{◌≡◌, List, [], ◌∷◌, Option, Some, None}
use Rattle.tariff.specs.declared.Phase.{Phase}
use Rattle.phases.specs.Holding.{none_held, with_phase, holding}
use Rattle.phases.specs.declared.Phases.{Phases}

-- with one line more; once a line was bad there are no phases
abbrev pub with_line : Option Phases → Option Phase → Option Phases
with_line (Some s) (Some p) = Some (with_phase s p)
with_line (Some s) None = None
with_line None line = None

-- with the lines of these phases
unfoldable pub with_all : Option Phases → List Phase → Option Phases
with_all s [] = s
with_all s (p ∷ ps) = with_all (with_line s (Some p)) ps

-- after the lines of phases, none of them bad, these are held: up to nine are the phases of the seven lists (`AsHeld`)
abbrev pub AsRead : Type 0
AsRead = (ps : List Phase) → with_all (Some none_held) ps ≡ Some (holding ps)
