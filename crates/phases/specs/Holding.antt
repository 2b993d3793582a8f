-- Phases by value, and the seven lists that they make.
use Rattle.std.specs.Prelude.{◌≡◌, ◌≤◌, true}
use Rattle.std.specs.Prelude.{List, [], length}
use Rattle.std.specs.List.{fold}
use Rattle.tariff.specs.declared.Phase.{Phase}
use Rattle.notes.specs.Noting.{pushed}
use Rattle.phase_lists.specs.Lists.{Lists, lists_of, phases_of, one_length}
use Rattle.phases.specs.declared.Phases.{Phases}

-- before the first phase
abbrev pub none_held : Phases
none_held =
    record { pri = []; pcx = []; repx = []; pcn = []; repn = []; ci = []; pd = [] }

-- with one phase more, whose numbers go to the end of each list; past nine it is left out
abbrev pub with_phase : Phases → Phase → Phases
with_phase s p =
    record {
      pri = pushed s.pri p.pri;
      pcx = pushed s.pcx p.pcx;
      repx = pushed s.repx p.repx;
      pcn = pushed s.pcn p.pcn;
      repn = pushed s.repn p.repn;
      ci = pushed s.ci p.ci;
      pd = pushed s.pd p.pd;
    }

-- the first nine phases of a list
abbrev pub holding : List Phase → Phases
holding ps = fold with_phase none_held ps

-- the numbers that are held, in the seven lists
abbrev pub lists_of_phases : Phases → Lists
lists_of_phases s = lists_of s.pri s.pcx s.repx s.pcn s.repn s.ci s.pd

-- up to nine phases make seven lists of one length, whose phases are these
abbrev pub AsHeld : Type 0
AsHeld =
    (ps : List Phase) → length ps ≤ 9 →
    (one_length (lists_of_phases (holding ps)) ≡ true) × (phases_of (lists_of_phases (holding ps)) ≡ ps)
