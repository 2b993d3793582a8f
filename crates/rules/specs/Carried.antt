-- What a list of phases leaves to carry: its phases are met one by one, in list order.
use Rattle.std.specs.Prelude.{true, false, not, ◌&&◌, ℕ, ◌+◌, min, ◌==◌}
use mathlib.Core.List.{List, foldl}
use Rattle.tariff.specs.declared.Phase.{Phase}
use Rattle.rules.specs.Rules.{sound_phase}
use Rattle.rules.specs.declared.Carry.{Carry}

-- before the first phase
abbrev pub none_met : Carry
none_met = record { count = 0; sound = true; endless = false }

-- one phase more; the count is held at 9
abbrev pub met_by : ℕ → Carry → Phase → Carry
met_by S c p =
    record {
      count = min (c.count + 1) 9;
      sound = c.sound && not c.endless && sound_phase S p;
      endless = p.pd == 0;
    }

unfoldable pub carried : ℕ → List Phase → Carry
carried S ps = foldl (met_by S) none_met ps
