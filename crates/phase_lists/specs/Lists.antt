-- The seven phase lists of a descriptor, the phases that they hold, and whether they are sound.
use Rattle.std.specs.Prelude.{Bool, ◌&&◌, List, [], ◌∷◌, ◌++◌, ℕ, zero, suc, ◌==◌, length, get_or, take}
use Rattle.tariff.specs.Ranges.{within}
use Rattle.tariff.specs.declared.Phase.{Phase}
use Rattle.phase_lists.specs.declared.PhaseLists.{PhaseLists}

-- looked at only where the tariff part is phased
pub record Lists : Type 0 where
  pub pri : List ℕ
  pub pcx : List ℕ
  pub repx : List ℕ
  pub pcn : List ℕ
  pub repn : List ℕ
  pub ci : List ℕ
  pub pd : List ℕ

-- the phase that stands at place i of the lists
abbrev pub phase_of : Lists → ℕ → Phase
phase_of ls i =
    record {
      pri = get_or ls.pri i 0;
      pcx = get_or ls.pcx i 0;
      repx = get_or ls.repx i 0;
      pcn = get_or ls.pcn i 0;
      repn = get_or ls.repn i 0;
      ci = get_or ls.ci i 0;
      pd = get_or ls.pd i 0;
    }

unfoldable pub first_phases : Lists → ℕ → List Phase
first_phases ls zero = []
first_phases ls (suc n) = first_phases ls n ++ (phase_of ls n ∷ [])

abbrev pub phases_of : Lists → List Phase
phases_of ls = first_phases ls (length ls.pri)

-- the seven lists in the order of the paper
abbrev pub lists_of : List ℕ → List ℕ → List ℕ → List ℕ → List ℕ → List ℕ → List ℕ → Lists
lists_of pri pcx repx pcn repn ci pd =
    record { pri = pri; pcx = pcx; repx = repx; pcn = pcn; repn = repn; ci = ci; pd = pd }

abbrev pub lists_in : PhaseLists → Lists
lists_in ls = lists_of ls.pri.now ls.pcx.now ls.repx.now ls.pcn.now ls.repn.now ls.ci.now ls.pd.now

abbrev pub no_lists : Lists
no_lists = record { pri = []; pcx = []; repx = []; pcn = []; repn = []; ci = []; pd = [] }

-- the other six lists are as long as the first
abbrev pub one_length : Lists → Bool
one_length ls =
    length ls.pcx == length ls.pri && (length ls.repx == length ls.pri
    && (length ls.pcn == length ls.pri && (length ls.repn == length ls.pri
    && (length ls.ci == length ls.pri && length ls.pd == length ls.pri))))

-- seven lists of one length, 1 to 8
unfoldable pub sound_lists : Lists → Bool
sound_lists ls = within 1 8 (length ls.pri) && one_length ls

-- the first k places of each list
abbrev pub first_places : Lists → ℕ → Lists
first_places ls k =
    lists_of (take k ls.pri) (take k ls.pcx) (take k ls.repx) (take k ls.pcn) (take k ls.repn)
    (take k ls.ci) (take k ls.pd)
