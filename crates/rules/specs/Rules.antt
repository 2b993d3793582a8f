-- The rules that an em, a rate and a phase keep on a line of spacing S: "What is turned down" of the paper, 4 and 6.
use Rattle.std.specs.Prelude.{Bool, true, ◌&&◌, ◌||◌, List, [], ◌∷◌, ℕ, zero, suc, ◌+◌, ◌*◌, ◌/◌, ◌%◌, max, nat_le}
use Rattle.std.specs.Prelude.{nat_lt, ◌==◌}
use Rattle.tariff.specs.Ranges.{within}
use Rattle.tariff.specs.declared.Phase.{Phase}

-- the least distance of an em's slots: P/C rounded down, or P when C = 0
unfoldable pub distance_of : ℕ → ℕ → ℕ
distance_of zero P = P
distance_of (suc c) P = P / suc c

-- C at most 65,535, P at most 86,400,000, and the distance at least 2S; a rate is alike, with C = 0
unfoldable pub sound_em : ℕ → ℕ → ℕ → Bool
sound_em S C P = nat_le C 65535 && (nat_le P 86400000 && nat_le (2 * S) (distance_of C P))

-- the numbers of a phase, each within its ends
abbrev pub sound_numbers : ℕ → Phase → Bool
sound_numbers S p =
    within (2 * S) 86400000 p.pri
    && (nat_le p.pcn p.pcx && (nat_le p.pcx 65535
    && (within 1 100 (p.repx + p.repn)
    && (within 1 86400 p.ci && nat_le p.pd 86400000))))

-- so many seconds have room for the slots of an interval of pcx pulses, or for its empty slot
abbrev pub fits_in : Phase → ℕ → Bool
fits_in p seconds = nat_le (max 1 p.pcx * p.pri) (1000 * seconds)

-- a phase by itself: its interval has room for its slots, and so has a short last interval
unfoldable pub sound_phase : ℕ → Phase → Bool
sound_phase S p = sound_numbers S p && (fits_in p p.ci && (p.pd % p.ci == 0 || fits_in p (p.pd % p.ci)))

-- pd = 0 only last
abbrev pub ends_before : Phase → List Phase → Bool
ends_before p [] = true
ends_before p (q ∷ ps) = nat_lt 0 p.pd

unfoldable pub sound_phases : ℕ → List Phase → Bool
sound_phases S [] = true
sound_phases S (p ∷ ps) = sound_phase S p && (ends_before p ps && sound_phases S ps)
