-- The table of eight phases, filled phase by phase.
use mathlib.Core.Path.{◌≡◌, refl}
use mathlib.Core.Bool.{true, and-eq-true_iff}
use mathlib.Core.List.{List, [], ◌∷◌, ◌++◌, append_assoc}
use Prim.Native.Nat.{ℕ, zero, suc, ◌+◌, ◌-◌, ◌<◌, ◌≤◌, min}
use native.Mathlib.Numerals.{add-one}
use native.Mathlib.Omega.{arith}
use borrow.Author.Tests.{leb-true}
use lib.Dec.{leb}
use lib.ListN.{length, set, take, replicate, length-append}
use lib.Seq.{set_at, take-append_seam}
use Rattle.tariff.specs.Ranges.{within}
use Rattle.tariff.specs.Tariffs.{no_phase}
use Rattle.tariff.specs.declared.Phase.{Phase}
use Rattle.rules.specs.Carried.{carried, met_by}
use Rattle.rules.proofs.OnePass.{carried-more, carried-count}
use Rattle.phase_lists.specs.Lists.{Lists, phase_of, first_phases, phases_of, one_length, sound_lists}
use Rattle.phase_lists.specs.Tables.{eight_of, no_table, phase_count, table_of}
use Rattle.phase_lists.specs.declared.PhaseTable.{PhaseTable}

pub phases-length : (ls : Lists) (n : ℕ) → length (first_phases ls n) ≡ n
unfolding first_phases
phases-length ls zero = refl
phases-length ls (suc n) = simp length-append (omega (arith, phases-length ls n))

pub lists_length : (ls : Lists) → sound_lists ls ≡ true → (1 ≤ length ls.pri) × (length ls.pri ≤ 8)
unfolding sound_lists
lists_length ls h =
    let w = (and-eq-true_iff (leb 1 (length ls.pri)) _).0 ((and-eq-true_iff (within 1 8 (length ls.pri)) _).0 h).0 in
    (leb-true 1 (length ls.pri) w.0, leb-true (length ls.pri) 8 w.1)

-- the array of eight holds the phases at its front
pub eight-front : (ps : List Phase) → take (length ps) (eight_of ps) ≡ ps
eight-front ps = take-append_seam ps (replicate (8 - length ps) no_phase)

pub eight-room : (ps : List Phase) → length ps ≤ length (eight_of ps)
eight-room ps = simp length-append (omega arith)

-- one phase more, in a table of n that has room for it
eight-more : (ps : List Phase) (p : Phase) (n : ℕ) → length ps ≡ n → n < 8 → set (eight_of ps) n p ≡ eight_of (ps ++ (p ∷ []))
eight-more ps p n size room =
    let here : 8 - length ps ≡ suc (7 - n) = omega arith in
    let after : 8 - length (ps ++ (p ∷ [])) ≡ 7 - n = simp length-append (omega arith) in
    rw (here, after, set_at ps no_phase (replicate (7 - n) no_phase) p n size, append_assoc)

-- what the first n phases leave to carry, and the first eight of them
abbrev pub first_table : ℕ → Lists → ℕ → PhaseTable
first_table S ls n = record { carry = carried S (first_phases ls n); phases = eight_of (first_phases ls (min n 8)) }

pub no-phases : (S : ℕ) (ls : Lists) → no_table ≡ first_table S ls 0
unfolding first_phases carried
no-phases S ls = refl

-- one phase more is met
met_next : (S : ℕ) (ls : Lists) (i : ℕ) → met_by S (carried S (first_phases ls i)) (phase_of ls i) ≡ carried S (first_phases ls (i + 1))
unfolding first_phases
met_next S ls i = rw (add-one i, carried-more S (first_phases ls i) (phase_of ls i))

-- and is stored where it is one of eight
pub stored_next : (S : ℕ) (ls : Lists) (i : ℕ) → i < 8
    → record {
      carry = met_by S (carried S (first_phases ls i)) (phase_of ls i);
      phases = set (eight_of (first_phases ls (min i 8))) i (phase_of ls i);
    } ≡ first_table S ls (i + 1)
unfolding first_phases
stored_next S ls i room =
    let here : min i 8 ≡ i = omega arith in
    let after : min (i + 1) 8 ≡ suc i = omega arith in
    rw (met_next S ls i, here, after, eight-more (first_phases ls i) (phase_of ls i) i (phases-length ls i) room)

pub stored_past : (S : ℕ) (ls : Lists) (i : ℕ) → 8 ≤ i
    → record {
      carry = met_by S (carried S (first_phases ls i)) (phase_of ls i);
      phases = eight_of (first_phases ls (min i 8));
    } ≡ first_table S ls (i + 1)
stored_past S ls i past = let same : min i 8 ≡ min (i + 1) 8 = omega arith in rw (met_next S ls i, same)

-- sound lists: all their phases are counted and stored
pub sound-table : (S : ℕ) (ls : Lists) → sound_lists ls ≡ true
    → ((table_of S ls).carry.count ≡ length (phases_of ls)) × ((table_of S ls).phases ≡ eight_of (phases_of ls))
unfolding table_of sound_lists phase_count
sound-table S ls h =
    let n = length ls.pri in
    let few = lists_length ls h in
    let held : min n 9 ≡ n = omega arith in
    let all : min n 8 ≡ n = omega arith in
    let same = ((and-eq-true_iff (within 1 8 n) (one_length ls)).0 h).1 in
    (rw (same, carried-count S (phases_of ls), phases-length ls n, held), rw (same, all))
