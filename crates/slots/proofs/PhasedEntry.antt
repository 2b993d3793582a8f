-- The pulses of a charge interval by its entry in the map, which repeats.
use mathlib.Core.Path.{◌≡◌}
use Prim.Native.Nat.{ℕ, ◌+◌, ◌%◌, ◌≤◌, ◌<◌}
use native.Mathlib.Nat.{mod-eq_of_lt, mod_self, zero-mod, mod-add-mod}
use native.Mathlib.Omega.{arith}
use borrow.Author.Tests.{le-ltb, ltb-true, ltb-false}
use borrow.Table.Steps.{cases}
use lib.Dec.{ltb}
use Rattle.pulse_map.specs.Pulses.{pulses_of, entry_of}
use Rattle.pulse_map.specs.Map.{Entry, X, N}
use Rattle.pulse_map.specs.Refusals.{no_map}
use Rattle.steps.specs.Steps.{pulses_at, next_entry}
use Rattle.tariff.specs.declared.Phase.{Phase}
use Rattle.slots.specs.Slots.{interval_pulses}

-- the entries of a phase's map
abbrev pub entries : Phase → ℕ
entries p = p.repx + p.repn

-- a map of at most 100 entries gives each of them
pub entry-pulses : (p : Phase) (e : ℕ) → entries p ≤ 100 → e < entries p → pulses_at p e ≡ interval_pulses p e
unfolding pulses_at interval_pulses no_map
entry-pulses p e hundred h =
    rw (
      le-ltb (entries p) 1 (omega arith),
      le-ltb 100 (entries p) hundred,
      le-ltb (entries p) (e + 1) (omega arith),
      mod-eq_of_lt h,
    )

most : (pcx pcn : ℕ) (entry : Entry) → pcn ≤ pcx → pulses_of pcx pcn entry ≤ pcx
most pcx pcn X h = omega arith
most pcx pcn N h = h

pub pulses-most : (p : Phase) (i : ℕ) → p.pcn ≤ p.pcx → interval_pulses p i ≤ p.pcx
unfolding interval_pulses
pulses-most p i h = most p.pcx p.pcn (entry_of p.repx p.repn i) h

-- ---- the next entry

pub next-entry : (p : Phase) (e : ℕ) → e < entries p → next_entry p e < entries p
unfolding next_entry
next-entry p e h =
    cases (ltb (e + 1) (entries p)) (λ t. rw t (ltb-true (e + 1) (entries p) t)) (λ t. rw t (omega arith))

next_mod : (p : Phase) (e : ℕ) → e < entries p → next_entry p e % entries p ≡ (e + 1) % entries p
unfolding next_entry
next_mod p e h = cases (ltb (e + 1) (entries p)) (λ t. rw t) (λ t. rw t (again (ltb-false (e + 1) (entries p) t)))
  where
    again : entries p ≤ e + 1 → 0 % entries p ≡ (e + 1) % entries p
    again last =
        let end : e + 1 ≡ entries p = omega arith in
        rw (end, mod_self (entries p), zero-mod (entries p))

-- d intervals after the next one
pub next-pulses : (p : Phase) (e d : ℕ) → e < entries p → interval_pulses p (next_entry p e + d) ≡ interval_pulses p (e + 1 + d)
unfolding interval_pulses
next-pulses p e d h =
    rw (← mod-add-mod (next_entry p e) (entries p) d, next_mod p e h, mod-add-mod (e + 1) (entries p) d)
