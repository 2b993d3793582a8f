-- The rules of a sound phase as facts, and each phase of a sound list.
use mathlib.Core.Path.{◌≡◌}
use mathlib.Core.Bool.{true, ◌&&◌, ◌||◌}
use mathlib.Core.List.{List, [], ◌∷◌}
use mathlib.Core.Logic.{◌⊎◌, inl, inr, ⊎_elim}
use Prim.Native.Nat.{ℕ, zero, suc, ◌*◌, ◌%◌, max, ◌≤◌, ◌<◌}
use borrow.Author.Tests.{leb-true, eqb-true}
use Rattle.std.proofs.lemmas.Bool.{or_cases}
use lib.Dec.{leb, eqb}
use lib.ListN.{take, drop, length}
use Rattle.rules.specs.Rules.{sound_phase, sound_phases, ends_before}
use Rattle.tariff.specs.Tariffs.{phase_at}
use Rattle.tariff.specs.declared.Phase.{Phase}
use Rattle.tariff.proofs.Both.{both_left, both_right}
use Rattle.tariff.proofs.PhasedList.{phase-split}
use Rattle.slots.proofs.PhasedEntry.{entries}

-- the rules that the laws of a phased tariff need
pub record SoundPhase (S : ℕ) (p : Phase) : Type 0 where
  pub far : 2 * S ≤ p.pri
  pub near : p.pri ≤ 86400000
  pub fewer : p.pcn ≤ p.pcx
  pub entry : 1 ≤ entries p
  pub hundred : entries p ≤ 100
  pub second : 1 ≤ p.ci
  pub day : p.ci ≤ 86400
  pub room : max 1 p.pcx * p.pri ≤ 1000 * p.ci
  pub short : (p.pd % p.ci ≡ 0) ⊎ (max 1 p.pcx * p.pri ≤ 1000 * (p.pd % p.ci))

short-room : (r ticks room : ℕ) → (eqb r 0 || leb ticks room) ≡ true → (r ≡ 0) ⊎ (ticks ≤ room)
short-room r ticks room t = ⊎_elim (λ e. inl (eqb-true r 0 e)) (λ e. inr (leb-true ticks room e)) (or_cases (eqb r 0) (leb ticks room) t)

pub sound-phase : (S : ℕ) (p : Phase) → sound_phase S p ≡ true → SoundPhase S p
unfolding sound_phase
sound-phase S p t = search (both_left, both_right, leb-true, short-room) depth 12

-- ---- each phase of a sound list

sound-drop : (S i : ℕ) (ps : List Phase) → sound_phases S ps ≡ true → sound_phases S (drop i ps) ≡ true
unfolding sound_phases
sound-drop S zero ps t = t
sound-drop S (suc i) [] t = t
sound-drop S (suc i) (p ∷ ps) t =
    let rest = both_right (sound_phase S p) (ends_before p ps && sound_phases S ps) t in
    sound-drop S i ps (both_right (ends_before p ps) (sound_phases S ps) rest)

pub sound-at : (S : ℕ) (a : List Phase) (n i : ℕ) → i < n → n ≤ 8 → n ≤ length a → sound_phases S (take n a) ≡ true
    → SoundPhase S (phase_at a i)
unfolding sound_phases
sound-at S a n i few eight whole sound =
    let here = rw (phase-split a n i few eight whole) at (sound-drop S i (take n a) sound) in
    sound-phase S (phase_at a i) (both_left _ _ here)
