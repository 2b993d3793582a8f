-- A running tariff by its origin and the tariff that the line keeps say the same of every tick to come.
use Rattle.std.specs.Prelude.{None, Option, Some}
use mathlib.Core.Path.{◌≡◌}
use mathlib.Core.Bool.{false}
use mathlib.Core.List.{List}
use Prim.Native.Nat.{ℕ, ◌+◌, ◌-◌, ◌*◌, ◌≤◌}
use Rattle.tariff.specs.Tariffs.{is_endless}
use Rattle.tariff.specs.declared.Phase.{Phase}
use Rattle.tariff.specs.declared.Slot.{Slot}
use Rattle.tariff.specs.declared.Slot.TheVariants.{Empty, Pulse}
use Rattle.tariff.specs.declared.Tariff.{Tariff}
use Rattle.tariff.specs.declared.Tariff.TheVariants.{Endless}
use Rattle.slots.specs.Slots.{Running, endless, slot_at, completes_at, first_past, runs_endless}
use Rattle.slots.proofs.Ahead.{ahead, completes_in}

-- of an em with C = 0: the same interval, and the first slot past tick i
pub data SameRate (i : ℕ) : Running → Tariff → ℕ → Type 0 where
  steady : {f P w : ℕ} → first_past f P i ≡ i + w → SameRate i (endless f P) (Endless P) w
  other : {r : Running} {t : Tariff} {w : ℕ} → runs_endless r ≡ false → is_endless t ≡ false → SameRate i r t w

pub record Agree (D : ℕ) (a : List Phase) (n : ℕ) (r : Running) (t : Tariff) (w i : ℕ) : Type 0 where
  pub slots : (y : ℕ) → 1 ≤ y → slot_at r (i + y) ≡ ahead a n t w y
  pub ends : (y : ℕ) → 1 ≤ y → completes_at D r (i + y) ≡ completes_in a n D t w y
  pub rate : SameRate i r t w

-- what one tick does to the ticks to the next slot, v, which is 0 where none is left
pub data Next (S v v' : ℕ) : Option Slot → Type 0 where
  waits : (v ≡ 1 → ⊥) → v' ≡ v - 1 → Next S v v' None
  empty : v ≡ 1 → ((v' ≡ 0 → ⊥) → 2 * S ≤ v') → Next S v v' (Some Empty)
  pulse : v ≡ 1 → ((v' ≡ 0 → ⊥) → 2 * S ≤ v') → Next S v v' (Some Pulse)
