-- Slots that begin at a tick.
use Rattle.std.specs.Prelude.{None, Option}
use mathlib.Core.Path.{◌≡◌, refl, sym, ◌∙◌, ap}
use mathlib.Core.Logic.{◌≢◌, ⊎_elim}
use Prim.Native.Nat.{ℕ, ◌+◌, ◌-◌, ◌≤◌, ◌<◌}
use native.Mathlib.Omega.{arith}
use borrow.Author.Tests.{le-leb, lt-leb}
use Rattle.tariff.specs.declared.Slot.{Slot}
use Rattle.slots.specs.Slots.{from}
use Rattle.std.proofs.lemmas.Bool.{cases_lt}

pub from_past : (g : ℕ → Option Slot) (f y : ℕ) → f ≤ y → from f g y ≡ g (y - f)
from_past g f y l = rw (le-leb f y l)

pub from-before : (g : ℕ → Option Slot) (f y : ℕ) → y < f → from f g y ≡ None
from-before g f y l = rw (lt-leb f y l)

-- what they are past their beginning, and none before it
pub from_is : (g : ℕ → Option Slot) (f y : ℕ) (s : Option Slot) → (f ≤ y → g (y - f) ≡ s) → (y < f → s ≡ None) → from f g y ≡ s
from_is g f y s past before = ⊎_elim (λ l. from-before g f y l ∙ sym (before l)) (λ l. from_past g f y l ∙ past l) (cases_lt y f)

pub from-none : (g : ℕ → Option Slot) (f y : ℕ) → ((x : ℕ) → g x ≡ None) → from f g y ≡ None
from-none g f y none = from_is g f y None (λ l. none (y - f)) (λ l. refl)

pub from-begun : (g : ℕ → Option Slot) (f y : ℕ) → from f g y ≢ None → f ≤ y
from-begun g f y some = ⊎_elim (λ l. absurd (some (from-before g f y l))) (λ l. l) (cases_lt y f)

-- a tick as far past their beginning has the same slot
pub from-same : (g h : ℕ → Option Slot) (f y f' y' : ℕ) → ((x : ℕ) → h x ≡ g x) → f + y' ≡ f' + y
    → from f g y ≡ from f' h y'
from-same g h f y f' y' same d =
    from_is g f y (from f' h y')
    (λ l. sym (same (y - f)) ∙ ap h (omega arith) ∙ sym (from_past h f' y' (omega arith)))
    (λ l. from-before h f' y' (omega arith))
