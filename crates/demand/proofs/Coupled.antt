-- The coupling of a line with its history: each field but the serial is the bounded form of what the history says.
use Rattle.std.specs.Prelude.{Option, Some}
use mathlib.Core.Path.{◌≡◌}
use mathlib.Core.Bool.{true}
use mathlib.Core.List.{List}
use Prim.Native.Nat.{ℕ, ◌+◌, ◌%◌, ◌^◌, max, ◌≤◌, ◌<◌}
use Rattle.std.specs.Prelude.{Option}
use Rattle.tariff.specs.Tariffs.{schedule_of, timed}
use Rattle.tariff.specs.declared.Phase.{Phase}
use Rattle.tariff.specs.declared.Tariff.{Tariff}
use Rattle.slots.specs.Slots.{Running}
use Rattle.burst.specs.declared.Burst.{Burst}
use Rattle.burst.specs.Bursts.{no_burst, burst_with}
use Rattle.line.specs.Lines.{with_serial}
use Rattle.line.specs.declared.Line.{Line}
use Rattle.demand.specs.Calls.{Entry}
use Rattle.demand.specs.History.{Last, at, Started, idle, started, pulse_on, ticks, last_front, burst_in, running, since_report, period_in}
use Rattle.slots.proofs.Ahead.{next_of, Good}
use Rattle.slots.proofs.Agree.{Agree}
use Rattle.demand.proofs.Held.{held_since, Before}
use Rattle.demand.proofs.Counters.{total}

-- what an accepted configuration says of the pulse length D and the spacing S
pub record Config (D S : ℕ) : Type 0 where
  pub pulse : 1 ≤ D
  pub gap : D < S
  pub most : S ≤ 1000

-- no slot is left, or the next one is S ticks after the last front or later
abbrev pub Apart : ℕ → ℕ → ℕ → Type 0
Apart S since next = (next ≡ 0 → ⊥) → S ≤ since + next

module _ (D S i : ℕ) where
  -- the burst: none; it runs, with m of its pulses owed; or its last pulse has ended
  pub data BurstAt : Started → Option Burst → Type 0 where
    none : BurstAt idle no_burst
    runs : {n P k m s : ℕ} {last : Last} → m + k ≡ n → s ≡ held_since (max P S) last i → Before last i → (m ≡ 0 → pulse_on D last i ≡ true) → BurstAt (started n P k last) (Some (burst_with m (max P S) s))
    over : {n P k u : ℕ} → n ≤ k → u + D ≤ i → BurstAt (started n P k (at u)) no_burst

module _ (D S clock : ℕ) where
  -- after i ticks, by what the history says then
  pub data At (i : ℕ) (last : Last) (b : Started) (r : Running) (cpc pcslr : ℕ) (rp : Option ℕ) : Line → Type 0 where
    line_at : {v w : ℕ} {t : Tariff} {ps : List Phase} {n k : ℕ} {u : Option Burst} → v ≡ held_since S last i → Before last i → Agree D ps n r t w i → Good S ps n t w → BurstAt D S i b u → Apart S v (next_of t w) →
        At i last b r cpc pcslr rp
        (record { pulse = D; spacing = S; serial = k; state = record { timed = timed t w; clock = (clock + i) % 2 ^ 32; since = v; burst = u; counters = record { cpc = cpc; pcslr = pcslr; rp = rp } }; schedule = schedule_of ps n })

  -- the total counter in another form
  pub with-total : {i : ℕ} {last : Last} {b : Started} {r : Running} {cpc same pcslr : ℕ} {rp : Option ℕ} {l : Line} → cpc ≡ same → At i last b r cpc pcslr rp l → At i last b r same pcslr rp l
  with-total e x = rw e at x

  -- whatever the serial is
  pub serial-at : {i : ℕ} {last : Last} {b : Started} {r : Running} {cpc pcslr : ℕ} {rp : Option ℕ} {l : Line} (n : ℕ) → At i last b r cpc pcslr rp l → At i last b r cpc pcslr rp (with_serial l n)
  serial-at n (line_at e before a g x y) = line_at e before a g x y

  abbrev pub Coupled : List Entry → Line → Type 0
  Coupled h l = At (ticks h) (last_front h) (burst_in h) (running D S h) (total h) (since_report h) (period_in h) l
