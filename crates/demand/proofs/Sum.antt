-- Every burst pulse that was accepted was begun, was reported cancelled, or is owed.
use mathlib.Core.Path.{◌≡◌, refl}
use mathlib.Core.Bool.{Bool, true, false, and-eq-true_iff}
use mathlib.Core.List.{List}
use Prim.Native.Nat.{ℕ, ◌+◌, ◌-◌, ◌^◌, max, ◌<◌}
use native.Mathlib.Omega.{arith}
use borrow.Author.Tests.{ltb-true, ltb-false}
use lib.Dec.{ltb}
use Rattle.answers.specs.Fronts.{if_burst, is_burst_front}
use Rattle.tariff.specs.declared.Slot.{Slot}
use Rattle.tariff.specs.declared.Slot.TheVariants.{Empty, Pulse}
use Rattle.slots.specs.Slots.{slot_at, runs_endless}
use Rattle.std.specs.Prelude.{Ok, Err, Option, None, Some}
use Rattle.descriptor.specs.declared.BurstPart.{BurstPart}
use Rattle.descriptor.specs.declared.BurstPart.TheVariants.{None as NoBurst, Keep as KeepBurst, Start}
use Rattle.descriptor.specs.declared.Hook.TheVariants.{Keep, Stop}
use Rattle.descriptor.specs.Cancelled.{cancelled_by}
use Rattle.ticking.specs.Rules.{front_at}
use Rattle.line.specs.Lines.{on_of}
use Rattle.line.specs.declared.Line.{Line}
use Rattle.grammar.specs.Meaning.{unreadable, senseless, descriptor}
use Rattle.demand.specs.Calls.{Call, describe, ask, hook, period, no_period, audit, tick, Answer, accepted, refused, asked, counters, ticked, Entry, asks}
use Rattle.demand.specs.History.{granted, front_of, sum, ticks, accepted_pulses, begun, cancelled, passed, Started, idle, started, one_begun, burst_by, burst_in, owed_of, owed, burst_runs, burst_ready, running}
use Rattle.demand.specs.Serials.{serial_in}
use Rattle.demand.specs.Answers.{ruling_after, burst_may_start}
use Rattle.demand.proofs.Coupled.{Config}
use Rattle.demand.proofs.Described.{allowed-reading}
use Rattle.demand.proofs.Taken.{starts_idle}
use Rattle.demand.proofs.AnswerKinds.{Kind, to_command, to_ask, to_audit, to_tick, kind}
use Rattle.demand.proofs.Run.{Run, begin, more, answer-right}

-- a burst that does not run owes nothing
idle_owes : (D : ℕ) (b : Started) (now : ℕ) → burst_runs D b now ≡ false → owed_of b ≡ 0
idle_owes D idle now h = refl
idle_owes D (started n P k last) now h = by (ltb k n) refl
  where
    by : (x : Bool) → ltb k n ≡ x → n - k ≡ 0
    by true e = absurd (let f : true ≡ false = rw e at h in let o : ◌≡◌ {A = ℕ} 0 1 = cc in omega arith)
    by false e = let l = ltb-false k n e in omega arith

-- a burst pulse that begins is one less owed
begun_owes : (S now : ℕ) (b : Started) → burst_ready S b now ≡ true → owed_of b ≡ 1 + owed_of (one_begun now b)
begun_owes S now idle h = absurd (let o : ◌≡◌ {A = ℕ} 0 1 = cc in omega arith)
begun_owes S now (started n P k last) h =
    let l = ltb-true k n ((and-eq-true_iff (ltb k n) (passed (max P S) last now)).0 h).0 in
    omega arith

-- the n of a burst start, and the pulses that an answer reports cancelled
abbrev pulses_of : BurstPart → ℕ
pulses_of b = elim b [ NoBurst ↦ 0 | KeepBurst ↦ 0 | Start n P ↦ n ]

abbrev cancelled_in : Answer → ℕ
cancelled_in a = elim a [ accepted k ↦ k | refused n ↦ 0 | asked w n ↦ 0 | counters m n ↦ 0 | ticked t ↦ 0 ]

-- what an entry adds to each count of the sum, where b is the burst before it
abbrev Balanced : Entry → ℕ → Started → Type 0
Balanced e now b = pulses_of (granted e).burst + owed_of b ≡ is_burst_front (front_of e) + cancelled_in e.answer + owed_of (burst_by (granted e).burst (front_of e) now b)

module _ (D S : ℕ) (h : List Entry) (k : ℕ) (on : Bool) where
  -- a start is allowed only where nothing is owed
  start_owes : (c : Call) (n P : ℕ) → ruling_after D S h c ≡ Ok tt → (asks c).burst ≡ Start n P → owed h ≡ 0
  start_owes (describe k unreadable) n P e f = absurd (let o : ◌≡◌ {A = ℕ} 0 1 = cc in omega arith)
  start_owes (describe k senseless) n P e f = absurd (let o : ◌≡◌ {A = ℕ} 0 1 = cc in omega arith)
  start_owes (describe k (descriptor t ls b)) n P e f =
      let endless : Bool = runs_endless (running D S h) in
      let runs : Bool = burst_runs D (burst_in h) (ticks h) in
      idle_owes D (burst_in h) (ticks h) (starts_idle S endless runs t ls n P (rw f at (allowed-reading S endless runs (serial_in h) k (descriptor t ls b) e)))
  start_owes (ask d) n P e f = absurd (let o : ◌≡◌ {A = ℕ} 0 1 = cc in omega arith)
  start_owes (hook Keep) n P e f = absurd (let o : ◌≡◌ {A = ℕ} 0 1 = cc in omega arith)
  start_owes (hook Stop) n P e f = absurd (let o : ◌≡◌ {A = ℕ} 0 1 = cc in omega arith)
  start_owes (period m) n P e f = absurd (let o : ◌≡◌ {A = ℕ} 0 1 = cc in omega arith)
  start_owes no_period n P e f = absurd (let o : ◌≡◌ {A = ℕ} 0 1 = cc in omega arith)
  start_owes audit n P e f = absurd (let o : ◌≡◌ {A = ℕ} 0 1 = cc in omega arith)
  start_owes tick n P e f = absurd (let o : ◌≡◌ {A = ℕ} 0 1 = cc in omega arith)

  part_owes : (b : BurstPart) → ((n P : ℕ) → b ≡ Start n P → owed h ≡ 0) → pulses_of b + owed h ≡ 0 + cancelled_by b (owed h) + owed_of (burst_by b None (ticks h + 1) (burst_in h))
  part_owes NoBurst start = omega arith
  part_owes KeepBurst start = omega arith
  part_owes (Start n P) start = let z = start n P refl in omega arith

  front_owes : (s : Option Slot) (may : Bool) (b : Started) → (may ≡ true → burst_ready S b (ticks h + 1) ≡ true) → owed_of b ≡ is_burst_front (front_at s may) + owed_of (if_burst (front_at s may) (one_begun (ticks h + 1) b) b)
  front_owes None true b r = begun_owes S (ticks h + 1) b (r refl)
  front_owes None false b r = omega arith
  front_owes (Some Empty) may b r = omega arith
  front_owes (Some Pulse) may b r = omega arith

  balanced : (c : Call) (a : Answer) → Kind D S h c a → Balanced (record { call = c; answer = a; clock = k; on = on }) (ticks h + 1) (burst_in h)
  balanced c a (to_command (Ok tt) e s) = part_owes (asks c).burst (λ n P f. start_owes c n P e f)
  balanced c a (to_command (Err r) e s) = omega arith
  balanced c a (to_ask s) = rw s (omega arith)
  balanced c a (to_audit s) = rw s (omega arith)
  balanced c a (to_tick s) =
      rw s
      (omega (arith, front_owes (slot_at (running D S h) (ticks h + 1)) (burst_may_start D S h (ticks h + 1)) (burst_in h) (λ e. ((and-eq-true_iff (burst_ready S (burst_in h) (ticks h + 1)) _).0 e).0)))

module _ (D S clock : ℕ) (cfg : Config D S) (small : clock < 2 ^ 32) where
  pub sum-run : {h : List Entry} {l : Line} → Run D S clock cfg h l → accepted_pulses h ≡ begun h + cancelled h + owed h
  unfolding sum burst_in
  sum-run begin = refl
  sum-run (more {h = h} {l' = l} {c = c} {a = a} r q) = omega (arith, sum-run r, balanced D S h l.state.clock (on_of l) c a (kind D S h c (answer-right D S clock cfg small (more r q))))
