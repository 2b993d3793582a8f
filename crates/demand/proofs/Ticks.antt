-- A tick keeps the coupling, and tells what the paper has it tell.
use Rattle.std.specs.Prelude.{Option, None, Some}
use Rattle.std.specs.Option.{option_map}
use mathlib.Core.Path.{◌≡◌, refl, sym, ap, ◌∙◌}
use mathlib.Core.Bool.{Bool, true, false, cond, ◌&&◌, ◌||◌, and-eq-true_iff}
use mathlib.Core.List.{List}
use Prim.Native.Nat.{ℕ, ◌+◌, ◌-◌, ◌%◌, ◌^◌, ◌≤◌}
use native.Mathlib.Omega.{arith}
use lib.Dec.{leb, eqb}
use Rattle.answers.specs.Fronts.{if_front, if_burst}
use Rattle.answers.specs.declared.Front.{Front}
use Rattle.answers.specs.declared.Tick.{Tick}
use Rattle.tariff.specs.Tariffs.{room_of, schedule_of, timed}
use Rattle.steps.specs.Steps.{step_of}
use Rattle.tariff.specs.declared.Phase.{Phase}
use Rattle.tariff.specs.declared.Tariff.{Tariff}
use Rattle.tariff.specs.declared.Slot.{Slot}
use Rattle.tariff.specs.declared.Slot.TheVariants.{Empty, Pulse}
use Rattle.steps.specs.declared.Stepped.{Stepped}
use Rattle.slots.specs.Slots.{Running, nothing, slot_at, completes_at, quiet_for}
use Rattle.burst.specs.Bursts.{held_more, aged_of, any_due, begun_of}
use Rattle.burst.specs.declared.Burst.{Burst}
use Rattle.burst.specs.declared.Aged.{Aged}
use Rattle.state.specs.Rules.{one_more, report_due}
use Rattle.state.specs.States.{count_of, count_by}
use Rattle.state.specs.declared.Count.{Count}
use Rattle.ticking.specs.Rules.{front_at}
use Rattle.ticking.specs.Moves.{since_front, burst_after, moved_by}
use Rattle.line.specs.Lines.{tick_of}
use Rattle.line.specs.declared.Line.{Line}
use Rattle.demand.specs.History.{Last, at, passed, Started, one_begun, burst_completes, burst_ready}
use Rattle.slots.proofs.Ahead.{next_of, Waits, Good}
use Rattle.slots.proofs.Agree.{Agree, Next, waits, empty, pulse}
use Rattle.slots.proofs.Tick.{good-step, next-step}
use Rattle.slots.proofs.Coupling.{agree-now, agree-complete, agree-tick, runs_on}
use Rattle.slots.proofs.Room.{room_next, agree-room}
use Rattle.demand.proofs.Held.{held_since, Before, before_more, held_more_lem}
use Rattle.demand.proofs.Counters.{counter_after}
use Rattle.demand.proofs.Coupled.{Config, Apart, BurstAt, At, line_at}
use Rattle.demand.proofs.Bursts.{burst-aged, burst-ready, burst-begun}

-- the counters after a front, without a branch
count-is : (cpc pcslr : ℕ) (rp : Option ℕ) → count_of (record { cpc = cpc; pcslr = pcslr; rp = rp }) ≡
    record { counters = record { cpc = one_more cpc; pcslr = cond (report_due rp (one_more pcslr)) 0 (one_more pcslr); rp = rp }; report = report_due rp (one_more pcslr) }
unfolding count_of
count-is cpc pcslr rp = by (report_due rp (one_more pcslr))
  where
    by : (due : Bool) →
        ◌≡◌ {A = Count}
        (cond due (record { counters = record { cpc = one_more cpc; pcslr = 0; rp = rp }; report = true }) (record { counters = record { cpc = one_more cpc; pcslr = one_more pcslr; rp = rp }; report = false }))
        (record { counters = record { cpc = one_more cpc; pcslr = cond due 0 (one_more pcslr); rp = rp }; report = due })
    by true = refl
    by false = refl

-- no slot is left, or the next is far enough
room_says : (S v : ℕ) → (eqb v 0 || leb S v) ≡ true → (v ≡ 0 → ⊥) → S ≤ v
room_says S v h z = grind arith

module _ (D S clock : ℕ) (cfg : Config D S) where
  -- what a tick after i others tells, by what the history says before it
  abbrev pub tick_told : ℕ → Last → Started → Running → ℕ → Option ℕ → Option Front → Tick
  tick_told i last b r pcslr rp f =
      record { tariff = completes_at D r (i + 1); burst = burst_completes D b (i + 1); front = f; report = if_front f (report_due rp (one_more pcslr)) false }

  abbrev pub front_due : ℕ → Last → Started → Running → Option Front
  front_due i last b r = front_at (slot_at r (i + 1)) (burst_ready S b (i + 1) && (passed S last (i + 1) && quiet_for r (i + 1) (S - 1)))

  abbrev pub After : ℕ → Last → Started → Running → ℕ → ℕ → Option ℕ → Tick → Line → Type 0
  After i last b r cpc pcslr rp k l =
      At D S clock (i + 1) (if_front k.front (at (i + 1)) last) (if_burst k.front (one_begun (i + 1) b) b) (cond (completes_at D r (i + 1)) nothing r) (counter_after k.front cpc) (cond k.report 0 (counter_after k.front pcslr)) rp l

  module _ (i : ℕ) (last : Last) (b : Started) (r : Running) (cpc pcslr : ℕ) (rp : Option ℕ) (t : Tariff) (w : ℕ) (ps : List Phase) (n k : ℕ) (u : Option Burst)
      (v : ℕ) (held : v ≡ held_since S last i) (before : Before last i) (a : Agree D ps n r t w i) (g : Good S ps n t w) (x : BurstAt D S i b u) (y : Apart S v (next_of t w)) where
    some : 1 ≤ S
    some = omega arith

    fits : Waits D
    fits = record { some = omega arith; most = omega arith }

    abbrev t' : Stepped
    t' = step_of D (schedule_of ps n) (timed t w)

    abbrev u' : Aged
    u' = aged_of D u

    abbrev now : ℕ
    now = held_more S v

    now-is : now ≡ held_since S last (i + 1)
    now-is = ap (held_more S) held ∙ held_more_lem S i last before

    clock-more : ((clock + i) % 2 ^ 32 + 1) % 2 ^ 32 ≡ (clock + (i + 1)) % 2 ^ 32
    clock-more = omega arith

    abbrev may-start : Bool
    may-start = any_due u'.burst && (leb S now && room_of S t'.timed)

    ready-is : may-start ≡ (burst_ready S b (i + 1) && (passed S last (i + 1) && room_of S t'.timed))
    ready-is = burst-ready D S cfg (i + 1) b u'.burst (burst-aged D S cfg i b u x).1 last (before_more last i before) now now-is (room_of S t'.timed)

    room-is : may-start ≡ true → (next_of t'.timed.tariff t'.timed.wait ≡ 0 → ⊥) → S ≤ next_of t'.timed.tariff t'.timed.wait
    room-is h =
        room_says S (next_of t'.timed.tariff t'.timed.wait)
        (sym (room_next S ps n t'.timed.tariff t'.timed.wait (good-step S D ps n some fits t w g))
        ∙ ((and-eq-true_iff (passed S last (i + 1)) _).0 ((and-eq-true_iff (burst_ready S b (i + 1)) _).0 (sym ready-is ∙ h)).1).1)

    -- the tick and the state after it, with this front or none
    abbrev told : Option Front → Tick
    told f = record { tariff = t'.complete; burst = u'.complete; front = f; report = (count_by f (record { cpc = cpc; pcslr = pcslr; rp = rp })).report }

    abbrev line_after : Option Front → Line
    line_after f =
        record {
          pulse = D;
          spacing = S;
          serial = k;
          state =
              record {
                timed = t'.timed;
                clock = ((clock + i) % 2 ^ 32 + 1) % 2 ^ 32;
                since = since_front f now;
                burst = burst_after f u'.burst;
                counters = (count_by f (record { cpc = cpc; pcslr = pcslr; rp = rp })).counters;
              };
          schedule = schedule_of ps n;
        }

    -- by the slot that is due and whether a burst pulse may start
    by : (s : Option Slot) (may : Bool) → Next S (next_of t w) (next_of t'.timed.tariff t'.timed.wait) s → (may ≡ true → burst_ready S b (i + 1) ≡ true) →
        (may ≡ true → (next_of t'.timed.tariff t'.timed.wait ≡ 0 → ⊥) → S ≤ next_of t'.timed.tariff t'.timed.wait) →
        (told (front_at s may) ≡ tick_told i last b r pcslr rp (front_at s may)) × After i last b r cpc pcslr rp (told (front_at s may)) (line_after (front_at s may))
    unfolding count_by since_front burst_after
    by None false (waits p q) h z =
        rw (← agree-complete S D ps n some fits r t w i g a, ← (burst-aged D S cfg i b u x).0, clock-more) (
          refl,
          line_at {v = now} {w = t'.timed.wait} {t = t'.timed.tariff} {ps = ps} {n = n} {u = u'.burst} now-is (before_more last i before) (agree-tick S D ps n some fits r t w i g a) (good-step S D ps n some fits t w g)
              (burst-aged D S cfg i b u x).1 (λ e. let l = y (λ o. e (omega arith)) in omega arith),
        )
    by None true (waits p q) h z =
        rw (← agree-complete S D ps n some fits r t w i g a, ← (burst-aged D S cfg i b u x).0, clock-more, count-is cpc pcslr rp) (
          refl,
          line_at {v = 0} {w = t'.timed.wait} {t = t'.timed.tariff} {ps = ps} {n = n} {u = option_map begun_of u'.burst} (omega arith) (omega arith) (agree-tick S D ps n some fits r t w i g a) (good-step S D ps n some fits t w g)
              (burst-begun D S cfg (i + 1) b u'.burst (burst-aged D S cfg i b u x).1 (h refl)) (λ e. let l = z refl e in omega arith),
        )
    by (Some Empty) may (empty p q) h z =
        rw (← agree-complete S D ps n some fits r t w i g a, ← (burst-aged D S cfg i b u x).0, clock-more) (
          refl,
          line_at {v = now} {w = t'.timed.wait} {t = t'.timed.tariff} {ps = ps} {n = n} {u = u'.burst} now-is (before_more last i before) (agree-tick S D ps n some fits r t w i g a) (good-step S D ps n some fits t w g)
              (burst-aged D S cfg i b u x).1 (λ e. let l = q e in omega arith),
        )
    by (Some Pulse) may (pulse p q) h z =
        rw (← agree-complete S D ps n some fits r t w i g a, ← (burst-aged D S cfg i b u x).0, clock-more, count-is cpc pcslr rp) (
          refl,
          line_at {v = 0} {w = t'.timed.wait} {t = t'.timed.tariff} {ps = ps} {n = n} {u = u'.burst} (omega arith) (omega arith) (agree-tick S D ps n some fits r t w i g a) (good-step S D ps n some fits t w g)
              (burst-aged D S cfg i b u x).1 (λ e. let l = q e in omega arith),
        )

    both : (told (front_at t'.slot may-start) ≡ tick_told i last b r pcslr rp (front_due i last b r)) ×
        After i last b r cpc pcslr rp (told (front_at t'.slot may-start)) (line_after (front_at t'.slot may-start))
    both =
        rw (
          agree-now S D ps n some fits r t w i g a,
          agree-room S D ps n r t'.timed.tariff t'.timed.wait (i + 1) (good-step S D ps n some fits t w g) (runs_on S D ps n some fits r t w i g a),
          ← ready-is,
        )
        (by t'.slot may-start (next-step S D ps n some fits t w g) (λ h. ((and-eq-true_iff (burst_ready S b (i + 1)) _).0 (sym ready-is ∙ h)).0) room-is)

  pub tick-at : {i : ℕ} {last : Last} {b : Started} {r : Running} {cpc pcslr : ℕ} {rp : Option ℕ} {l : Line} → At D S clock i last b r cpc pcslr rp l →
      ((tick_of l).tick ≡ tick_told i last b r pcslr rp (front_due i last b r)) × After i last b r cpc pcslr rp (tick_of l).tick (tick_of l).line
  unfolding tick_of moved_by
  tick-at {i} {last} {b} {r} {cpc} {pcslr} {rp} (line_at {v = v} {w = w} {t = t} {ps = ps} {n = n} {k = k} {u = u} e before a g x y) =
      both i last b r cpc pcslr rp t w ps n k u v e before a g x y
