-- What a call does to a line whose burst owes a pulse, in the numbers of the bound.
use mathlib.Core.Path.{◌≡◌, refl, sym, ap, ◌∙◌}
use mathlib.Core.Bool.{Bool, true, false, ◌&&◌, ◌||◌, and-false}
use Prim.Native.Nat.{ℕ, suc, ◌+◌, ◌-◌, ◌*◌, ◌%◌, ◌^◌, min, ◌≤◌}
use native.Mathlib.Omega.{arith}
use borrow.Author.Tests.{leb-false, eqb-false, ne_eqb, lt-ltb}
use lib.Dec.{leb, ltb, eqb}
use Rattle.answers.specs.declared.Front.{Front}
use Rattle.answers.specs.declared.Front.TheVariants.{Tariff as TariffFront, Burst as BurstFront}
use Rattle.tariff.specs.Tariffs.{room_of, is_endless}
use Rattle.steps.specs.Steps.{step_of}
use Rattle.tariff.specs.declared.Slot.{Slot}
use Rattle.tariff.specs.declared.Slot.TheVariants.{Empty, Pulse}
use Rattle.steps.specs.declared.Stepped.{Stepped}
use Rattle.descriptor.specs.Names.{Ruling}
use Rattle.std.specs.Prelude.{Ok, Err, None, Some, Option}
use Rattle.descriptor.specs.declared.TariffPart.TheVariants.{None as NoTariff, Keep as KeepTariff, Rate, Em, Phased}
use Rattle.descriptor.specs.declared.BurstPart.{BurstPart}
use Rattle.descriptor.specs.declared.BurstPart.TheVariants.{None as NoBurst, Keep as KeepBurst, Start}
use Rattle.descriptor.specs.declared.Hook.TheVariants.{Keep, Stop}
use Rattle.burst.specs.Bursts.{burst_with, is_running, held_more, completes_of, aged_of, any_due}
use Rattle.burst.specs.declared.Aged.{Aged}
use Rattle.state.specs.States.{count_by}
use Rattle.ticking.specs.Rules.{front_at}
use Rattle.ticking.specs.Moves.{since_front, burst_after, moved_by}
use Rattle.line.specs.Lines.{ask_of, hook_of, period_of, no_period_of, audit_of, tick_of, answered_by, tariff_changed, burst_changed, with_state, with_period}
use Rattle.line.specs.declared.Line.{Line}
use Rattle.line.specs.declared.Ticked.{Ticked}
use Rattle.grammar.specs.Meaning.{Reading, unreadable, senseless, descriptor}
use Rattle.demand.specs.Calls.{Call, describe, ask, hook, period, no_period, audit, tick, ticked, Entry, asks}
use Rattle.demand.specs.History.{granted, front_of}
use Rattle.demand.specs.Machine.{ruling_of, entry_for, Outcome, outcome, answered, step}
use Rattle.demand.specs.Demand.{is_fresh}
use Rattle.slots.proofs.Ahead.{next_of, Waits, Good}
use Rattle.slots.proofs.Agree.{Next, waits, empty, pulse}
use Rattle.slots.proofs.Tick.{good-step, next-step}
use Rattle.slots.proofs.Start.{next-rate}
use Rattle.slots.proofs.Room.{room_next}
use Rattle.demand.proofs.Coupled.{Config}
use Rattle.demand.proofs.Described.{described_by, describe-step, allowed-reading, unreadable-refused, senseless-refused}
use Rattle.demand.proofs.Taken.{starts_idle}
use Rattle.demand.proofs.Potential.{Blocked, slot-near, front-near, own-near}

-- a burst part none
abbrev pub is_none : BurstPart → ℕ
is_none b = elim b [ NoBurst ↦ 1 | KeepBurst ↦ 0 | Start n P ↦ 0 ]

-- the entry is of a tick, or of another call
abbrev pub IsTick : Entry → Type 0
IsTick e = (granted e).tick ≡ true

abbrev pub NoTick : Entry → Type 0
NoTick e = (granted e).tick ≡ false

-- from w, v and a burst that owes m + 1 pulses at distance g, with k ticks since its last front
pub data Effect (S w v m g k : ℕ) (e : Entry) (l : Line) : Type 0 where
  cancels : is_none (granted e).burst ≡ 1 → Effect S w v m g k e l
  stays : NoTick e → front_of e ≡ None → l.state.since ≡ w → next_of l.state.timed.tariff l.state.timed.wait ≡ v → l.state.burst ≡ Some (burst_with (suc m) g k) → Effect S w v m g k e l
  stops : NoTick e → front_of e ≡ None → l.state.since ≡ w → next_of l.state.timed.tariff l.state.timed.wait ≡ 0 → l.state.burst ≡ Some (burst_with (suc m) g k) → Effect S w v m g k e l
  begins : NoTick e → front_of e ≡ None → is_fresh (granted e).tariff ≡ 1 → l.state.since ≡ w → l.state.burst ≡ Some (burst_with (suc m) g k) → Effect S w v m g k e l
  waiting : IsTick e → front_of e ≡ None → (v ≡ 1 → ⊥) → Blocked S w g k v → l.state.since ≡ min S (w + 1) → next_of l.state.timed.tariff l.state.timed.wait ≡ v - 1 → l.state.burst ≡ Some (burst_with (suc m) g (min g (k + 1))) → Effect S w v m g k e l
  empty-due : IsTick e → front_of e ≡ None → v ≡ 1 → ((next_of l.state.timed.tariff l.state.timed.wait ≡ 0 → ⊥) → 2 * S ≤ next_of l.state.timed.tariff l.state.timed.wait) → l.state.since ≡ min S (w + 1) → l.state.burst ≡ Some (burst_with (suc m) g (min g (k + 1))) → Effect S w v m g k e l
  pulse-due : IsTick e → front_of e ≡ Some TariffFront → v ≡ 1 → ((next_of l.state.timed.tariff l.state.timed.wait ≡ 0 → ⊥) → 2 * S ≤ next_of l.state.timed.tariff l.state.timed.wait) → l.state.since ≡ 0 → l.state.burst ≡ Some (burst_with (suc m) g (min g (k + 1))) → Effect S w v m g k e l
  burst-due : IsTick e → front_of e ≡ Some BurstFront → l.state.since ≡ 0 → l.state.burst ≡ Some (burst_with m g 0) → Effect S w v m g k e l

-- ---- a tick
-- why no burst pulse starts
blocked-by : (S w g k v v' : ℕ) (a b c : Bool) → v' ≡ v - 1 → leb g (min g (k + 1)) ≡ a → leb S (min S (w + 1)) ≡ b → (eqb v' 0 || leb S v') ≡ c → (a && (b && c)) ≡ false → Blocked S w g k v
blocked-by S w g k v v' false b c e p q r h = own-near (let l = leb-false g (min g (k + 1)) p in omega arith)
blocked-by S w g k v v' true false c e p q r h = front-near (let l = leb-false S (min S (w + 1)) q in omega arith)
blocked-by S w g k v v' true true true e p q r h = absurd (let o : ◌≡◌ {A = ℕ} 0 1 = cc in omega arith)
blocked-by S w g k v v' true true false e p q r h = by (eqb v' 0) refl
  where
    by : (x : Bool) → eqb v' 0 ≡ x → Blocked S w g k v
    by true o = absurd (let f : true ≡ false = rw o at r in let z : ◌≡◌ {A = ℕ} 0 1 = cc in omega arith)
    by false o =
        let f = leb-false S v' (rw o at r) in
        let d = eqb-false v' 0 o in
        slot-near (omega (arith, d)) (omega arith)

-- the burst owes a pulse, so it is not complete
aged-is : (D m g k : ℕ) → aged_of D (Some (burst_with (suc m) g k)) ≡ record { burst = Some (burst_with (suc m) g (min g (k + 1))); complete = false }
unfolding aged_of completes_of
aged-is D m g k = rw (ne_eqb (suc m) 0 (λ z. omega arith), and-false (ltb 0 g))

module _ (l : Line) (cfg : Config l.pulse l.spacing) (good : Good l.spacing l.schedule.phases l.schedule.count l.state.timed.tariff l.state.timed.wait) (m g k : ℕ) (owing : l.state.burst ≡ Some (burst_with (suc m) g k)) (wide : l.spacing ≤ g) where
  abbrev pub S : ℕ
  S = l.spacing

  some : 1 ≤ S
  some = omega arith

  fits : Waits l.pulse
  fits = record { some = omega arith; most = omega arith }

  module _ (c : Call) (ticking : (asks c).tick ≡ true) where
    abbrev t' : Stepped
    t' = step_of l.pulse l.schedule l.state.timed

    abbrev u' : Aged
    u' = record { burst = Some (burst_with (suc m) g (min g (k + 1))); complete = false }

    abbrev may-start : Bool
    may-start = any_due u'.burst && (leb S (min S (l.state.since + 1)) && room_of S t'.timed)

    -- a tick whose burst is x one tick on, with this front or none
    abbrev tick_with : Aged → Option Front → Ticked
    tick_with x f =
        let n = count_by f l.state.counters in
        record {
          line =
              with_state l
              (record {
                timed = t'.timed;
                clock = (l.state.clock + 1) % 2 ^ 32;
                since = since_front f (held_more S l.state.since);
                burst = burst_after f x.burst;
                counters = n.counters;
              });
          tick = record { tariff = t'.complete; burst = x.complete; front = f; report = n.report };
        }

    abbrev front_with : Aged → Option Front
    front_with x = front_at t'.slot (any_due x.burst && (leb S (held_more S l.state.since) && room_of S t'.timed))

    abbrev TickEffect : Ticked → Type 0
    TickEffect x = Effect S l.state.since (next_of l.state.timed.tariff l.state.timed.wait) m g k (entry_for c (ticked x.tick) x.line) x.line

    blocked : may-start ≡ false → next_of t'.timed.tariff t'.timed.wait ≡ next_of l.state.timed.tariff l.state.timed.wait - 1 → Blocked S l.state.since g k (next_of l.state.timed.tariff l.state.timed.wait)
    blocked h e =
        blocked-by S l.state.since g k (next_of l.state.timed.tariff l.state.timed.wait) (next_of t'.timed.tariff t'.timed.wait) _ _ _ e refl refl
        (sym (room_next S l.schedule.phases l.schedule.count t'.timed.tariff t'.timed.wait (good-step S l.pulse l.schedule.phases l.schedule.count some fits l.state.timed.tariff l.state.timed.wait good))) (rw (lt-ltb 0 (suc m) (omega arith)) at h)

    by : (s : Option Slot) (may : Bool) → may-start ≡ may → Next S (next_of l.state.timed.tariff l.state.timed.wait) (next_of t'.timed.tariff t'.timed.wait) s → TickEffect (tick_with u' (front_at s may))
    unfolding since_front burst_after
    by None false h (waits p q) = waiting ticking refl p (blocked h q) refl q refl
    by None true h (waits p q) = burst-due ticking refl refl (ap (λ (x : ℕ). Some (burst_with x g 0)) (omega arith))
    by (Some Empty) may h (empty p q) = empty-due ticking refl p q refl refl
    by (Some Pulse) may h (pulse p q) = pulse-due ticking refl p q refl refl

    with-aged : (x : Aged) → x ≡ u' → TickEffect (tick_with x (front_with x))
    with-aged x e = rw e (by t'.slot may-start refl (next-step S l.pulse l.schedule.phases l.schedule.count some fits l.state.timed.tariff l.state.timed.wait good))

    tick-effect : TickEffect (tick_of l)
    unfolding tick_of moved_by
    tick-effect = with-aged (aged_of l.pulse l.state.burst) (ap (aged_of l.pulse) owing ∙ aged-is l.pulse m g k)

  -- ---- the other calls
  abbrev pub EffectOf : Call → Outcome → Type 0
  EffectOf c (outcome a l') = Effect S l.state.since (next_of l.state.timed.tariff l.state.timed.wait) m g k (entry_for c a l') l'

  changed : (k' : Option ℕ) (d : Reading) (u : Ruling) → ruling_of l (describe k' d) ≡ u → EffectOf (describe k' d) (answered (described_by u d l))
  unfolding tariff_changed burst_changed
  changed k' d (Err r) e = stays refl refl refl refl owing
  changed k' unreadable (Ok tt) e = absurd (unreadable-refused S (is_endless l.state.timed.tariff) (is_running l.state.burst) l.serial k' e)
  changed k' senseless (Ok tt) e = absurd (senseless-refused S (is_endless l.state.timed.tariff) (is_running l.state.burst) l.serial k' e)
  changed k' (descriptor t ls NoBurst) (Ok tt) e = cancels refl
  changed k' (descriptor t ls (Start n P)) (Ok tt) e =
      let endless : Bool = is_endless l.state.timed.tariff in
      let runs : Bool = is_running l.state.burst in
      absurd (let running : runs ≡ true = rw owing (lt-ltb 0 g (omega arith)) in let idle = starts_idle S endless runs t ls n P (allowed-reading S endless runs l.serial k' (descriptor t ls (Start n P)) e) in let o : ◌≡◌ {A = ℕ} 0 1 = cc in omega arith)
  changed k' (descriptor NoTariff ls KeepBurst) (Ok tt) e = stops refl refl refl refl owing
  changed k' (descriptor KeepTariff ls KeepBurst) (Ok tt) e = stays refl refl refl refl owing
  changed k' (descriptor (Rate P) ls KeepBurst) (Ok tt) e = stays refl refl refl (next-rate P l.state.timed.tariff l.state.timed.wait) owing
  changed k' (descriptor (Em m) ls KeepBurst) (Ok tt) e = begins refl refl refl refl owing
  changed k' (descriptor Phased ls KeepBurst) (Ok tt) e = begins refl refl refl refl owing

  ruled : (n : ℕ) (u : Ruling) → EffectOf (period n) (answered (answered_by u l (with_period l (Some n)) 0))
  ruled n (Ok tt) = stays refl refl refl refl owing
  ruled n (Err r) = stays refl refl refl refl owing

  pub effect : (c : Call) → EffectOf c (step l c)
  unfolding step ask_of hook_of period_of no_period_of audit_of
  effect (describe k' d) = rw (describe-step l k' d) (changed k' d (ruling_of l (describe k' d)) refl)
  effect (ask d) = stays refl refl refl refl owing
  effect (hook Keep) = stays refl refl refl refl owing
  effect (hook Stop) = cancels refl
  effect (period n) = ruled n (ruling_of l (period n))
  effect no_period = stays refl refl refl refl owing
  effect audit = stays refl refl refl refl owing
  effect tick = tick-effect tick refl
