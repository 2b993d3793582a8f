-- The fields of a line that commands can produce stay within their bounds, however many ticks there are. A tariff's own
-- bounds are `Good` of the crate tariff, which the coupling carries.
use mathlib.Core.Path.{◌≡◌, refl}
use mathlib.Core.Bool.{Bool, not, ◌&&◌, and-eq-true_iff}
use mathlib.Core.List.{List}
use Prim.Native.Nat.{ℕ, ◌^◌, ◌≤◌, ◌<◌}
use native.Mathlib.Omega.{arith}
use borrow.Author.Tests.{leb-true, not-false}
use borrow.Table.Steps.{cases}
use lib.Dec.{leb}
use Rattle.answers.specs.declared.Front.{Front}
use Rattle.answers.specs.declared.Front.TheVariants.{Tariff as TariffFront, Burst as BurstFront}
use Rattle.tariff.specs.Ranges.{within}
use Rattle.tariff.specs.Tariffs.{room_of, is_endless}
use Rattle.steps.specs.Steps.{step_of}
use Rattle.tariff.specs.declared.Phase.{Phase}
use Rattle.steps.specs.declared.Stepped.{Stepped}
use Rattle.phase_lists.specs.Lists.{phases_of}
use Rattle.descriptor.specs.Refusals.{ruling, sound_burst, tariff_causes, burst_causes}
use Rattle.descriptor.specs.declared.TariffPart.{TariffPart}
use Rattle.descriptor.specs.declared.TariffPart.TheVariants.{None as NoTariff, Keep as KeepTariff, Rate, Em, Phased}
use Rattle.descriptor.specs.declared.BurstPart.{BurstPart}
use Rattle.descriptor.specs.declared.BurstPart.TheVariants.{None as NoBurst, Keep as KeepBurst, Start}
use Rattle.descriptor.specs.Names.{Ruling}
use Rattle.std.specs.Prelude.{Ok, Err, None, Some, Option, IfSome}
use Rattle.descriptor.specs.declared.Hook.TheVariants.{Keep, Stop}
use Rattle.burst.specs.Bursts.{no_burst, is_running, held_more, completes_of, aged_of, any_due}
use Rattle.burst.specs.declared.Burst.{Burst}
use Rattle.burst.specs.declared.Aged.{Aged}
use Rattle.state.specs.Rules.{one_more, report_due}
use Rattle.state.specs.States.{count_of, count_by}
use Rattle.state.specs.declared.Counters.{Counters}
use Rattle.state.specs.declared.State.{State}
use Rattle.ticking.specs.Rules.{front_at}
use Rattle.ticking.specs.Moves.{since_front, burst_after, moved_by}
use Rattle.line.specs.Lines.{fresh_line, with_serial, ask_of, hook_of, period_of, no_period_of, audit_of, answered_by, scheduled, tariff_changed, burst_changed, with_period, tick_of}
use Rattle.line.specs.declared.Line.{Line}
use Rattle.grammar.specs.Meaning.{Reading, unreadable, senseless, descriptor}
use Rattle.demand.specs.Calls.{Call, describe, ask, hook, period, no_period, audit, tick, Entry}
use Rattle.demand.specs.Machine.{ruling_of, Outcome, outcome, answered, step}
use Rattle.descriptor.proofs.Causes.{none_first, none_after}
use Rattle.demand.proofs.Described.{described_by, describe-step, allowed-reading}
use Rattle.demand.proofs.Coupled.{Config}
use Rattle.demand.proofs.Run.{Run, begin, more}

pub record BurstBounded (b : Burst) : Type 0 where
  pub owed : b.owed ≤ 65535
  pub distance : b.distance ≤ 60000
  pub since : b.since ≤ b.distance

pub record CountersBounded (n : Counters) : Type 0 where
  pub cpc : n.cpc ≤ 4294967295
  pub pcslr : n.pcslr ≤ 4294967295

pub record StateBounded (S : ℕ) (s : State) : Type 0 where
  pub clock : s.clock < 2 ^ 32
  pub since : s.since ≤ S
  pub burst : IfSome s.burst BurstBounded
  pub counters : CountersBounded s.counters

pub record Bounded (l : Line) : Type 0 where
  pub spacing : l.spacing ≤ 1000
  pub serial : l.serial ≤ 4294967295
  pub state : StateBounded l.spacing l.state

no-burst : IfSome no_burst BurstBounded
no-burst = tt

-- ---- commands
tariff-bounded : (t : TariffPart) (ps : List Phase) (l : Line) → Bounded l → Bounded (tariff_changed t (scheduled ps) l)
unfolding tariff_changed
tariff-bounded NoTariff ps l x = record { spacing = x.spacing; serial = x.serial; state = record { clock = x.state.clock; since = x.state.since; burst = x.state.burst; counters = x.state.counters } }
tariff-bounded KeepTariff ps l x = x
tariff-bounded (Rate P) ps l x = record { spacing = x.spacing; serial = x.serial; state = record { clock = x.state.clock; since = x.state.since; burst = x.state.burst; counters = x.state.counters } }
tariff-bounded (Em m) ps l x =
    record { spacing = x.spacing; serial = x.serial; state = record { clock = x.state.clock; since = x.state.since; burst = x.state.burst; counters = record { cpc = omega arith; pcslr = omega arith } } }
tariff-bounded Phased ps l x = record { spacing = x.spacing; serial = x.serial; state = record { clock = x.state.clock; since = x.state.since; burst = x.state.burst; counters = x.state.counters } }

-- a start that is allowed is within its ends
abbrev Allows : BurstPart → Type 0
Allows NoBurst = Unit {0}
Allows KeepBurst = Unit {0}
Allows (Start n P) = (n ≤ 65535) × (P ≤ 60000)

allows : (S : ℕ) (e b : Bool) (p : BurstPart) → ruling (burst_causes S e b p) ≡ Ok tt → Allows p
allows S e b NoBurst h = tt
allows S e b KeepBurst h = tt
allows S e b (Start n P) h =
    let sound = (and-eq-true_iff (within 1 65535 n) (within 1 60000 P)).0 (not-false (sound_burst n P) (none_first _ (not (sound_burst n P)) _ h).0) in
    (leb-true n 65535 ((and-eq-true_iff (leb 1 n) _).0 sound.0).1, leb-true P 60000 ((and-eq-true_iff (leb 1 P) _).0 sound.1).1)

burst-bounded : (p : BurstPart) (l : Line) → Allows p → Bounded l → Bounded (burst_changed p l)
unfolding burst_changed
burst-bounded NoBurst l h x = record { spacing = x.spacing; serial = x.serial; state = record { clock = x.state.clock; since = x.state.since; burst = no-burst; counters = x.state.counters } }
burst-bounded KeepBurst l h x = x
burst-bounded (Start n P) l h x =
    record {
      spacing = x.spacing;
      serial = x.serial;
      state =
          record {
            clock = x.state.clock;
            since = x.state.since;
            burst = record { owed = h.0; distance = omega (arith, h.1, x.spacing); since = omega arith };
            counters = x.state.counters;
          };
    }

abbrev OutcomeBounded : Outcome → Type 0
OutcomeBounded (outcome a l) = Bounded l

-- an accepted command leaves the serial held
accepted-bounded : (l : Line) → Bounded l → Bounded (with_serial l (one_more l.serial))
accepted-bounded l x = record { spacing = x.spacing; serial = omega arith; state = x.state }

described : (k : Option ℕ) (d : Reading) (l : Line) (u : Ruling) → ruling_of l (describe k d) ≡ u → Bounded l → OutcomeBounded (answered (described_by u d l))
described k d l (Err r) e x = x
described k unreadable l (Ok tt) e x = accepted-bounded l x
described k senseless l (Ok tt) e x = accepted-bounded l x
described k (descriptor t ls p) l (Ok tt) e x =
    let endless : Bool = is_endless l.state.timed.tariff in
    let running : Bool = is_running l.state.burst in
    let own = allowed-reading l.spacing endless running l.serial k (descriptor t ls p) e in
    let free = none_after (tariff_causes l.spacing endless running t ls) (burst_causes l.spacing endless running p) own in
    accepted-bounded _ (burst-bounded p (tariff_changed t (scheduled (phases_of ls)) l) (allows l.spacing endless running p free.1) (tariff-bounded t (phases_of ls) l x))

ruled : (rp : Option ℕ) (l : Line) (u : Ruling) → Bounded l → OutcomeBounded (answered (answered_by u l (with_period l rp) 0))
ruled rp l (Ok tt) x =
    accepted-bounded (with_period l rp)
    (record {
      spacing = x.spacing;
      serial = x.serial;
      state =
          record {
            clock = x.state.clock;
            since = x.state.since;
            burst = x.state.burst;
            counters = record { cpc = x.state.counters.cpc; pcslr = x.state.counters.pcslr };
          };
    })
ruled rp l (Err r) x = x

-- ---- a tick
aged-bounded : (D : ℕ) (b : Option Burst) → IfSome b BurstBounded → IfSome (aged_of D b).burst BurstBounded
unfolding aged_of
aged-bounded D None x = no-burst
aged-bounded D (Some b) x =
    cases (completes_of D b) (λ e. rw e no-burst) (λ e. rw e (record { owed = x.owed; distance = x.distance; since = omega arith }))

after-bounded : (f : Option Front) (b : Option Burst) → IfSome b BurstBounded → IfSome (burst_after f b) BurstBounded
unfolding burst_after
after-bounded None b x = x
after-bounded (Some TariffFront) b x = x
after-bounded (Some BurstFront) None x = x
after-bounded (Some BurstFront) (Some b) x = record { owed = omega (arith, x.owed); distance = x.distance; since = omega arith }

pub since-bounded : (S since : ℕ) (f : Option Front) → since ≤ S → since_front f since ≤ S
unfolding since_front
since-bounded S since None l = l
since-bounded S since (Some TariffFront) l = omega arith
since-bounded S since (Some BurstFront) l = omega arith

count-bounded : (n : Counters) → CountersBounded (count_of n).counters
unfolding count_of
count-bounded n =
    cases (report_due n.rp (one_more n.pcslr)) (λ e. rw e (record { cpc = omega arith; pcslr = omega arith })) (λ e. rw e (record { cpc = omega arith; pcslr = omega arith }))

counted-bounded : (f : Option Front) (n : Counters) → CountersBounded n → CountersBounded (count_by f n).counters
unfolding count_by
counted-bounded None n x = x
counted-bounded (Some TariffFront) n x = count-bounded n
counted-bounded (Some BurstFront) n x = count-bounded n

tick-bounded : (l : Line) → Bounded l → Bounded (tick_of l).line
unfolding tick_of moved_by
tick-bounded l x =
    let s = l.state in
    let t : Stepped = step_of l.pulse l.schedule s.timed in
    let b : Aged = aged_of l.pulse s.burst in
    let since : ℕ = held_more l.spacing s.since in
    let f : Option Front = front_at t.slot (any_due b.burst && (leb l.spacing since && room_of l.spacing t.timed)) in
    record {
      spacing = x.spacing;
      serial = x.serial;
      state =
          record {
            clock = omega arith;
            since = since-bounded l.spacing since f (omega arith);
            burst = after-bounded f b.burst (aged-bounded l.pulse s.burst x.state.burst);
            counters = counted-bounded f s.counters x.state.counters;
          };
    }

-- ---- every call
step-bounded : (l : Line) → Bounded l → (c : Call) → OutcomeBounded (step l c)
unfolding step ask_of hook_of period_of no_period_of audit_of
step-bounded l x (describe k d) = rw (describe-step l k d) (described k d l (ruling_of l (describe k d)) refl x)
step-bounded l x (ask d) = x
step-bounded l x (hook Keep) = accepted-bounded l x
step-bounded l x (hook Stop) = accepted-bounded _ (record { spacing = x.spacing; serial = x.serial; state = record { clock = x.state.clock; since = x.state.since; burst = no-burst; counters = x.state.counters } })
step-bounded l x (period n) = ruled (Some n) l (ruling_of l (period n)) x
step-bounded l x no_period = ruled None l (Ok tt) x
step-bounded l x audit = x
step-bounded l x tick = tick-bounded l x

module _ (D S clock : ℕ) (cfg : Config D S) (small : clock < 2 ^ 32) where
  bounded-outcome : (o o' : Outcome) → o ≡ o' → OutcomeBounded o → OutcomeBounded o'
  bounded-outcome o o' e x = rw e at x

  pub bounded : {h : List Entry} {l : Line} → Run D S clock cfg h l → Bounded l
  unfolding fresh_line
  bounded begin =
      record { spacing = cfg.most; serial = omega arith; state = record { clock = small; since = omega arith; burst = no-burst; counters = record { cpc = omega arith; pcslr = omega arith } } }
  bounded (more {l = l} {l' = l'} {c = c} {a = a} r e) = bounded-outcome (step l c) (outcome a l') e (step-bounded l (bounded r) c)
