-- The line of a refused configuration begins no pulse in its first 4,294,967,294 ticks, whatever it is told.
use Rattle.std.specs.Prelude.{None, Some, Option}
use mathlib.Core.Path.{◌≡◌, refl}
use mathlib.Core.Bool.{Bool, true, false, not, and-eq-true_iff, and-false}
use mathlib.Core.List.{List, [], ◌∷◌}
use Prim.Native.Nat.{ℕ, zero, suc, ◌+◌, ◌*◌, ◌≤◌, ◌<◌}
use native.Mathlib.Nat.{div-le_self}
use native.Mathlib.Omega.{arith}
use borrow.Author.Tests.{leb-true, lt-leb, not-false}
use lib.Dec.{leb}
use lib.ListN.{length}
use Rattle.answers.specs.Fronts.{is_front}
use Rattle.tariff.specs.Ranges.{within}
use Rattle.rules.specs.Rules.{distance_of, sound_em, sound_numbers, sound_phase, sound_phases}
use Rattle.tariff.specs.Tariffs.{rate_of, is_endless}
use Rattle.steps.specs.Steps.{due_of, step_of}
use Rattle.tariff.specs.declared.Tariff.TheVariants.{Idle}
use Rattle.phase_lists.specs.Lists.{Lists, phases_of, sound_lists}
use Rattle.descriptor.specs.Refusals.{ruling, sound_configuration, tariff_causes, burst_causes}
use Rattle.burst.specs.Bursts.{is_running, held_more, aged_of, any_due}
use Rattle.ticking.specs.Moves.{moved_by}
use Rattle.line.specs.Lines.{blank_line, make_of, made_or_blank, with_serial, ask_of, hook_of, period_of, no_period_of, audit_of, answered_by, scheduled, tariff_changed, burst_changed, with_period, move_of, tick_of}
use Rattle.line.specs.declared.Line.{Line}
use Rattle.grammar.specs.Meaning.{Reading, unreadable, senseless, descriptor}
use Rattle.demand.specs.Names.{Phase, TariffPart, NoTariff, KeepTariff, Rate, Em, Phased, BurstPart, NoBurst, KeepBurst, Start, KeepHook, Stop, Ruling, Ok, Err}
use Rattle.demand.specs.Calls.{Call, describe, ask, hook, period, no_period, audit, tick, Entry}
use Rattle.demand.specs.History.{front_of, sum, ticks}
use Rattle.demand.specs.Machine.{ruling_of, answered, step, Past, past, noted, after_calls, entries, history}
use Rattle.phase_lists.proofs.PhaseTables.{phases-length, lists_length}
use Rattle.descriptor.proofs.Causes.{none_first, none_after}
use Rattle.demand.proofs.Described.{described_by, describe-step, allowed-reading, unreadable-refused, senseless-refused}
use Rattle.demand.proofs.Bounds.{since-bounded}

-- a line of the largest spacing, with no tariff, at most i ticks after a front
pub record Quiet (i : ℕ) (l : Line) : Type 0 where
  pub spacing : l.spacing ≡ 4294967295
  pub tariff : l.state.timed.tariff ≡ Idle
  pub wait : l.state.timed.wait ≡ 0
  pub since : l.state.since ≤ i

-- the distance of an em's slots is at most its period
distance_le : (C P : ℕ) → distance_of C P ≤ P
unfolding distance_of
distance_le zero P = omega arith
distance_le (suc c) P = div-le_self P (suc c)

-- an em is sound only on a line of a small spacing
em-small : (S C P : ℕ) → sound_em S C P ≡ true → 2 * S ≤ 86400000
unfolding sound_em
em-small S C P h =
    let rest = (and-eq-true_iff (leb P 86400000) (leb (2 * S) (distance_of C P))).0 ((and-eq-true_iff (leb C 65535) _).0 h).1 in
    omega (arith, leb-true P 86400000 rest.0, leb-true (2 * S) (distance_of C P) rest.1, distance_le C P)

-- and so are phases, where there are any
phases-small : (S : ℕ) (ps : List Phase) → 1 ≤ length ps → sound_phases S ps ≡ true → 2 * S ≤ 86400000
unfolding sound_phases sound_phase
phases-small S [] some h = absurd (omega arith)
phases-small S (p ∷ ps) some h =
    let numbers = ((and-eq-true_iff (sound_numbers S p) _).0 ((and-eq-true_iff (sound_phase S p) _).0 h).0).0 in
    let pri = (and-eq-true_iff (leb (2 * S) p.pri) (leb p.pri 86400000)).0 ((and-eq-true_iff (within (2 * S) 86400000 p.pri) _).0 numbers).0 in
    omega (arith, leb-true (2 * S) p.pri pri.0, leb-true p.pri 86400000 pri.1)

module _ (i : ℕ) where
  -- ---- commands
  tariff-quiet : (e b : Bool) (t : TariffPart) (ls : Lists) (l : Line) → ruling (tariff_causes l.spacing e b t ls) ≡ Ok tt → Quiet i l → Quiet i (tariff_changed t (scheduled (phases_of ls)) l)
  unfolding tariff_changed rate_of
  tariff-quiet e b NoTariff ls l h x = record { spacing = x.spacing; tariff = refl; wait = refl; since = x.since }
  tariff-quiet e b KeepTariff ls l h x = x
  tariff-quiet e b (Rate P) ls l h x = record { spacing = x.spacing; tariff = rw x.tariff; wait = x.wait; since = x.since }
  tariff-quiet e b (Em m) ls l h x =
      let S : ℕ = l.spacing in
      let C = m.count in
      let P = m.period in
      absurd (omega (arith, x.spacing, em-small S C P (not-false (sound_em S C P) (none_first _ (not (sound_em S C P)) _ h).0)))
  tariff-quiet e b Phased ls l h x =
      let S : ℕ = l.spacing in
      let first = none_first _ (not (sound_lists ls)) _ h in
      let some = (lists_length ls (not-false (sound_lists ls) first.0)).0 in
      let size = phases-length ls (length ls.pri) in
      let sound = not-false (sound_phases S (phases_of ls)) (none_first _ (not (sound_phases S (phases_of ls))) _ first.1).0 in
      absurd (omega (arith, x.spacing, phases-small S (phases_of ls) (omega (arith, some, size)) sound))

  burst-quiet : (p : BurstPart) (l : Line) → Quiet i l → Quiet i (burst_changed p l)
  unfolding burst_changed
  burst-quiet NoBurst l x = record { spacing = x.spacing; tariff = x.tariff; wait = x.wait; since = x.since }
  burst-quiet KeepBurst l x = x
  burst-quiet (Start n P) l x = record { spacing = x.spacing; tariff = x.tariff; wait = x.wait; since = x.since }

  with-serial : {n : ℕ} (l : Line) → Quiet i l → Quiet i (with_serial l n)
  with-serial l x = record { spacing = x.spacing; tariff = x.tariff; wait = x.wait; since = x.since }

  -- ---- a tick
  front-due : (l : Line) → Quiet i l → i + 1 < 4294967295 → (move_of l).tick.front ≡ None
  unfolding moved_by step_of due_of
  front-due l x early =
      rw (x.tariff, x.wait, lt-leb l.spacing (held_more l.spacing l.state.since) (omega (arith, x.spacing, x.since, early)), and-false (any_due (aged_of l.pulse l.state.burst).burst))

  tick-quiet : (l : Line) → Quiet i l → Quiet (i + 1) (tick_of l).line
  unfolding tick_of moved_by step_of due_of
  tick-quiet l x =
      record { spacing = x.spacing; tariff = rw (x.tariff, x.wait); wait = rw (x.tariff, x.wait); since = since-bounded (i + 1) (held_more l.spacing l.state.since) _ (omega (arith, x.since)) }

-- ---- every list of calls
abbrev pub fronts : List Entry → ℕ
fronts h = sum (λ e. is_front (front_of e)) h

abbrev QuietPast : Past → Type 0
QuietPast (past h l) = ticks h < 4294967295 → Quiet (ticks h) l × (fronts h ≡ 0)

module _ (h : List Entry) (l : Line) (x : QuietPast (past h l)) where
  described : (k : Option ℕ) (d : Reading) (u : Ruling) → ruling_of l (describe k d) ≡ u → QuietPast (noted h (describe k d) (answered (described_by u d l)))
  unfolding ticks sum
  described k d (Err r) e = λ early. ((x early).0, omega (arith, (x early).1))
  described k unreadable (Ok tt) e = absurd (unreadable-refused l.spacing (is_endless l.state.timed.tariff) (is_running l.state.burst) l.serial k e)
  described k senseless (Ok tt) e = absurd (senseless-refused l.spacing (is_endless l.state.timed.tariff) (is_running l.state.burst) l.serial k e)
  described k (descriptor t ls p) (Ok tt) e = λ early.
      let endless : Bool = is_endless l.state.timed.tariff in
      let running : Bool = is_running l.state.burst in
      let own = allowed-reading l.spacing endless running l.serial k (descriptor t ls p) e in
      let free = (none_after (tariff_causes l.spacing endless running t ls) (burst_causes l.spacing endless running p) own).0 in
      (with-serial (ticks h) _ (burst-quiet (ticks h) p (tariff_changed t (scheduled (phases_of ls)) l) (tariff-quiet (ticks h) endless running t ls l free (x early).0)), omega (arith, (x early).1))

  ruled : (n : ℕ) (rp : Option ℕ) (u : Ruling) → QuietPast (noted h (period n) (answered (answered_by u l (with_period l rp) 0)))
  unfolding ticks sum
  ruled n rp (Err r) = λ early. ((x early).0, omega (arith, (x early).1))
  ruled n rp (Ok tt) = λ early.
      let y = (x early).0 in
      (record { spacing = y.spacing; tariff = y.tariff; wait = y.wait; since = y.since }, omega (arith, (x early).1))

  call-quiet : (c : Call) → QuietPast (noted h c (step l c))
  unfolding ticks sum step ask_of hook_of period_of no_period_of audit_of tick_of
  call-quiet (describe k d) = rw (describe-step l k d) (described k d (ruling_of l (describe k d)) refl)
  call-quiet (ask d) = λ early. ((x early).0, omega (arith, (x early).1))
  call-quiet (hook KeepHook) = λ early. (with-serial (ticks h) l (x early).0, omega (arith, (x early).1))
  call-quiet (hook Stop) = λ early. (record { spacing = (x early).0.spacing; tariff = refl; wait = refl; since = (x early).0.since }, omega (arith, (x early).1))
  call-quiet (period n) = ruled n (Some n) (ruling_of l (period n))
  call-quiet no_period = ruled 0 None (Ok tt)
  call-quiet audit = λ early. ((x early).0, omega (arith, (x early).1))
  call-quiet tick = λ early.
      let y = x (omega arith) in
      (tick-quiet (ticks h) l y.0, rw (front-due (ticks h) l y.0 (omega arith)) (omega (arith, y.1)))

calls-quiet : (p : Past) (cs : List Call) → QuietPast p → QuietPast (after_calls p cs)
unfolding after_calls
calls-quiet p [] x = x
calls-quiet (past h l) (c ∷ cs) x = calls-quiet (noted h c (step l c)) cs (call-quiet h l x c)

fronts-none : (p : Past) → QuietPast p → ticks (entries p) < 4294967295 → fronts (entries p) ≡ 0
fronts-none (past h l) x early = (x early).1

blank-quiet : Quiet 0 blank_line
unfolding blank_line
blank-quiet = record { spacing = refl; tariff = refl; wait = refl; since = omega arith }

pub blank-silent : (D G clock : ℕ) (cs : List Call) → sound_configuration D G ≡ false → ticks (history D G clock cs) < 4294967295 → fronts (history D G clock cs) ≡ 0
unfolding history make_of ticks sum
blank-silent D G clock cs refused early =
    fronts-none (after_calls (past [] (made_or_blank (make_of D G clock))) cs) (calls-quiet (past [] (made_or_blank (make_of D G clock))) cs (rw refused (λ e. (blank-quiet, refl)))) early
