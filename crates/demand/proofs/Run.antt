-- A history with the line after it, call by call, and the coupling at each.
use mathlib.Core.Path.{◌≡◌, refl, ap, ◌∙◌}
use mathlib.Core.Bool.{Bool, true}
use mathlib.Core.List.{List, [], ◌∷◌, ◌++◌}
use Prim.Native.Nat.{ℕ, ◌+◌, ◌%◌, ◌^◌, ◌<◌}
use native.Mathlib.Omega.{arith}
use Rattle.tariff.specs.declared.Tariff.TheVariants.{Idle}
use Rattle.slots.specs.Slots.{nothing, runs_endless}
use Rattle.phase_lists.specs.Lists.{phases_of}
use Rattle.phase_lists.specs.Tables.{no_phases}
use Rattle.descriptor.specs.Refusals.{ruling}
use Rattle.descriptor.specs.Names.{Ruling}
use Rattle.std.specs.Prelude.{Ok, Err, None, Some, Option}
use Rattle.descriptor.specs.declared.TariffPart.TheVariants.{None as NoTariff}
use Rattle.descriptor.specs.declared.BurstPart.TheVariants.{None as NoBurst}
use Rattle.descriptor.specs.declared.Hook.TheVariants.{Keep, Stop}
use Rattle.descriptor.specs.Cancelled.{cancelled_by}
use Rattle.line.specs.Lines.{fresh_line, hook_of, period_of, no_period_of, audit_of, ask_of, tick_of, on_of, answered_by, tariff_changed, burst_changed, with_period, idle_line}
use Rattle.line.specs.declared.Line.{Line}
use Rattle.grammar.specs.Meaning.{Reading, unreadable, senseless, descriptor}
use Rattle.demand.specs.Calls.{Call, describe, ask, hook, period, no_period, audit, tick, Answer, accepted, asked, counters, ticked, Entry}
use Rattle.demand.specs.History.{sum, ticks, last_front, burst_in, owed, burst_runs, running, fronts_since_em, since_report, period_in, pulse_on, never, idle}
use Rattle.demand.specs.Serials.{changes, serial_in}
use Rattle.demand.specs.Answers.{ruling_after, answer_after}
use Rattle.demand.specs.Machine.{ruling_of, entry_for, Outcome, outcome, answered, step, Past, past, noted, after_calls, entries, line_after}
use Rattle.slots.proofs.Fresh.{agree-idle}
use Rattle.slots.proofs.Rate.{rate-runs}
use Rattle.demand.proofs.Held.{held_on}
use Rattle.demand.proofs.Described.{described_by, describe-step, allowed-reading, unreadable-refused, senseless-refused}
use Rattle.demand.proofs.Serials.{serial_by, serial-held, serial-after}
use Rattle.demand.proofs.Counters.{total, counted-held, zeroed_held}
use Rattle.demand.proofs.Coupled.{none, Config, At, line_at, with-total, serial-at, Coupled}
use Rattle.burst.specs.Bursts.{burst_owed}
use Rattle.demand.proofs.Bursts.{owed-is, runs-is}
use Rattle.demand.proofs.Commands.{tariff-at, burst-at, period-at}
use Rattle.demand.proofs.Taken.{taken}
use Rattle.demand.proofs.Ticks.{tick-at}
use Rattle.demand.proofs.AnswerKinds.{ruled}

module _ (D S clock : ℕ) (cfg : Config D S) where
  -- what is read off a coupled line
  module _ (h : List Entry) where
    pub rulings_agree : {l : Line} → Coupled D S clock h l → l.serial ≡ serial_in h → (c : Call) → ruling_of l c ≡ ruling_after D S h c
    rulings_agree (line_at {w = w} {t = t} {ps = ps} {n = n} {u = u} e before a g x y) s c =
        rw (rate-runs D ps n (running D S h) t w (ticks h) a, ← runs-is D S cfg (ticks h) (burst_in h) u x, s)

    owed-agrees : {l : Line} → Coupled D S clock h l → burst_owed l.state.burst ≡ owed h
    owed-agrees (line_at {u = u} e before a g x y) = owed-is D S cfg (ticks h) (burst_in h) u x

    counters-agree : {l : Line} → Coupled D S clock h l → counters l.state.counters.cpc l.state.counters.pcslr ≡ counters (total h) (since_report h)
    counters-agree (line_at e before a g x y) = refl

    pub clock-agrees : {l : Line} → Coupled D S clock h l → l.state.clock ≡ (clock + ticks h) % 2 ^ 32
    clock-agrees (line_at e before a g x y) = refl

    pub on_agrees : {l : Line} → Coupled D S clock h l → on_of l ≡ pulse_on D (last_front h) (ticks h)
    unfolding on_of
    on_agrees (line_at e before a g x y) = rw e (held_on S (ticks h) D (omega arith) (last_front h) before)

  -- a call's answer is the paper's, and the line after it is coupled
  abbrev pub Right : List Entry → Call → Outcome → Type 0
  Right h c (outcome a l) = (a ≡ answer_after D S h c) × Coupled D S clock (entry_for c a l ∷ h) l

  module _ (h : List Entry) {l : Line} (x : Coupled D S clock h l) (s : l.serial ≡ serial_in h) where
    describe-right : (k : Option ℕ) (d : Reading) (u : Ruling) → ruling_after D S h (describe k d) ≡ u → Right h (describe k d) (answered (described_by u d l))
    unfolding answer_after ticks last_front burst_in running fronts_since_em since_report period_in
    describe-right k unreadable (Ok tt) e = absurd (unreadable-refused S (runs_endless (running D S h)) (burst_runs D (burst_in h) (ticks h)) (serial_in h) k e)
    describe-right k senseless (Ok tt) e = absurd (senseless-refused S (runs_endless (running D S h)) (burst_runs D (burst_in h) (ticks h)) (serial_in h) k e)
    describe-right k (descriptor t ls b) (Ok tt) e =
        let endless : Bool = runs_endless (running D S h) in
        let runs : Bool = burst_runs D (burst_in h) (ticks h) in
        let both = taken S endless runs t ls b (running D S h) refl (allowed-reading S endless runs (serial_in h) k (descriptor t ls b) e) in
        (ap (λ (n : ℕ). accepted (cancelled_by b n)) (owed-agrees h x) ∙ ruled D S h (describe k (descriptor t ls b)) e, with-total D S clock (zeroed_held t (fronts_since_em h)) (serial-at D S clock _ (burst-at D S clock cfg runs b both.1 (tariff-at D S clock cfg t (phases_of ls) both.0 x))))
    describe-right k unreadable (Err r) e = (ruled D S h (describe k unreadable) e, x)
    describe-right k senseless (Err r) e = (ruled D S h (describe k senseless) e, x)
    describe-right k (descriptor t ls b) (Err r) e = (ruled D S h (describe k (descriptor t ls b)) e, x)

    described-right : (k : Option ℕ) (d : Reading) → Right h (describe k d) (step l (describe k d))
    described-right k d = rw (describe-step l k d, rulings_agree h x s (describe k d)) (describe-right k d (ruling_after D S h (describe k d)) refl)

    -- asking tells what a commit with the serial would be answered
    ask-right : (d : Reading) (n : ℕ) → n ≡ serial_in h → {a : Answer} → a ≡ answer_after D S h (describe (Some n) d) → asked a n ≡ answer_after D S h (ask d)
    unfolding answer_after
    ask-right d n e p = rw (p, e)

    period-right : (n : ℕ) (u : Ruling) → ruling_after D S h (period n) ≡ u → Right h (period n) (answered (answered_by u l (with_period l (Some n)) 0))
    unfolding answer_after ticks last_front burst_in running fronts_since_em since_report period_in
    period-right n (Ok tt) e = (ruled D S h (period n) e, serial-at D S clock _ (period-at D S clock cfg (Some n) x))
    period-right n (Err r) e = (ruled D S h (period n) e, x)

    pub step_right : (c : Call) → Right h c (step l c)
    unfolding step ask_of hook_of period_of no_period_of audit_of answer_after ruling ticks last_front burst_in running fronts_since_em since_report period_in tariff_changed burst_changed
    step_right (describe k d) = described-right k d
    step_right (ask d) = (ask-right d l.serial s (described-right (Some l.serial) d).0, x)
    step_right (hook Keep) = (refl, serial-at D S clock _ x)
    step_right (hook Stop) = (ap accepted (owed-agrees h x), serial-at D S clock _ (burst-at D S clock cfg true NoBurst tt (tariff-at D S clock cfg NoTariff [] tt x)))
    step_right (period n) = rw (rulings_agree h x s (period n)) (period-right n (ruling_after D S h (period n)) refl)
    step_right no_period = (refl, serial-at D S clock _ (period-at D S clock cfg None x))
    step_right audit = (counters-agree h x, x)
    step_right tick = let k = tick-at D S clock cfg x in (ap ticked k.0, with-total D S clock (counted-held (tick_of l).tick.front (fronts_since_em h)) k.1)

  -- ---- histories
  pub data Run : List Entry → Line → Type 0 where
    begin : Run [] (fresh_line D S clock)
    more : {h : List Entry} {l l' : Line} {c : Call} {a : Answer} → Run h l → step l c ≡ outcome a l' → Run (entry_for c a l' ∷ h) l'

  pub serial-is : {h : List Entry} {l : Line} → Run h l → l.serial ≡ serial_in h
  unfolding fresh_line sum
  serial-is begin = refl
  serial-is (more {h = h} {l = l} {l' = l'} {c = c} {a = a} r e) = serial-after l l' c a e ∙ ap (serial_by a) (serial-is r) ∙ serial-held a (changes h)

  -- a fresh line, whose clock fits 32 bits
  fresh_at : (k : ℕ) → k ≡ (clock + 0) % 2 ^ 32 →
      At D S clock 0 never idle nothing 0 0 None (idle_line D S k S)
  fresh_at k e = rw e (line_at {v = S} {w = 0} {t = Idle} {ps = no_phases} {n = 0} refl tt (agree-idle D no_phases 0 0 0) tt none (λ z. absurd (z refl)))

  right_of : (h : List Entry) (c : Call) {a : Answer} {l' : Line} (o : Outcome) → o ≡ outcome a l' → Right h c o → Right h c (outcome a l')
  right_of h c o e x = rw e at x

  module _ (small : clock < 2 ^ 32) where
    pub coupled : {h : List Entry} {l : Line} → Run h l → Coupled D S clock h l
    unfolding ticks last_front burst_in running fronts_since_em since_report period_in fresh_line
    coupled begin = fresh_at clock (omega arith)
    coupled (more {h = h} {l = l} {c = c} r e) = (right_of h c (step l c) e (step_right h (coupled r) (serial-is r) c)).1

    pub answer-right : {h : List Entry} {l : Line} {e : Entry} → Run (e ∷ h) l → e.answer ≡ answer_after D S h e.call
    answer-right (more {h = h} {l = l} {c = c} r e) = (right_of h c (step l c) e (step_right h (coupled r) (serial-is r) c)).0

  -- ---- the history of a list of calls is such a run, and so is each part of it from the start on
  abbrev Runs : Past → Type 0
  Runs (past h l) = Run h l

  run_call : (h : List Entry) (l : Line) (c : Call) (o : Outcome) → step l c ≡ o → Run h l → Runs (noted h c o)
  run_call h l c (outcome a l') e r = more r e

  run-calls : (p : Past) (cs : List Call) → Runs p → Runs (after_calls p cs)
  unfolding after_calls
  run-calls p [] r = r
  run-calls (past h l) (c ∷ cs) r = run-calls (noted h c (step l c)) cs (run_call h l c (step l c) refl r)

  run_of : (p : Past) → Runs p → Run (entries p) (line_after p)
  run_of (past h l) r = r

  pub run-history : (cs : List Call) → Run (entries (after_calls (past [] (fresh_line D S clock)) cs)) (line_after (after_calls (past [] (fresh_line D S clock)) cs))
  run-history cs = run_of (after_calls (past [] (fresh_line D S clock)) cs) (run-calls (past [] (fresh_line D S clock)) cs begin)

  pub cut : {l : Line} (a h : List Entry) → Run (a ++ h) l → (l' : Line) × Run h l'
  cut {l} [] h r = (l, r)
  cut (e ∷ a) h (more r q) = cut a h r

  -- an entry reads the line that its call hands back or leaves
  pub reads : {h : List Entry} {l : Line} {e : Entry} → Run (e ∷ h) l → (e.clock ≡ l.state.clock) × (e.on ≡ on_of l)
  reads (more r e) = (refl, refl)
