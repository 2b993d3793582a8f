-- Any two fronts are at least S ticks apart.
use mathlib.Core.Path.{◌≡◌, refl, sym, ap, ◌∙◌}
use mathlib.Core.Bool.{Bool, true, false, and-eq-true_iff}
use mathlib.Core.List.{List, [], ◌∷◌, ◌++◌}
use Prim.Native.Nat.{ℕ, ◌+◌, ◌^◌, ◌≤◌, ◌<◌}
use native.Mathlib.Omega.{arith}
use borrow.Author.Tests.{leb-true, le-leb}
use Rattle.answers.specs.Fronts.{if_front, is_front}
use Rattle.answers.specs.declared.Front.{Front}
use Rattle.answers.specs.declared.Front.TheVariants.{Tariff as TariffFront, Burst as BurstFront}
use Rattle.tariff.specs.Tariffs.{schedule_of, timed}
use Rattle.steps.specs.Steps.{step_of}
use Rattle.tariff.specs.declared.Slot.{Slot}
use Rattle.tariff.specs.declared.Slot.TheVariants.{Empty, Pulse}
use Rattle.slots.specs.Slots.{slot_at}
use Rattle.std.specs.Prelude.{Ok, Err, Option, None, Some}
use Rattle.ticking.specs.Rules.{front_at}
use Rattle.line.specs.declared.Line.{Line}
use Rattle.demand.specs.Calls.{Call, Answer, Entry, Asked, asks}
use Rattle.demand.specs.History.{unless_refused, told, front_of, ticks, Last, at, passed, last_front, burst_in, burst_ready, running}
use Rattle.demand.specs.Answers.{burst_may_start}
use Rattle.slots.proofs.Ahead.{Waits}
use Rattle.slots.proofs.Agree.{Next, waits, empty, pulse}
use Rattle.slots.proofs.Tick.{next-step}
use Rattle.slots.proofs.Coupling.{agree-now}
use Rattle.demand.proofs.Held.{held_since, before_more, held_more_lem, held-passed}
use Rattle.demand.proofs.Counts.{ticks_append}
use Rattle.demand.proofs.Coupled.{Config, line_at, Coupled}
use Rattle.demand.proofs.AnswerKinds.{Kind, to_command, to_ask, to_audit, to_tick, kind}
use Rattle.demand.proofs.Run.{Run, more, coupled, answer-right}

-- a slot due now was 1 tick away
pulse-next : {S v v' : ℕ} (s : Option Slot) → s ≡ Some Pulse → Next S v v' s → v ≡ 1
pulse-next s e (waits p q) = absurd (let o : ◌≡◌ {A = ℕ} 0 1 = cc in omega arith)
pulse-next s e (empty p q) = absurd (let o : ◌≡◌ {A = ℕ} 0 1 = cc in omega arith)
pulse-next s e (pulse p q) = p

module _ (D S clock : ℕ) (cfg : Config D S) where
  -- a tariff pulse begins S ticks after the last front or later
  slot-passed : (h : List Entry) {l : Line} → Coupled D S clock h l → slot_at (running D S h) (ticks h + 1) ≡ Some Pulse → passed S (last_front h) (ticks h + 1) ≡ true
  slot-passed h (line_at {w = w} {t = t} {ps = ps} {n = n} e before a g x y) s =
      let fits : Waits D = record { some = omega arith; most = omega arith } in
      let due = pulse-next (step_of D (schedule_of ps n) (timed t w)).slot (sym (agree-now S D ps n (omega arith) fits (running D S h) t w (ticks h) g a) ∙ s) (next-step S D ps n (omega arith) fits t w g) in
      let far = y (λ z. omega arith) in
      let more = held_more_lem S (ticks h) (last_front h) before in
      sym (held-passed S (ticks h + 1) (last_front h) (before_more (last_front h) (ticks h) before)) ∙ le-leb S (held_since S (last_front h) (ticks h + 1)) (omega arith)

  due-passed : (h : List Entry) {l : Line} → Coupled D S clock h l → (s : Option Slot) (may : Bool) → slot_at (running D S h) (ticks h + 1) ≡ s → burst_may_start D S h (ticks h + 1) ≡ may → is_front (front_at s may) ≡ 1 →
      passed S (last_front h) (ticks h + 1) ≡ true
  due-passed h x None true e m f =
      ((and-eq-true_iff (passed S (last_front h) (ticks h + 1)) _).0 ((and-eq-true_iff (burst_ready S (burst_in h) (ticks h + 1)) _).0 m).1).0
  due-passed h x None false e m f = absurd (omega arith)
  due-passed h x (Some Empty) may e m f = absurd (omega arith)
  due-passed h x (Some Pulse) may e m f = slot-passed h x e

  module _ (small : clock < 2 ^ 32) where
    front-passed : (h : List Entry) {l : Line} → Coupled D S clock h l → (c : Call) (a : Answer) → Kind D S h c a → is_front (told a).front ≡ 1 →
        (passed S (last_front h) (ticks h + 1) ≡ true) × ((unless_refused a (asks c)).tick ≡ true)
    front-passed h x c a (to_command (Ok tt) e s) f = absurd (omega arith)
    front-passed h x c a (to_command (Err r) e s) f = absurd (omega arith)
    front-passed h x c a (to_ask s) f = absurd (omega arith)
    front-passed h x c a (to_audit s) f = absurd (omega arith)
    front-passed h x c a (to_tick t) f = (due-passed h x _ _ refl refl f, ap (λ (y : Asked). y.tick) t)

    -- the last front of a list is not earlier than any front in it
    last-from : (between before : List Entry) (e : Entry) → is_front (front_of e) ≡ 1 → (u : ℕ) × (last_front (between ++ (e ∷ before)) ≡ at u) × (ticks before + 1 ≤ u)
    unfolding last_front ticks
    last-from [] before e f = (ticks before + 1, front-last (front_of e) f, omega arith)
      where
        front-last : (x : Option Front) → is_front x ≡ 1 → if_front x (at (ticks before + 1)) (last_front before) ≡ at (ticks before + 1)
        front-last None g = absurd (omega arith)
        front-last (Some TariffFront) g = refl
        front-last (Some BurstFront) g = refl
    last-from (x ∷ between) before e f = by (front_of x) (last-from between before e f)
      where
        later : ticks before + 1 ≤ ticks (between ++ (e ∷ before)) + 1
        later = grind (arith, ticks_append between (e ∷ before))

        by : (y : Option Front) → (u : ℕ) × (last_front (between ++ (e ∷ before)) ≡ at u) × (ticks before + 1 ≤ u) → (u : ℕ) × (if_front y (at (ticks (between ++ (e ∷ before)) + 1)) (last_front (between ++ (e ∷ before))) ≡ at u) × (ticks before + 1 ≤ u)
        by None (u, p, q) = (u, p, q)
        by (Some TariffFront) p = (ticks (between ++ (e ∷ before)) + 1, refl, later)
        by (Some BurstFront) p = (ticks (between ++ (e ∷ before)) + 1, refl, later)

    at-passed : (S u now : ℕ) (last : Last) → last ≡ at u → passed S last now ≡ true → u + S ≤ now
    at-passed S u now last e p = leb-true (u + S) now (rw e at p)

    pub spacing-run : {l : Line} (between before : List Entry) (f e : Entry) → Run D S clock cfg (f ∷ (between ++ (e ∷ before))) l → is_front (front_of f) ≡ 1 → is_front (front_of e) ≡ 1 → S ≤ ticks (f ∷ between)
    unfolding ticks
    spacing-run between before f e (more {c = c} {a = a} r q) p o =
        let now = front-passed (between ++ (e ∷ before)) (coupled D S clock cfg small r) c a (kind D S (between ++ (e ∷ before)) c (answer-right D S clock cfg small (more r q))) p in
        let last = last-from between before e o in
        let far = at-passed S last.0 (ticks (between ++ (e ∷ before)) + 1) (last_front (between ++ (e ∷ before))) last.1 now.0 in
        rw now.1 (grind (arith, last.2, ticks_append between (e ∷ before)))
