-- The report period is kept up with, however it was shortened: no front leaves pcslr at or above it.
use Rattle.std.specs.Prelude.{Option, Some, None}
use mathlib.Core.Path.{◌≡◌, sym, ◌∙◌}
use mathlib.Core.Bool.{true, false, cond}
use mathlib.Core.List.{List, [], ◌∷◌, ◌++◌, append_assoc}
use Prim.Native.Nat.{ℕ, zero, suc, ◌+◌, ◌^◌, ◌≤◌, ◌<◌}
use native.Mathlib.Omega.{arith}
use borrow.Author.Tests.{le-leb, leb-false}
use borrow.Table.Steps.{cases}
use lib.Dec.{leb}
use Rattle.std.proofs.lemmas.Option.{none-some, same_Some}
use Rattle.answers.specs.Fronts.{if_front, is_front}
use Rattle.descriptor.specs.Refusals.{sound_configuration, ruling}
use Rattle.grammar.specs.Meaning.{unreadable, senseless, descriptor}
use Rattle.state.specs.Rules.{one_more, report_due}
use Rattle.demand.specs.Names.{Front, TariffFront, BurstFront, KeepHook, Stop, Ok, Err}
use Rattle.demand.specs.Calls.{Call, describe, ask, hook, period, no_period, audit, tick, Answer, Entry, asks}
use Rattle.demand.specs.History.{unless_refused, told, front_of, ticks, zeroed_by, since_report, period_in}
use Rattle.demand.specs.Answers.{ruling_after, tick_after}
use Rattle.demand.specs.Machine.{history}
use Rattle.demand.proofs.AnswerKinds.{Kind, to_command, to_ask, to_audit, to_tick, kind}
use Rattle.demand.proofs.Demand.{demand3}

-- a count that is held at its top is at or above every period that can be set
pub top-reports : (rp : ℕ) → rp ≤ 4294967295 → report_due (Some rp) (one_more 4294967295) ≡ true
top-reports rp small = le-leb rp 4294967295 small

-- what is left of a count of n
left_below : (p : Option ℕ) (rp n : ℕ) → p ≡ Some rp → 0 < rp → cond (report_due p n) 0 n < rp
left_below p rp n is set = rw is (cases (leb rp n) (λ e. rw e set) (λ e. rw e (leb-false rp n e)))

front_below : (f : Option Front) (p : Option ℕ) (rp n m : ℕ) → is_front f ≡ 1 → p ≡ Some rp → 0 < rp → cond (if_front f (report_due p n) false) 0 (if_front f n m) < rp
front_below None p rp n m f is set = absurd (omega arith)
front_below (Some TariffFront) p rp n m f is set = left_below p rp n is set
front_below (Some BurstFront) p rp n m f is set = left_below p rp n is set

module _ (D S : ℕ) (h : List Entry) where
  kind-below : (c : Call) (a : Answer) → Kind D S h c a → is_front (told a).front ≡ 1 → (rp : ℕ) → period_in h ≡ Some rp → 0 < rp →
      zeroed_by (unless_refused a (asks c)).tariff (cond (told a).report 0 (if_front (told a).front (one_more (since_report h)) (since_report h))) < rp
  kind-below c a (to_command (Ok tt) e n) f rp is set = absurd (omega arith)
  kind-below c a (to_command (Err r) e n) f rp is set = absurd (omega arith)
  kind-below c a (to_ask n) f rp is set = absurd (omega arith)
  kind-below c a (to_audit n) f rp is set = absurd (omega arith)
  kind-below c a (to_tick n) f rp is set =
      rw n (front_below (tick_after D S h (ticks h + 1)).front (period_in h) rp (one_more (since_report h)) (since_report h) f is set)

  -- no call sets a period of 0
  module _ (rp : ℕ) (ih : period_in h ≡ Some rp → 0 < rp) where
    call-sets : (c : Call) → ruling_after D S h c ≡ Ok tt → (asks c).period (period_in h) ≡ Some rp → 0 < rp
    unfolding ruling
    call-sets (describe k unreadable) e is = ih is
    call-sets (describe k senseless) e is = ih is
    call-sets (describe k (descriptor t ls b)) e is = ih is
    call-sets (ask d) e is = ih is
    call-sets (hook KeepHook) e is = ih is
    call-sets (hook Stop) e is = ih is
    call-sets (period zero) e is = absurd (let o : ◌≡◌ {A = ℕ} 0 1 = cc in omega arith)
    call-sets (period (suc n)) e is = let same = same_Some (suc n) rp is in omega arith
    call-sets no_period e is = absurd (none-some rp is)
    call-sets audit e is = ih is
    call-sets tick e is = ih is

    kind-sets : (c : Call) (a : Answer) → Kind D S h c a → (unless_refused a (asks c)).period (period_in h) ≡ Some rp → 0 < rp
    kind-sets c a (to_command (Ok tt) e n) is = call-sets c e is
    kind-sets c a (to_command (Err r) e n) is = ih is
    kind-sets c a (to_ask n) is = ih (rw n at is)
    kind-sets c a (to_audit n) is = ih (rw n at is)
    kind-sets c a (to_tick n) is = ih (rw n at is)

module _ (D G clock : ℕ) (sound : sound_configuration D G ≡ true) (small : clock < 2 ^ 32) (cs : List Call) where
  answers_kind : (after before : List Entry) (e : Entry) → history D G clock cs ≡ after ++ (e ∷ before) → Kind D (D + G) before e.call e.answer
  answers_kind after before e q = kind D (D + G) before e.call ((demand3 D G clock sound small cs).follows after before e q).answer

  -- a period that is set is not 0
  pub period-set : (after h : List Entry) → history D G clock cs ≡ after ++ h → (rp : ℕ) → period_in h ≡ Some rp → 0 < rp
  unfolding period_in
  period-set after [] q rp is = absurd (none-some rp is)
  period-set after (e ∷ h) q rp is =
      kind-sets D (D + G) h rp (period-set (after ++ (e ∷ [])) h (q ∙ sym (append_assoc after (e ∷ []) h)) rp) e.call e.answer (answers_kind after h e q) is

  -- of every list of calls
  pub period-kept : (after before : List Entry) (e : Entry) → history D G clock cs ≡ after ++ (e ∷ before) → is_front (front_of e) ≡ 1 →
      (rp : ℕ) → period_in before ≡ Some rp → since_report (e ∷ before) < rp
  unfolding since_report
  period-kept after before e q f rp is =
      kind-below D (D + G) before e.call e.answer (answers_kind after before e q) f rp is
      (period-set (after ++ (e ∷ [])) before (q ∙ sym (append_assoc after (e ∷ []) before)) rp is)
