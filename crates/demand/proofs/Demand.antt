-- The theorems about every list of calls on a fresh line: each answer is the paper's, and demand 3 holds.
use mathlib.Core.Path.{◌≡◌, refl, ◌∙◌}
use mathlib.Core.Bool.{Bool, true, false, and-eq-true_iff}
use mathlib.Core.List.{List, [], ◌∷◌, ◌++◌}
use mathlib.Core.Logic.{◌↔◌}
use Prim.Native.Nat.{ℕ, ◌+◌, ◌^◌, min, ◌<◌}
use native.Mathlib.Omega.{arith}
use borrow.Author.Tests.{leb-true}
use lib.Dec.{leb}
use Rattle.answers.specs.declared.Front.TheVariants.{Tariff as TariffFront}
use Rattle.tariff.specs.Ranges.{within}
use Rattle.tariff.specs.declared.Slot.{Slot}
use Rattle.tariff.specs.declared.Slot.TheVariants.{Empty, Pulse}
use Rattle.slots.specs.Slots.{slot_at}
use Rattle.descriptor.specs.Refusals.{ruling, sound_configuration}
use Rattle.std.specs.Prelude.{Ok, Err, Option, None, Some}
use Rattle.descriptor.specs.declared.Hook.TheVariants.{Stop}
use Rattle.ticking.specs.Rules.{front_at}
use Rattle.line.specs.Lines.{fresh_line, make_of}
use Rattle.line.specs.declared.Line.{Line}
use Rattle.demand.specs.Calls.{Call, hook, audit, Answer, accepted, counters, Entry, asks}
use Rattle.demand.specs.History.{unless_refused, told, ticks, running, owed, fronts_since_em, since_report}
use Rattle.demand.specs.Answers.{answer_after}
use Rattle.demand.specs.Machine.{entry_for, Outcome, outcome, step, Past, past, noted, after_call, after_calls, entries, line_after, history}
use Rattle.demand.specs.Demand.{EndAnswers, Follows, Demand3}
use Rattle.demand.proofs.Coupled.{Config}
use Rattle.demand.proofs.AnswerKinds.{Kind, to_command, to_ask, to_audit, to_tick, kind}
use Rattle.demand.proofs.Run.{Run, coupled, serial-is, answer-right, step_right, Right, clock-agrees, on_agrees, reads, run-history, cut}
use Rattle.demand.proofs.Sum.{sum-run}
use Rattle.demand.proofs.Bound.{bound}
use Rattle.demand.proofs.Spacing.{spacing-run}

-- ---- slots
tariff-front : (s : Option Slot) (may : Bool) → (front_at s may ≡ Some TariffFront) ↔ (s ≡ Some Pulse)
tariff-front None true = (λ e. absurd (let o : ◌≡◌ {A = ℕ} 0 1 = cc in omega arith), λ e. absurd (let o : ◌≡◌ {A = ℕ} 0 1 = cc in omega arith))
tariff-front None false = (λ e. absurd (let o : ◌≡◌ {A = ℕ} 0 1 = cc in omega arith), λ e. absurd (let o : ◌≡◌ {A = ℕ} 0 1 = cc in omega arith))
tariff-front (Some Empty) may = (λ e. absurd (let o : ◌≡◌ {A = ℕ} 0 1 = cc in omega arith), λ e. absurd (let o : ◌≡◌ {A = ℕ} 0 1 = cc in omega arith))
tariff-front (Some Pulse) may = (λ e. refl, λ e. refl)

slot-front : (D S : ℕ) (h : List Entry) (c : Call) (a : Answer) → Kind D S h c a → (unless_refused a (asks c)).tick ≡ true → ((told a).front ≡ Some TariffFront) ↔ (slot_at (running D S h) (ticks h + 1) ≡ Some Pulse)
slot-front D S h c a (to_command (Ok tt) f n) e = absurd (let o : ◌≡◌ {A = ℕ} 0 1 = cc in omega arith)
slot-front D S h c a (to_command (Err r) f n) e = absurd (let o : ◌≡◌ {A = ℕ} 0 1 = cc in omega arith)
slot-front D S h c a (to_ask n) e = absurd (let o : ◌≡◌ {A = ℕ} 0 1 = cc in omega arith)
slot-front D S h c a (to_audit n) e = absurd (let o : ◌≡◌ {A = ℕ} 0 1 = cc in omega arith)
slot-front D S h c a (to_tick n) e = tariff-front _ _

-- ---- an accepted configuration
pub config : (D G : ℕ) → sound_configuration D G ≡ true → Config D (D + G)
config D G h =
    let both = (and-eq-true_iff (within 1 500 D) (within 1 500 G)).0 h in
    let d = (and-eq-true_iff (leb 1 D) (leb D 500)).0 both.0 in
    let g = (and-eq-true_iff (leb 1 G) (leb G 500)).0 both.1 in
    record { pulse = leb-true 1 D d.0; gap = omega (arith, leb-true 1 G g.0); most = omega (arith, leb-true D 500 d.1, leb-true G 500 g.1) }

made : (D G clock : ℕ) → sound_configuration D G ≡ true → make_of D G clock ≡ Ok (fresh_line D (D + G) clock)
unfolding make_of
made D G clock h = rw h

-- ---- calls at the end of a list
pub calls_append : (p : Past) (cs ds : List Call) → after_calls p (cs ++ ds) ≡ after_calls (after_calls p cs) ds
unfolding after_calls
calls_append p [] ds = refl
calls_append p (c ∷ cs) ds = calls_append (after_call p c) cs ds

module _ (D S clock : ℕ) (cfg : Config D S) (small : clock < 2 ^ 32) where
  abbrev Ends : List Entry → Call → Past → Type 0
  Ends h c p = (e : Entry) × (entries p ≡ e ∷ h) × (e.answer ≡ answer_after D S h c)

  noted_end : (h : List Entry) (c : Call) (o : Outcome) → Right D S clock cfg h c o → Ends h c (noted h c o)
  noted_end h c (outcome a l) r = (entry_for c a l, refl, r.0)

  call_end : (p : Past) (c : Call) → Run D S clock cfg (entries p) (line_after p) → Ends (entries p) c (after_call p c)
  call_end (past h l) c r = noted_end h c (step l c) (step_right D S clock cfg h (coupled D S clock cfg small r) (serial-is D S clock cfg r) c)

module _ (D G clock : ℕ) (sound : sound_configuration D G ≡ true) (small : clock < 2 ^ 32) (cs : List Call) where
  abbrev S : ℕ
  S = D + G

  abbrev cfg : Config D S
  cfg = config D G sound

  run : (l : Line) × Run D S clock cfg (history D G clock cs) l
  unfolding history
  run = rw (made D G clock sound) (_, run-history D S clock cfg cs)

  pub run-part : (a h : List Entry) → history D G clock cs ≡ a ++ h → (l : Line) × Run D S clock cfg h l
  run-part a h e = cut D S clock cfg a h (rw e at run.1)

  end_answers : (c : Call) → EndAnswers D G clock cs c (answer_after D S (history D G clock cs) c)
  unfolding history after_calls
  end_answers c =
      rw (made D G clock sound, calls_append (past [] (fresh_line D S clock)) cs (c ∷ []))
      (call_end D S clock cfg small (after_calls (past [] (fresh_line D S clock)) cs) c (run-history D S clock cfg cs))

  stop-answers : EndAnswers D G clock cs (hook Stop) (accepted (owed (history D G clock cs)))
  unfolding answer_after ruling
  stop-answers = end_answers (hook Stop)

  audit-answers : EndAnswers D G clock cs audit (counters (min 4294967295 (fronts_since_em (history D G clock cs))) (since_report (history D G clock cs)))
  unfolding answer_after
  audit-answers = end_answers audit

  follows-run : (before : List Entry) (e : Entry) {l : Line} → Run D S clock cfg (e ∷ before) l → Follows D G clock cs e before
  follows-run before e r =
      record { answer = answer-right D S clock cfg small r; clock-reads = (reads D S clock cfg r).0 ∙ clock-agrees D S clock cfg (e ∷ before) (coupled D S clock cfg small r) }

  pub demand3 : Demand3 D G clock cs
  demand3 = record {
    follows = λ after before e q. follows-run before e (run-part after (e ∷ before) q).1;
    sum = sum-run D S clock cfg small run.1;
    stop = stop-answers;
    bound = λ rest before e n P q. bound D S clock cfg small n P rest before e (rw q at run.1);
    slots = λ after before e q. slot-front D S before e.call e.answer (kind D S before e.call (answer-right D S clock cfg small (run-part after (e ∷ before) q).1));
    spacing = λ after between before f e q. spacing-run D S clock cfg small between before f e (run-part after (f ∷ (between ++ (e ∷ before))) q).1;
    on = λ after before e q.
        let r = (run-part after (e ∷ before) q).1 in
        (reads D S clock cfg r).1 ∙ on_agrees D S clock cfg (e ∷ before) (coupled D S clock cfg small r);
    total = audit-answers;
  }
