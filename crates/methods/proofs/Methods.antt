-- Nothing lies between the code and the theorems about lists. Each claim is drawn from the contract that the method is proved
-- to meet: a contract that says less, or that asks for anything, is refused here.
use mathlib.Core.Path.{◌≡◌}
use mathlib.Core.Bool.{false, cond}
use mathlib.Core.List.{List, []}
use Prim.Native.Nat.{ℕ}
use types.Logic.{Logic}
use borrow.Table.Steps.{cases}
use seplogic.Ra.Ura.{Ura}
use base.Logic.{SProp, ent, sep, fst∗, snd∗}
use prog.Model.{Model}
use prog.Wired.{Code}
use mir.Syntax.{Callee}
use contract.Monad.{fact, fact_i, fact_mono, fact_use}
use contract.Lifetimes.{Lfts}
use contract.Running.{Running}
use denote.Ask.Run.{routine_mono}
use denote.Triple.Entry.{Args, Res}
use denote.Triple.Clauses.{Ended, AtExit, at_exit}
use denote.Triple.Weaken.{weaken}
use Rattle.line.specs.contracts.Line as L
use Rattle.line.proofs.Line as L_code
use Rattle.line.specs.contracts.making.LineDefault.default as blank
use Rattle.line.proofs.making.LineDefault.default.Met as blank_met
use Rattle.line.specs.contracts.making_verdict as making
use Rattle.line.proofs.making_verdict.Met as making_met
use Rattle.lent.specs.contracts.tick_in_place as lent
use Rattle.lent.proofs.tick_in_place.Met as lent_met
use Rattle.descriptor.specs.Refusals.{sound_configuration}
use Rattle.answers.specs.declared.Tick.{Tick}
use Rattle.line.specs.Lines.{blank_line, make_of, describe_text_of, tick_of}
use Rattle.line.specs.declared.Line.{Line}
use Rattle.demand.specs.Calls.{Call, tick, accepted, refused, ticked}
use Rattle.demand.specs.Machine.{outcome, step, past, after_calls, entries, history}
use Rattle.methods.specs.Methods.{Of, making_told, ensuring, Meeting, Does, Methods}

taken : (D G clock : ℕ) → making_told (make_of D G clock) ≡ cond (sound_configuration D G) (accepted 0) (refused 1)
unfolding make_of
taken D G clock = cases (sound_configuration D G) (λ e. rw e) (λ e. rw e)

-- where a configuration is refused, its history is that of a blank line
blank-begins : {l : Line} → l ≡ blank_line → (D G clock : ℕ) (cs : List Call) → sound_configuration D G ≡ false → history D G clock cs ≡ entries (after_calls (past [] l) cs)
unfolding history make_of
blank-begins e D G clock cs unsound = rw (unsound, e)

-- a tick by what it tells and the line that it leaves
lent-step : (l : Line) {r : Tick} {l' : Line} → r ≡ (tick_of l).tick → l' ≡ (tick_of l).line → step l tick ≡ outcome (ticked r) l'
unfolding step
lent-step l e f = rw (e, f)

-- what follows from two clauses
pub both : {M : Type 1} (𝓤 : Ura M) {A B : Type 0} (C : Type 0) → (A → B → C) → ent 𝓤 (sep 𝓤 (fact 𝓤 A) (fact 𝓤 B)) (fact 𝓤 C)
both 𝓤 {A} {B} C f =
    let P : SProp 𝓤 = sep 𝓤 (fact 𝓤 A) (fact 𝓤 B) in
    fact_use 𝓤 {P = P} {Q = fact 𝓤 C} A (fst∗ 𝓤 (fact 𝓤 A) (fact 𝓤 B)) (λ a.
    fact_use 𝓤 {P = P} {Q = fact 𝓤 C} B (snd∗ 𝓤 (fact 𝓤 A) (fact 𝓤 B)) (λ b. fact_i 𝓤 C P (f a b)))

module _ {M : Type 1} {𝓤 : Ura M} (𝓛 : Logic 𝓤) (𝓜 : Model 𝓤 𝓛.H) (𝓡 : Running 𝓤 𝓛.H 𝓜) where
  -- by the contract c that it is proved to meet
  open 𝓛 use {H}

  pub told : {T : Ended} {name : Callee} {code : Code} {claim : Of T (Type 0)} (c : Of T (SProp 𝓤)) → Meeting 𝓛 𝓜 𝓡 T name code c
      → ((κs : Lfts T.signature.lifetimes) (a : Args T.signature κs) (r : Res T.signature κs) (e : AtExit T κs) → ent 𝓤 (c κs a r e) (fact 𝓤 (claim κs a r e))) → Does 𝓛 𝓜 𝓡 T name code claim
  told {T} {name} {code} {claim} c met tells =
      record { does = λ wired. weaken 𝓛 T (ensuring 𝓛 𝓜 𝓡 T c) (λ κs a _ r e. fact 𝓤 (claim κs a r e)) (λ κs a _ r ws. tells κs a r (at_exit T κs a ws)) (𝓡.run (𝓡.env name)) (routine_mono 𝓤 H 𝓜 𝓡 (𝓡.env name)) (met wired) }

  pub methods : Methods 𝓛 𝓜 𝓡
  unfolding step history describe_text_of
  methods =
      record {
        make = told (λ κs a. (L.make.clauses 𝓛 𝓜.mem 𝓡.returns κs a).ensures tt) (L_code.make.Met.met 𝓤 𝓛 𝓜 𝓡) (λ _ a _ _. fact_mono 𝓤 _ _ (λ e. (rw e (taken a.0.pulse a.0.gap a.0.clock), λ cs. rw e)));
        made = told (λ κs a. (making.clauses 𝓛 𝓜.mem 𝓡.returns κs a).ensures tt) (making_met.met 𝓤 𝓛 𝓜 𝓡) (λ _ _ _ _. fact_mono 𝓤 _ _ (λ e. rw e));
        blank = told (λ κs a. (blank.clauses 𝓛 𝓜.mem 𝓡.returns κs a).ensures tt) (blank_met.met 𝓤 𝓛 𝓜 𝓡) (λ _ _ _ _. fact_mono 𝓤 _ _ (λ e. blank-begins e));
        describes = told (λ κs a. (L.describe.clauses 𝓛 𝓜.mem 𝓡.returns κs a).ensures tt) (L_code.describe.Met.met 𝓤 𝓛 𝓜 𝓡) (λ _ _ _ _. fact_mono 𝓤 _ _ (λ e. rw e));
        asks = told (λ κs a. (L.ask.clauses 𝓛 𝓜.mem 𝓡.returns κs a).ensures tt) (L_code.ask.Met.met 𝓤 𝓛 𝓜 𝓡) (λ _ _ _ _. fact_mono 𝓤 _ _ (λ e. rw e));
        commits = told (λ κs a. (L.commit.clauses 𝓛 𝓜.mem 𝓡.returns κs a).ensures tt) (L_code.commit.Met.met 𝓤 𝓛 𝓜 𝓡) (λ _ _ _ _. fact_mono 𝓤 _ _ (λ e. rw e));
        hooks = told (λ κs a. (L.hook.clauses 𝓛 𝓜.mem 𝓡.returns κs a).ensures tt) (L_code.hook.Met.met 𝓤 𝓛 𝓜 𝓡) (λ _ _ _ _. fact_mono 𝓤 _ _ (λ e. rw e));
        periods = told (λ κs a. (L.set_period.clauses 𝓛 𝓜.mem 𝓡.returns κs a).ensures tt) (L_code.set_period.Met.met 𝓤 𝓛 𝓜 𝓡) (λ _ _ _ _. fact_mono 𝓤 _ _ (λ e. rw e));
        clears = told (λ κs a. (L.clear_period.clauses 𝓛 𝓜.mem 𝓡.returns κs a).ensures tt) (L_code.clear_period.Met.met 𝓤 𝓛 𝓜 𝓡) (λ _ _ _ _. fact_mono 𝓤 _ _ (λ e. rw e));
        audits = told (λ κs a. (L.audit.clauses 𝓛 𝓜.mem 𝓡.returns κs a).ensures tt) (L_code.audit.Met.met 𝓤 𝓛 𝓜 𝓡) (λ _ _ _ _. fact_mono 𝓤 _ _ (λ e. rw e));
        ticks = told (λ κs a. (L.tick.clauses 𝓛 𝓜.mem 𝓡.returns κs a).ensures tt) (L_code.tick.Met.met 𝓤 𝓛 𝓜 𝓡) (λ _ _ _ _. fact_mono 𝓤 _ _ (λ e. rw e));
        lent = told (λ κs a. (lent.clauses 𝓛 𝓜.mem 𝓡.returns κs a).ensures tt) (lent_met.met 𝓤 𝓛 𝓜 𝓡) (λ _ _ _ _. both 𝓤 _ (λ e f. lent-step _ e f));
        on = told (λ κs a. (L.is_on.clauses 𝓛 𝓜.mem 𝓡.returns κs a).ensures tt) (L_code.is_on.Met.met 𝓤 𝓛 𝓜 𝓡) (λ _ _ _ _. fact_mono 𝓤 _ _ (λ e c a. rw e));
      }
