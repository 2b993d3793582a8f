-- What each public method of a line does, in every model of the machine: the step that a list of calls takes.
use Rattle.std.specs.Prelude.{◌≡◌, false, if◌then◌else◌, List, [], ℕ, None, Result}
use seplogic.Ra.Ura.{Ura}
use base.Logic.{SProp, emp}
use prog.Model.{Model}
use prog.Wired.{Code, Wired}
use mir.Syntax.{Callee}
use types.Logic.{Logic}
use contract.Monad.{fact}
use contract.Lifetimes.{Lfts}
use contract.Running.{Running}
use denote.Triple.Entry.{Args, Res}
use denote.Triple.Spec.{Meets}
use denote.Triple.Clauses.{Ended, AtExit, Clauses, closing}
use Rattle.line.specs.Lines.{made_or_blank, making_verdict_of, meant_by}
use Rattle.line.specs.declared.Line.{Line}
use Rattle.line.specs.contracts.Line as L
use Rattle.line.proofs.Line as L_code
use Rattle.line.specs.contracts.making.LineDefault.default as blank
use Rattle.line.proofs.making.LineDefault.default.Symbol as blank_code
use Rattle.line.specs.contracts.making_verdict as making
use Rattle.line.proofs.making_verdict.Symbol as making_code
use Rattle.lent.specs.contracts.tick_in_place as lent
use Rattle.lent.proofs.tick_in_place.Symbol as lent_code
use Rattle.descriptor.specs.Refusals.{sound_configuration}
use Rattle.descriptor.specs.declared.Refusal.{Refusal}
use Rattle.demand.specs.Calls.{Call, describe, ask, hook, period, no_period, audit, tick}
use Rattle.demand.specs.Calls.{Answer, accepted, refused, ticked}
use Rattle.demand.specs.Machine.{verdict_told, outcome, answered, ticketed, audited, moved, step, entry_for}
use Rattle.demand.specs.Machine.{commit, past, after_calls, entries, history}

-- of the values passed to a call, its result, and the values passed as they are after it
abbrev pub Of {ℓ} : Ended → Type ℓ → Type ℓ
Of T P = (κs : Lfts T.signature.lifetimes) → Args T.signature κs → Res T.signature κs → AtExit T κs → P

-- what making a line answers: no burst pulse is cancelled, or the number of the refusal
abbrev pub making_told : Result Line Refusal → Answer
making_told made = verdict_told (making_verdict_of made)

-- in every model of the machine
module _ {M : Type 1} {𝓤 : Ura M} (𝓛 : Logic 𝓤) (𝓜 : Model 𝓤 𝓛.H) (𝓡 : Running 𝓤 𝓛.H 𝓜) where
  -- the contract that asks nothing and ensures c
  abbrev pub ensuring : (T : Ended) → Of T (SProp 𝓤) → Clauses 𝓤 T
  ensuring T c κs a = record { ghost = Unit {0}; requires = λ _. emp 𝓤; ensures = λ _. c κs a }

  -- a function of this signature and name meets it, wherever the names mean its code
  abbrev pub Meeting : (T : Ended) → Callee → Code → Of T (SProp 𝓤) → Type 1
  Meeting T name code c = Wired 𝓡.env code → Meets 𝓛 T.signature (𝓡.run (𝓡.env name)) (closing 𝓛 T (ensuring T c))

  -- whatever it is called with, it returns, and the claim holds
  pub record Does (T : Ended) (name : Callee) (code : Code) (claim : Of T (Type 0)) : Type 1 where
    pub does : Meeting T name code (λ κs a r e. fact 𝓤 (claim κs a r e))

  pub record Methods : Type 1 where
    -- it answers whether the configuration is taken; the line that it makes, or a blank one, begins the list
    pub make : Does L.make.ended L_code.make.Symbol.name L_code.make.Symbol.code
        (λ _ (given, _) r _.
        (making_told r ≡ (if sound_configuration given.pulse given.gap then accepted 0 else refused 1)) ×
        ((cs : List Call) →
        history given.pulse given.gap given.clock cs ≡ entries (after_calls (past [] (made_or_blank r)) cs)))
    -- what a program answers, once it has made a line or was turned down
    pub made : Does making.ended making_code.name making_code.code
        (λ _ (made, _) r _. making_told made ≡ verdict_told r)
    -- where the configuration is refused, a blank line begins the list
    pub blank : Does blank.ended blank_code.name blank_code.code
        (λ _ _ r _. (D G clock : ℕ) (cs : List Call) → sound_configuration D G ≡ false →
        history D G clock cs ≡ entries (after_calls (past [] r) cs))
    pub describes : Does L.describe.ended L_code.describe.Symbol.name L_code.describe.Symbol.code
        (λ _ (l, (d, _)) r _. step l (describe None (meant_by d)) ≡ answered r)
    pub asks : Does L.ask.ended L_code.ask.Symbol.name L_code.ask.Symbol.code
        (λ _ (l, (d, _)) r _. step l (ask (meant_by d)) ≡ ticketed r)
    pub commits : Does L.commit.ended L_code.commit.Symbol.name L_code.commit.Symbol.code
        (λ _ (l, (n, (d, _))) r _. step l (commit n (meant_by d)) ≡ answered r)
    pub hooks : Does L.hook.ended L_code.hook.Symbol.name L_code.hook.Symbol.code
        (λ _ (l, (k, _)) r _. step l (hook k) ≡ answered r)
    pub periods : Does L.set_period.ended L_code.set_period.Symbol.name L_code.set_period.Symbol.code
        (λ _ (l, (n, _)) r _. step l (period n) ≡ answered r)
    pub clears : Does L.clear_period.ended L_code.clear_period.Symbol.name L_code.clear_period.Symbol.code
        (λ _ (l, _) r _. step l no_period ≡ answered r)
    pub audits : Does L.audit.ended L_code.audit.Symbol.name L_code.audit.Symbol.code
        (λ _ (l, _) r _. step l audit ≡ audited r)
    pub ticks : Does L.tick.ended L_code.tick.Symbol.name L_code.tick.Symbol.code
        (λ _ (l, _) r _. step l tick ≡ moved r)
    -- a tick on a lent record: l' is left where l was lent
    pub lent : Does lent.ended lent_code.name lent_code.code
        (λ _ (l, _) r (l', _). step l.now tick ≡ outcome (ticked r) l'.now)
    -- whether a pulse is on, in the entry of a call that leaves this line
    pub on : Does L.is_on.ended L_code.is_on.Symbol.name L_code.is_on.Symbol.code
        (λ _ (l, _) r _. (c : Call) (a : Answer) → (entry_for c a l).on ≡ r)
