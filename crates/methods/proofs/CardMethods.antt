-- The claims on the dispatcher and on a group's rate are drawn from the contracts that their code is proved to meet.
use mathlib.Core.Path.{◌≡◌, sym, ap, ◌∙◌}
use mathlib.Core.List.{List, ◌++◌}
use Prim.Native.Nat.{ℕ}
use lib.ListN.{length}
use lib.Seq.{take-append_seam, drop-append_seam}
use seplogic.Ra.Ura.{Ura}
use prog.Model.{Model}
use types.Logic.{Logic}
use contract.Monad.{fact_mono}
use contract.Running.{Running}
use Rattle.line.specs.declared.Line.{Line}
use Rattle.line.specs.Lines.{Verdict}
use Rattle.dispatcher.specs.Dispatch.{row_of, dispatch_of}
use Rattle.dispatcher.specs.declared.Dispatcher.{Dispatcher}
use Rattle.dispatcher.specs.declared.Dispatched.{Dispatched}
use Rattle.dispatcher.specs.contracts.Dispatcher as D
use Rattle.dispatcher.proofs.Dispatcher as D_code
use Rattle.group.specs.Groups.{verdict_of, row_of as rated_by}
use Rattle.group.specs.contracts.rate as G
use Rattle.group.proofs.rate.Met as G_met
use Rattle.card_demand.specs.Card.{tick_row, group, Stepped, card_step}
use Rattle.card_demand.specs.Lending.{replied, group_reply}
use Rattle.card_demand.proofs.Lending.{card_steps}
use Rattle.methods.specs.CardMethods.{card_of, CardMethods}
use Rattle.methods.proofs.Methods.{both, told}

-- a tick by its answer and the row that it leaves
tick-step : (d : Dispatcher) (row row' others : List Line) (r : Dispatched) → r ≡ dispatch_of d row → row' ≡ row_of d row →
    let s = card_step (card_of (row ++ others) d) (tick_row (length row)) in
    (s.entry.reply ≡ replied r.reply) × (s.card ≡ card_of (row' ++ others) r.dispatcher)
tick-step d row row' others r e f =
    let steps = card_steps.ticks (card_of (row ++ others) d) (length row) in
    let first = take-append_seam row others in
    let rest = drop-append_seam row others in
    (ap (λ (s : Stepped). s.entry.reply) steps ∙ rw (first, e), ap (λ (s : Stepped). s.card) steps ∙ rw (first, rest, e, f))

-- a group's rate by its answer and the row that it leaves
group-step : (d : Dispatcher) (row row' others : List Line) (ps : List ℕ) (P : ℕ) (r : Verdict) → r ≡ verdict_of row ps P → row' ≡ rated_by row ps P →
    let s = card_step (card_of (row ++ others) d) (group (length row) ps P) in
    (s.entry.reply ≡ group_reply r) × (s.card ≡ card_of (row' ++ others) d)
group-step d row row' others ps P r e f =
    let steps = card_steps.groups (card_of (row ++ others) d) (length row) ps P in
    let first = take-append_seam row others in
    let rest = drop-append_seam row others in
    (ap (λ (s : Stepped). s.entry.reply) steps ∙ rw (first, e), ap (λ (s : Stepped). s.card) steps ∙ rw (first, rest, f))

module _ {M : Type 1} {𝓤 : Ura M} (𝓛 : Logic 𝓤) (𝓜 : Model 𝓤 𝓛.H) (𝓡 : Running 𝓤 𝓛.H 𝓜) where
  pub card-methods : CardMethods 𝓛 𝓜 𝓡
  card-methods =
      record {
        new = told 𝓛 𝓜 𝓡 (λ κs a. (D.new.clauses 𝓛 𝓜.mem 𝓡.returns κs a).ensures tt) (D_code.new.Met.met 𝓤 𝓛 𝓜 𝓡) (λ _ _ _ _. fact_mono 𝓤 _ _ (λ e ms. sym e));
        ticks = told 𝓛 𝓜 𝓡 (λ κs a. (D.tick.clauses 𝓛 𝓜.mem 𝓡.returns κs a).ensures tt) (D_code.tick.Met.met 𝓤 𝓛 𝓜 𝓡) (λ _ _ _ _. both 𝓤 _ (λ e f others. tick-step _ _ _ others _ e f));
        groups = told 𝓛 𝓜 𝓡 (λ κs a. (G.clauses 𝓛 𝓜.mem 𝓡.returns κs a).ensures tt) (G_met.met 𝓤 𝓛 𝓜 𝓡) (λ _ _ _ _. both 𝓤 _ (λ e f others d. group-step d _ _ others _ _ _ e f));
      }
