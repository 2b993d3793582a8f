-- What the code of the dispatcher and of a group's rate does, in every model of the machine: the step that a list of
-- calls on a card takes.
use Rattle.std.specs.Prelude.{◌≡◌, List, ◌++◌, length}
use seplogic.Ra.Ura.{Ura}
use prog.Model.{Model}
use types.Logic.{Logic}
use contract.Running.{Running}
use Rattle.line.specs.declared.Line.{Line}
use Rattle.dispatcher.specs.declared.Dispatcher.{Dispatcher}
use Rattle.dispatcher.specs.contracts.Dispatcher as D
use Rattle.dispatcher.proofs.Dispatcher as D_code
use Rattle.group.specs.contracts.rate as G
use Rattle.group.proofs.rate.Symbol as G_code
use Rattle.card_demand.specs.Card.{tick_row, group, Card, card_step, Making, fresh_card}
use Rattle.card_demand.specs.Lending.{replied, group_reply}
use Rattle.methods.specs.Methods.{Does}

abbrev pub card_of : List Line → Dispatcher → Card
card_of ls d = record { lines = ls; dispatcher = d }

module _ {M : Type 1} {𝓤 : Ura M} (𝓛 : Logic 𝓤) (𝓜 : Model 𝓤 𝓛.H) (𝓡 : Running 𝓤 𝓛.H 𝓜) where
  pub record CardMethods : Type 1 where
    -- its dispatcher begins the list
    pub new : Does 𝓛 𝓜 𝓡 D.new.ended D_code.new.Symbol.name D_code.new.Symbol.code
        (λ _ _ r _. (ms : List Making) → (fresh_card ms).dispatcher ≡ r)
    -- the row lent is the first lines of a card, and row' is left where it was lent: the others stay
    pub ticks : Does 𝓛 𝓜 𝓡 D.tick.ended D_code.tick.Symbol.name D_code.tick.Symbol.code
        (λ _ (d, (row, _)) r (_, (row', _)). (others : List Line) →
        let s = card_step (card_of (row.now ++ others) d) (tick_row (length row.now)) in
        (s.entry.reply ≡ replied r.reply) × (s.card ≡ card_of (row'.now ++ others) r.dispatcher))
    -- a rate command for the places of a list in the row lent: the dispatcher stays
    pub groups : Does 𝓛 𝓜 𝓡 G.ended G_code.name G_code.code
        (λ _ (row, (places, (P, _))) r (row', _). (others : List Line) (d : Dispatcher) →
        let s = card_step (card_of (row.now ++ others) d) (group (length row.now) places.now P) in
        (s.entry.reply ≡ group_reply r) × (s.card ≡ card_of (row'.now ++ others) d))
