-- `Dispatcher::first_from` meets its contract.
use Rattle.std.proofs.Common.{◌≡◌, ℕ, Bool, true, false, rules}
use Rattle.std.proofs.lemmas.Iterator.{first_from_Range}
use Rattle.dispatcher.specs.Dispatch.{tells, waits_in}
use Rattle.dispatcher.proofs.TurnLaws.{first-found}
use Rattle.dispatcher.proofs.Dispatcher.first_from.Goals as goal

pub returns : goal.returns
returns c =
    let telling : ℕ → Bool = λ i. tells (waits_in c.args.self.now.waiting i) in
    first-found telling _ _ _ (first_from_Range _ _ _ _ (λ i. telling i ≡ true) (λ i. telling i ≡ false) c.find.ensures.ran (λ i q k. search rules) (λ i q k. (search rules, search rules)))
