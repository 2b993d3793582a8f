-- `asked` meets its contract.
use Rattle.std.proofs.Common.{◌≡◌, ◌<◌, ℕ, Err, length, get_or, refl, sym, ◌∙◌, rules}
use Rattle.std.proofs.lemmas.List.{get_or_default}
use borrow.Author.Tests.{ltb-true, ltb-false}
use Rattle.descriptor.specs.declared.Refusal.TheVariants.{Place}
use Rattle.line.specs.Lines.{blank_line}
use Rattle.group.specs.Groups.{verdict_of}
use Rattle.group.proofs.AskLaws.{answers, answered-all, answered_end, answered_outside, answered_more, plain_more}
use Rattle.group.proofs.asking.asked.Goals as goal

pub returns-then-is_bad_row : goal.returns-then-is_bad_row
unfolding verdict_of
returns-then-is_bad_row c = search rules

pub returns-in_err-line : goal.returns-in_err-line
returns-in_err-line c =
    let ls = c.args.row.now in
    let ps = c.args.places.now in
    let looked = rw c.in_err-line.ensures.ok_part at c.get.ensures.lookup in
    let refuses : verdict_of ls ps c.args.interval ≡ Err Place =
    sym (answered-all ls _ ps (sym c.is_bad_row.ensures ∙ c.if-is_bad_row.false))
    ∙ sym c.loop-place.invariant.left
    ∙ answered_outside ls _ c.loop-place.verdict ps _ c.loop-place-test.true (ltb-false (get_or ps c.loop-place.place-index 0) (length ls) (sym looked.0)) in
    rw refuses (search rules)

pub loop-place-preserved : goal.loop-place-preserved
loop-place-preserved c =
    let ls = c.args.row.now in
    let ps = c.args.places.now in
    let P = c.args.interval in
    let p : ℕ = get_or ps c.loop-place.place-index 0 in
    let v = c.loop-place.verdict in
    let looked = rw c.in_ok-line.ensures.ok_part at c.get.ensures.lookup in
    let inside : p < length ls = ltb-true p (length ls) (sym looked.0) in
    let here : c.in_ok-line.line.now ≡ get_or ls p blank_line = looked.1 ∙ get_or_default ls p c.in_ok-line.line.now blank_line inside in
    let said : c.answer.result ≡ answers ls P p = rw (c.answer.ensures, here) refl in
    record {
      left = rw (c.and-verdict.ensures, said) (sym (answered_more ls P v ps _ c.loop-place-test.true inside) ∙ c.loop-place.invariant.left);
      plain = rw (c.and-verdict.ensures, said) (plain_more ls P v p c.loop-place.invariant.plain);
    }

pub returns : goal.returns
returns c =
    let ps = c.args.places.now in
    sym (answered_end _ _ c.loop-place.verdict ps _ c.loop-place-test.false c.loop-place.invariant.plain)
    ∙ c.loop-place.invariant.left
    ∙ answered-all _ _ ps (sym c.is_bad_row.ensures ∙ c.if-is_bad_row.false)
