use Rattle.std.proofs.Common.{◌≡◌, ◌∙◌, ◌+◌, ◌*◌, ◌-◌, sym, rules, arith, true, false, get_or, drop}
use Rattle.std.proofs.lemmas.List.{drop_all}
use Rattle.script.specs.Numbers.{is_digit}
use Rattle.script.proofs.NumberLaws.{number_after, past_top, no_more, from_zero, digit-on, no-digit}
use Rattle.script.proofs.numbers.number_in.Goals as goal

pub loop-b-init : goal.loop-b-init
loop-b-init c = (omega arith, from_zero c.args.word.now (search rules))

pub returns-then-not-is_ascii_digit : goal.returns-then-not-is_ascii_digit
returns-then-not-is_ascii_digit c =
    let l = c.loop-b in
    let other : is_digit (get_or c.args.word.now l.b-index 0) ≡ false = search rules in
    sym (no-digit l.value c.args.word.now l.b-index c.loop-b-test.true other) ∙ l.invariant.1

pub returns-then-value-gt4294967295 : goal.returns-then-value-gt4294967295
returns-then-value-gt4294967295 c =
    let l = c.loop-b in
    let digit : is_digit (get_or c.args.word.now l.b-index 0) ≡ true = search rules in
    let worth : c.from.result ≡ get_or c.args.word.now l.b-index 0 - 48 = search rules in
    let on : number_after l.value (drop l.b-index c.args.word.now) ≡ number_after (10 * l.value + c.from.result) (drop (l.b-index + 1) c.args.word.now)
    = rw worth (digit-on l.value c.args.word.now l.b-index c.loop-b-test.true digit) in
    sym (on ∙ past_top _ _ c.if-value-gt4294967295.true) ∙ l.invariant.1

pub loop-b-preserved : goal.loop-b-preserved
loop-b-preserved c =
    let l = c.loop-b in
    let digit : is_digit (get_or c.args.word.now l.b-index 0) ≡ true = search rules in
    let worth : c.from.result ≡ get_or c.args.word.now l.b-index 0 - 48 = search rules in
    let on : number_after l.value (drop l.b-index c.args.word.now) ≡ number_after (10 * l.value + c.from.result) (drop (l.b-index + 1) c.args.word.now)
    = rw worth (digit-on l.value c.args.word.now l.b-index c.loop-b-test.true digit) in
    (c.if-value-gt4294967295.false, sym on ∙ l.invariant.1)

pub returns : goal.returns
returns c =
    let l = c.loop-b in
    sym (no_more l.value l.invariant.0) ∙ (rw (drop_all _ c.args.word.now c.loop-b-test.false) at l.invariant.1)
