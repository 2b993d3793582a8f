-- The loop's invariant: the digits that are left go on after `value` to the word's number.
use Rattle.std.proofs.Common.{◌≡◌, ◌≤◌, drop}
use Rattle.script.specs.Numbers.{top, number_of}
use Rattle.script.proofs.NumberLaws.{number_after}
use Rattle.script.proofs.numbers.number_in.Given as goal

abbrev pub invariant-loop-b : goal.invariant-loop-b
invariant-loop-b l = (l.value ≤ top) × (number_after l.value (drop l.b-index l.word) ≡ number_of l.word)
