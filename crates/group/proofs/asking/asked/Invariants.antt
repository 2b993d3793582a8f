-- The answer of the group is that for the places that are left, where the lines before answered `verdict`.
use Rattle.std.proofs.Common.{◌≡◌, drop, Ok}
use Rattle.std.specs.Result.{result_and}
use Rattle.group.proofs.AskLaws.{answered}
use Rattle.group.proofs.asking.asked.Given as goal

abbrev pub invariant-loop-place : goal.invariant-loop-place
invariant-loop-place l = record {
  left : answered l.row l.interval l.verdict (drop l.place-index l.places) ≡ answered l.row l.interval (Ok 0) l.places;
  plain : result_and l.verdict (Ok 0) ≡ l.verdict;
}
