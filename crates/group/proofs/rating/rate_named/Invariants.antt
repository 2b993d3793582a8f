-- The lines that are marked have the rate, and the places that are left are still to be marked.
use Rattle.std.proofs.Common.{◌≡◌, drop}
use Rattle.group.specs.Groups.{rated_row}
use Rattle.group.proofs.MarkLaws.{is_marked, with_marks}
use Rattle.group.proofs.rating.rate_named.Given as goal

abbrev pub invariant-loop-place : goal.invariant-loop-place
invariant-loop-place l = record {
  rows : l.row ≡ rated_row (is_marked l.marks) l.interval l.initial.row;
  left : with_marks l.marks (drop l.place-index l.places) ≡ with_marks 0 l.places;
}
