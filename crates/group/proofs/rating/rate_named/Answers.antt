-- `rate_named` meets its contract: each turn gives the rate to the line at one place more, if it is not marked yet.
use Rattle.std.proofs.Common.{ℕ, arith, get_or, refl, sym, ◌∙◌}
use Rattle.group.specs.Marks.{with_mark, named_low}
use Rattle.group.proofs.MarkLaws.{is_marked, with_marks, none_marked, marked_here, marked_other, unmarked_low, unmarked_here, marked_again, marks_end, marks_more, marks-named}
use Rattle.group.proofs.RateLaws.{rated_none, rated_alike, rated_more}
use Rattle.group.proofs.rating.rate_named.Goals as goal
use Rattle.group.proofs.rating.rate_named.Goals.{then-is_unmarked+then-i-row, else-is_unmarked, else-is_unmarked-via-then-is_unmarked+else-i-row, else-is_unmarked-via-else-is_unmarked}

pub loop-place-init : goal.loop-place-init
loop-place-init c = record {
  rows = sym (rated_none (is_marked 0) c.args.interval c.args.row.now none_marked);
  left = refl;
}

pub loop-place-preserved : goal.loop-place-preserved
loop-place-preserved c =
    let ls = c.args.row.now in
    let ps = c.args.places.now in
    let P = c.args.interval in
    let w = c.loop-place.marks in
    let p : ℕ = get_or ps c.loop-place.place-index 0 in
    record {
      rows = elim c.if-is_unmarked.branch [
        | then-is_unmarked+then-i-row v ↦
            let new = sym c.is_unmarked.ensures ∙ v.if-is_unmarked.true in
            rw (v.row-is, v.take_rate.ensures, c.with_mark-marks.ensures, c.loop-place.invariant.rows)
            (rated_more (is_marked w) (is_marked (with_mark w p)) P p ls _ (unmarked_here w p new) (marked_here w p (unmarked_low w p new)) (marked_other w p) (omega (arith, v.if-i-row.true, c.loop-place.auto.row)))
        | else-is_unmarked v ↦
            rw (v.row-is, c.with_mark-marks.ensures, c.loop-place.invariant.rows)
            (rated_alike (is_marked w) (is_marked (with_mark w p)) P ls (λ i l.
            elim v.else-is_unmarked.branch [
              | else-is_unmarked-via-then-is_unmarked+else-i-row u ↦ sym (marked_other w p i (λ e. omega (arith, l, u.if-i-row.false, c.loop-place.auto.row, e)))
              | else-is_unmarked-via-else-is_unmarked u ↦ sym (marked_again w p (sym c.is_unmarked.ensures ∙ u.if-is_unmarked.false) i)
            ]))
      ];
      left = rw c.with_mark-marks.ensures (sym (marks_more w ps c.loop-place.place-index c.loop-place-test.true) ∙ c.loop-place.invariant.left);
    }

pub returns : goal.returns
returns c =
    let marks = sym (marks_end c.loop-place.marks c.args.places.now c.loop-place.place-index c.loop-place-test.false) ∙ c.loop-place.invariant.left in
    c.loop-place.invariant.rows
    ∙ rw marks (rated_alike (is_marked (with_marks 0 c.args.places.now)) (named_low c.args.places.now) c.args.interval c.args.row.now (λ i l. marks-named c.args.places.now i))
