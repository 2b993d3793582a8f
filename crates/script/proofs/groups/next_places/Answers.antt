use Rattle.std.proofs.Common.{rules, ◌≡◌, ◌<◌, ◌≤◌, false, true, length, nat_lt}
use Rattle.script.specs.Words.{words_of}
use Rattle.script.specs.Readers.{no_word}
use Rattle.script.proofs.GroupLaws.{next_place, last-place, full}
use Rattle.script.proofs.groups.next_places.Goals as goal
use Rattle.script.proofs.groups.next_places.Goals.{then-loop-rest-test+else-not-ended, else-loop-rest-test}

pub loop-rest-preserved : goal.loop-rest-preserved
loop-rest-preserved c =
    let left : no_word (words_of c.loop-rest.rest.now) ≡ false = cc in
    let room : length c.loop-rest.places < 64 = search rules in
    let has : nat_lt (length c.loop-rest.places) 64 ≡ true = search rules in
    rw (c.push.ensures, has) (next_place _ _ _ c.loop-rest.invariant _ _ room left c.in_ok-place.ensures.read)

pub returns : goal.returns
returns c =
    elim c.loop-rest-test.branch [
      | then-loop-rest-test+else-not-ended w ↦
          let none : no_word (words_of c.loop-rest.rest.now) ≡ true = cc in last-place _ _ _ c.loop-rest.invariant none
      | else-loop-rest-test w ↦
          let all : 64 ≤ length c.loop-rest.places = search rules in full _ _ _ c.loop-rest.invariant all
    ]
