-- What a whole text amounts to, by its notes: a refusal, or its parts with nine values at most of each phase list.
use Rattle.std.specs.Prelude.{Bool, ◌||◌, Result, Ok, Err, if◌then◌else◌}
use Rattle.phase_lists.specs.Lists.{Lists}
use Rattle.descriptor.specs.declared.Refusal.{Refusal}
use Rattle.descriptor.specs.declared.Refusal.TheVariants.{Grammar, Content}
use Rattle.grammar.specs.Meaning.{is_incomplete, tariff_by, burst_by, lists_by}
use Rattle.notes.specs.Noting.{has_in, values_at}
use Rattle.notes.specs.declared.Notes.{Notes}
use Rattle.outcomes.specs.declared.Reading.{Reading}

-- the seven phase lists, with what is kept of each
abbrev pub lists_of_reading : Reading → Lists
lists_of_reading r = lists_by (values_at r.values)

-- of a text that the grammar has: a refusal where a name or a value is wrong, or else the parts
unfoldable pub outcome_of : Notes → Result Reading Refusal
outcome_of n =
    if n.bad || is_incomplete (has_in n.values) then Err Content
    else Ok (record {
      tariff = tariff_by (has_in n.values) (values_at n.values);
      burst = burst_by (has_in n.values) (values_at n.values);
      values = n.values;
    })

-- bytes that are no whole text are refused before anything that was noted is looked at
unfoldable pub answer_of : Bool → Notes → Result Reading Refusal
answer_of whole n = if whole then outcome_of n else Err Grammar
