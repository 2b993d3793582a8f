-- What the contracts of dispatcher and group compute of a lent row is the step of the card, and so is what a call makes
-- of a line.
use Rattle.std.specs.Prelude.{◌≡◌, if◌then◌else◌, List, [], ◌++◌, map, ℕ, length, get_or, set, take, drop, Ok, Err}
use Rattle.std.specs.Prelude.{is_ok}
use Rattle.descriptor.specs.Refusals.{refusal_number}
use Rattle.line.specs.Lines.{Verdict, blank_line}
use Rattle.line.specs.declared.Line.{Line}
use Rattle.dispatcher.specs.Dispatch.{Reply, wrong_row, row_of, dispatch_of}
use Rattle.group.specs.Groups.{verdict_of, row_of as rated_by}
use Rattle.demand.specs.Calls.{Call, tick, Entry}
use Rattle.demand.specs.Machine.{Past, past, after_call, entries, line_after}
use Rattle.card_demand.specs.Card.{on_line, tick_row, group, CardReply, done, sends, refuses, card_entry}
use Rattle.card_demand.specs.Card.{Card, calls_at, row_after, Stepped, card_step}

-- the dispatcher's reply on the card: a refusal by its number
abbrev pub replied : Reply → CardReply
replied (Ok s) = sends s
replied (Err r) = refuses (refusal_number r)

-- the group's reply on the card
abbrev pub group_reply : Verdict → CardReply
group_reply (Ok k) = done
group_reply (Err r) = refuses (refusal_number r)

-- one call on a line: its entry, and the line after it
abbrev pub called_on : Line → Call → Past
called_on l c = after_call (past [] l) c

-- no entry on each of these lines
abbrev pub no_entries : List Line → List (List Entry)
no_entries ls = map (λ l. []) ls

-- the first m lines lent to the dispatcher: its contract gives the reply, the dispatcher and the row, and the other
-- lines stay; each lent line has the entry of its tick, unless the row is refused
abbrev pub lent_step : Card → ℕ → Stepped
lent_step k m =
    let row = take m k.lines in
    let others = drop m k.lines in
    let d = k.dispatcher in
    record {
      entry =
          card_entry (tick_row m) (replied (dispatch_of d row).reply)
          (if wrong_row d.length (length row) then []
          else map (λ l. entries (called_on l tick)) row ++ no_entries others);
      card = record { lines = row_of d row ++ others; dispatcher = (dispatch_of d row).dispatcher };
    }

-- the first m lines lent to a group: its contract gives the reply and the row, and the dispatcher and the other lines
-- stay; each line named has the entry of its rate command, unless the group is refused
abbrev pub group_step : Card → ℕ → List ℕ → ℕ → Stepped
group_step k m ps P =
    let row = take m k.lines in
    let others = drop m k.lines in
    let v = verdict_of row ps P in
    record {
      entry =
          card_entry (group m ps P) (group_reply v)
          (if is_ok v then map entries (row_after (calls_at (group m ps P)) k.lines) else []);
      card = record { lines = rated_by row ps P ++ others; dispatcher = k.dispatcher };
    }

-- a call on the line at place p and on no other; with no line there, on none
abbrev pub call_step : Card → ℕ → Call → Stepped
call_step k p c =
    let after = called_on (get_or k.lines p blank_line) c in
    record {
      entry = card_entry (on_line p c) done (set (no_entries k.lines) p (entries after));
      card = record { lines = set k.lines p (line_after after); dispatcher = k.dispatcher };
    }

pub record CardSteps : Type 0 where
  pub ticks : (k : Card) (m : ℕ) → card_step k (tick_row m) ≡ lent_step k m
  pub groups : (k : Card) (m : ℕ) (ps : List ℕ) (P : ℕ) → card_step k (group m ps P) ≡ group_step k m ps P
  pub calls : (k : Card) (p : ℕ) (c : Call) → card_step k (on_line p c) ≡ call_step k p c
