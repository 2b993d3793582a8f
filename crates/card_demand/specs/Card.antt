-- A card: lines in a row and their dispatcher, the calls on it, and the history of a list of them.
use Rattle.std.specs.Prelude.{if◌then◌else◌, List, [], ◌∷◌, map, ℕ, suc, min, nat_lt, ◌==◌, length, take}
use Rattle.std.specs.Prelude.{Option, Some, None, Ok, Err}
use Rattle.answers.specs.Fronts.{silent}
use Rattle.answers.specs.declared.Tick.{Tick}
use Rattle.phase_lists.specs.Lists.{no_lists}
use Rattle.descriptor.specs.Refusals.{refusal_number}
use Rattle.descriptor.specs.declared.TariffPart.TheVariants.{Rate}
use Rattle.descriptor.specs.declared.BurstPart.TheVariants.{Keep}
use Rattle.line.specs.Lines.{Verdict, make_of, made_or_blank}
use Rattle.line.specs.declared.Line.{Line}
use Rattle.dispatcher.specs.Dispatch.{fresh_dispatcher, wrong_row, sent_by, after_tick}
use Rattle.dispatcher.specs.declared.Dispatcher.{Dispatcher}
use Rattle.dispatcher.specs.declared.Notice.{Notice}
use Rattle.group.specs.Groups.{named, verdict_of}
use Rattle.demand.specs.Calls.{Call, tick, Entry}
use Rattle.demand.specs.History.{told}
use Rattle.demand.specs.Machine.{parts, Past, past, after_calls, entries, line_after}

-- a call on the line at place p; a tick of the dispatcher, and a rate command for the lines at the places ps, both on
-- the first m lines of the card, lent
pub data CardCall : Type 0 where
  on_line : (p : ℕ) (c : Call) → CardCall
  tick_row : (m : ℕ) → CardCall
  group : (m : ℕ) (ps : List ℕ) (P : ℕ) → CardCall

-- done, the line's answer standing in its own entry; what a tick of the dispatcher sends; a refusal's number
pub data CardReply : Type 0 where
  done : CardReply
  sends : (s : Option Notice) → CardReply
  refuses : (number : ℕ) → CardReply

-- a call, its reply, and the entries that it made on each line of the card, none or one; a refused call made no entry
pub record CardEntry : Type 0 where
  pub call : CardCall
  pub reply : CardReply
  pub rows : List (List Entry)

abbrev pub card_entry : CardCall → CardReply → List (List Entry) → CardEntry
card_entry c r rows = record { call = c; reply = r; rows = rows }

pub record Card : Type 0 where
  pub lines : List Line
  pub dispatcher : Dispatcher

-- ---- one call

-- a rate command, burst keep
abbrev pub rate : ℕ → Call
rate P = parts (Rate P) no_lists Keep

-- the calls that it makes on the line at place i, if it is not refused
abbrev pub calls_at : CardCall → ℕ → List Call
calls_at (on_line p c) i = if i == p then c ∷ [] else []
calls_at (tick_row m) i = if nat_lt i m then tick ∷ [] else []
calls_at (group m ps P) i = if named ps i then rate P ∷ [] else []

-- where the line at each place i gets the calls f i: the entries that they make, and the line after them
unfoldable pub row_after : (ℕ → List Call) → List Line → List Past
row_after f [] = []
row_after f (l ∷ ls) = after_calls (past [] l) (f 0) ∷ row_after (λ i. f (suc i)) ls

-- what the dispatcher learns of a line on which its tick made these entries
abbrev pub told_in : List Entry → Tick
told_in [] = silent
told_in (e ∷ es) = told e.answer

-- the number that a verdict refuses with
abbrev pub refused_with : Verdict → Option ℕ
refused_with (Ok k) = None
refused_with (Err r) = Some (refusal_number r)

-- the number that it is refused with; a card that is shorter than m is lent whole
abbrev pub refusal : Card → CardCall → Option ℕ
refusal k (on_line p c) = None
refusal k (tick_row m) = if wrong_row k.dispatcher.length (min m (length k.lines)) then Some 14 else None
refusal k (group m ps P) = refused_with (verdict_of (take m k.lines) ps P)

-- not refused: its reply where it made these entries, and the dispatcher after it
abbrev pub reply_to : CardCall → Card → List (List Entry) → CardReply
reply_to (on_line p c) k rows = done
reply_to (tick_row m) k rows = sends (sent_by k.dispatcher (min m (length k.lines)) (map told_in rows))
reply_to (group m ps P) k rows = done

abbrev pub dispatcher_after : CardCall → Card → List (List Entry) → Dispatcher
dispatcher_after (on_line p c) k rows = k.dispatcher
dispatcher_after (tick_row m) k rows = after_tick k.dispatcher (min m (length k.lines)) (map told_in rows)
dispatcher_after (group m ps P) k rows = k.dispatcher

-- a call's entry and the card after it
pub record Stepped : Type 0 where
  pub entry : CardEntry
  pub card : Card

abbrev pub taken_by : Card → CardCall → List Past → Stepped
taken_by k c ps =
    let rows = map entries ps in
    record {
      entry = card_entry c (reply_to c k rows) rows;
      card = record { lines = map line_after ps; dispatcher = dispatcher_after c k rows };
    }

-- a refused call leaves the card as it was
abbrev pub step_by : Option ℕ → Card → CardCall → Stepped
step_by (Some number) k c = record { entry = card_entry c (refuses number) []; card = k }
step_by None k c = taken_by k c (row_after (calls_at c) k.lines)

abbrev pub card_step : Card → CardCall → Stepped
card_step k c = step_by (refusal k c) k c

-- ---- a list of calls

-- a history, newest first, and the card after it
pub record CardPast : Type 0 where
  pub history : List CardEntry
  pub card : Card

abbrev pub after_card_call : CardPast → CardCall → CardPast
after_card_call p c = let s = card_step p.card c in record { history = s.entry ∷ p.history; card = s.card }

unfoldable pub after_card_calls : CardPast → List CardCall → CardPast
after_card_calls p [] = p
after_card_calls p (c ∷ cs) = after_card_calls (after_card_call p c) cs

-- the pulse length, gap and clock that a line is made of
pub record Making : Type 0 where
  pub D : ℕ
  pub G : ℕ
  pub clock : ℕ

-- the line that is made, or a blank one where they are refused
abbrev pub made : Making → Line
made m = made_or_blank (make_of m.D m.G m.clock)

-- from a card of fresh lines, with a fresh dispatcher
abbrev pub fresh_card : List Making → Card
fresh_card ms = record { lines = map made ms; dispatcher = fresh_dispatcher }

unfoldable pub card_past : List Making → List CardCall → CardPast
card_past ms cs = after_card_calls (record { history = []; card = fresh_card ms }) cs

abbrev pub card_history : List Making → List CardCall → List CardEntry
card_history ms cs = (card_past ms cs).history
