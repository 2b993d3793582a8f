-- A card's history with the card after it, call by call: each line is what the calls that it got make of it, and the dispatcher
-- keeps what the history says.
use mathlib.Core.Path.{◌≡◌, refl, sym, ap, subst, ◌∙◌}
use mathlib.Core.Bool.{Bool, true, false, cond}
use mathlib.Core.List.{List, [], ◌∷◌, ◌++◌, map, append-nil}
use Prim.Native.Nat.{ℕ, min, ◌≤◌, ◌<◌}
use native.Mathlib.Decide.{dec_lt}
use native.Mathlib.Omega.{arith}
use borrow.Author.Tests.{le-ltb}
use lib.ListN.{length, get_or, take, length-map, get_or-map}
use Rattle.descriptor.specs.Refusals.{refusal_number}
use Rattle.line.specs.Lines.{Verdict, make_of, blank_line}
use Rattle.line.specs.declared.Line.{Line}
use Rattle.std.specs.Prelude.{Option, Some, None, Ok, Err}
use Rattle.dispatcher.specs.Dispatch.{wrong_row, sent_of, turn_of}
use Rattle.group.specs.Groups.{verdict_of}
use Rattle.demand.specs.Calls.{Call, tick, Entry}
use Rattle.demand.specs.Machine.{Past, past, after_calls, entries, line_after}
use Rattle.card_demand.specs.Card.{CardCall, on_line, tick_row, group, done, sends, refuses, CardEntry, card_entry, Card, calls_at, row_after, refused_with, refusal}
use Rattle.card_demand.specs.Card.{Stepped, step_by, card_step, CardPast, after_card_call, after_card_calls, Making, made, fresh_card, card_past, card_history}
use Rattle.card_demand.specs.Reading.{line_calls, line_history, row_in, next_in, due}
use Rattle.card_demand.specs.Claims.{no_making, AllSound, GroupDemand}
use Rattle.demand.proofs.Demand.{calls_append}
use Rattle.card_demand.proofs.Rows.{on_top, calls-on-top, row_at, row-none, row-past, lines-length}
use Rattle.card_demand.proofs.Kept.{Kept, accepted-row, kept_fresh, kept-done, kept-refused, sent_is, kept-tick}
use Rattle.card_demand.proofs.Group.{group-refused, group-taken}

module _ (ms : List Making) where
  abbrev N : ℕ
  N = length ms

  -- the line at place i as it was made
  abbrev start : ℕ → Past
  start i = past [] (made (get_or ms i no_making))

  pub record Coupled (h : List CardEntry) (k : Card) : Type 0 where
    pub size : length k.lines ≡ N
    pub lines : (i : ℕ) → i < N → past (line_history h i) (get_or k.lines i blank_line) ≡ after_calls (start i) (line_calls h i)
    pub kept : Kept N h k.dispatcher

  -- what a tick of the dispatcher is answered after a history, and what a group is
  abbrev pub Replied : List CardEntry → CardEntry → CardCall → Type 0
  Replied h e (on_line p c) = Unit {0}
  Replied h e (tick_row m) =
      e.reply ≡ cond (wrong_row (row_in N h) (min m N)) (refuses 14) (sends (sent_of (due e h) (turn_of (due e h) (min m N) (next_in N h))))
  Replied h e (group m ps P) = AllSound ms → GroupDemand ms h e (min m N) ps P

  pub record Step (h : List CardEntry) (s : Stepped) : Type 0 where
    pub replied : Replied h s.entry s.entry.call
    pub coupled : Coupled (s.entry ∷ h) s.card

  module _ (h : List CardEntry) (k : Card) (x : Coupled h k) where
    -- calls f on the lines
    line_step : (f : ℕ → List Call) (i : ℕ) → i < N →
        past (get_or (map entries (row_after f k.lines)) i [] ++ line_history h i) (get_or (map line_after (row_after f k.lines)) i blank_line)
        ≡ after_calls (start i) (line_calls h i ++ f i)
    line_step f i l =
        sym (calls_append (start i) (line_calls h i) (f i)
        ∙ ap (λ (p : Past). after_calls p (f i)) (sym (x.lines i l))
        ∙ calls-on-top (f i) (line_history h i) (get_or k.lines i blank_line)
        ∙ ap (on_top (line_history h i)) (sym (row_at f k.lines i (omega (arith, x.size)))))

    -- a refused call
    refused-lines : (c : CardCall) (r i : ℕ) → i < N →
        let s = step_by (Some r) k c in
        past (line_history (s.entry ∷ h) i) (get_or s.card.lines i blank_line) ≡ after_calls (start i) (line_calls (s.entry ∷ h) i)
    unfolding line_history line_calls
    refused-lines c r i l = rw (append-nil (line_calls h i)) (x.lines i l)

    refused-good : (c : CardCall) (r : ℕ) → Coupled ((step_by (Some r) k c).entry ∷ h) (step_by (Some r) k c).card
    refused-good c r = record { size = x.size; lines = refused-lines c r; kept = kept-refused N h k.dispatcher x.kept c [] r }

    abbrev rows_by : CardCall → List (List Entry)
    rows_by c = map entries (row_after (calls_at c) k.lines)

    -- a call that is done and leaves the dispatcher as it was
    done-good : (c : CardCall) →
        Coupled (card_entry c done (rows_by c) ∷ h) (record { lines = map line_after (row_after (calls_at c) k.lines); dispatcher = k.dispatcher })
    unfolding line_history line_calls
    done-good c = record {
      size = lines-length (calls_at c) k.lines ∙ x.size;
      lines = line_step (calls_at c);
      kept = kept-done N h k.dispatcher x.kept c (rows_by c);
    }

    group-good : (m : ℕ) (ps : List ℕ) (P : ℕ) (v : Verdict) → verdict_of (take m k.lines) ps P ≡ v → Step h (step_by (refused_with v) k (group m ps P))
    group-good m ps P (Ok n) e =
        record { replied = λ sound. group-taken ms sound h k.lines x.size x.lines m ps P n e; coupled = done-good (group m ps P) }
    group-good m ps P (Err r) e =
        record { replied = λ sound. group-refused ms sound h k.lines x.size x.lines m ps P r e; coupled = refused-good (group m ps P) (refusal_number r) }

    module _ (m : ℕ) where
      no-tick : (i : ℕ) → m ≤ i → calls_at (tick_row m) i ≡ []
      no-tick i l = ap (λ (b : Bool). cond b (tick ∷ []) []) (le-ltb i _ (omega arith))

      silent_out : (i : ℕ) → min m N ≤ i → get_or (rows_by (tick_row m)) i [] ≡ []
      silent_out i l = by (dec_lt i m)
        where
          by : Dec (i < m) → get_or (rows_by (tick_row m)) i [] ≡ []
          by (yes o) = row-past (calls_at (tick_row m)) k.lines i (omega (arith, x.size))
          by (no o) = row-none (calls_at (tick_row m)) k.lines i (no-tick i (omega arith))

      -- the length that the dispatcher keeps is the first of the history
      refusal_is : refusal k (tick_row m) ≡ cond (wrong_row (row_in N h) (min m N)) (Some 14) None
      refusal_is = λ i. cond (wrong_row (x.kept.row i) (min m (x.size i))) (Some 14) None

      tick-good : (b : Bool) → wrong_row (row_in N h) (min m N) ≡ b → Step h (step_by (cond b (Some 14) None) k (tick_row m))
      unfolding line_history line_calls
      tick-good true e = record { replied = rw e; coupled = refused-good (tick_row m) 14 }
      tick-good false e =
          let ok = accepted-row (row_in N h) (min m N) e in
          record {
            replied = rw (e, x.size) (ap sends (sent_is N h k.dispatcher x.kept m (rows_by (tick_row m)) ok silent_out));
            coupled = record {
              size = lines-length (calls_at (tick_row m)) k.lines ∙ x.size;
              lines = line_step (calls_at (tick_row m));
              kept = rw x.size (kept-tick N h k.dispatcher x.kept m (rows_by (tick_row m)) ok silent_out);
            };
          }

    step-good : (c : CardCall) → Step h (card_step k c)
    step-good (on_line p c) = record { replied = tt; coupled = done-good (on_line p c) }
    step-good (tick_row m) =
        subst (λ (r : Option ℕ). Step h (step_by r k (tick_row m))) (sym (refusal_is m)) (tick-good m (wrong_row (row_in N h) (min m N)) refl)
    step-good (group m ps P) = group-good m ps P (verdict_of (take m k.lines) ps P) refl

  -- ---- histories
  pub data Run : List CardEntry → Card → Type 0 where
    begin : Run [] (fresh_card ms)
    more : {h : List CardEntry} {k : Card} (c : CardCall) → Run h k → Run ((card_step k c).entry ∷ h) (card_step k c).card

  fresh-good : Coupled [] (fresh_card ms)
  unfolding line_history line_calls after_calls make_of blank_line
  fresh-good = record { size = length-map ms made; lines = λ i l. ap (λ (k : Line). past [] k) (get_or-map made ms i no_making); kept = kept_fresh N }

  pub good : {h : List CardEntry} {k : Card} → Run h k → Coupled h k
  good begin = fresh-good
  good (more {h = h} {k = k} c r) = (step-good h k (good r) c).coupled

  pub replied : {h : List CardEntry} {e : CardEntry} {k : Card} → Run (e ∷ h) k → Replied h e e.call
  replied (more {h = h} {k = k} c r) = (step-good h k (good r) c).replied

  pub cut : {k : Card} (a h : List CardEntry) → Run (a ++ h) k → (k' : Card) × Run h k'
  cut {k = k} [] h r = (k, r)
  cut (_ ∷ a) h (more {k = k} c r) = cut {k = k} a h r

  run-calls : (p : CardPast) (cs : List CardCall) → Run p.history p.card → Run (after_card_calls p cs).history (after_card_calls p cs).card
  unfolding after_card_calls
  run-calls p [] r = r
  run-calls p (c ∷ cs) r = run-calls (after_card_call p c) cs (more c r)

  pub run-history : (cs : List CardCall) → Run (card_history ms cs) (card_past ms cs).card
  unfolding card_past
  run-history cs = run-calls (record { history = []; card = fresh_card ms }) cs begin
