-- R-4 to R-6: one claim about the history of every list of calls on a card of fresh lines with a fresh dispatcher.
use Rattle.std.specs.Prelude.{◌≡◌, true, false, if◌then◌else◌, List, [], ◌∷◌, ◌++◌, ℕ, ◌+◌, ◌^◌, min, ◌≤◌, ◌<◌}
use Rattle.std.specs.Prelude.{length, get_or}
use Rattle.std.specs.Prelude.{Option, Some}
use Rattle.descriptor.specs.Refusals.{sound_configuration}
use Rattle.dispatcher.specs.Dispatch.{tells, notice, bad_row, wrong_row, sent_of, turn_of, waits_in}
use Rattle.dispatcher.specs.declared.Waiting.{Waiting}
use Rattle.group.specs.Groups.{named, outside}
use Rattle.demand.specs.Calls.{Call, Answer, accepted, refused, asked, counters, ticked, Entry}
use Rattle.demand.specs.Answers.{answer_after}
use Rattle.demand.specs.Machine.{history}
use Rattle.demand.specs.Demand.{Demand3}
use Rattle.demand.specs.Tickets.{Tickets}
use Rattle.card_demand.specs.Card.{CardCall, tick_row, group, CardReply, done, sends, refuses, CardEntry}
use Rattle.card_demand.specs.Card.{rate, Making, card_past, card_history}
use Rattle.card_demand.specs.Reading.{line_calls, line_history, row_ticks, row_in, row_length, next_in, reported}
use Rattle.card_demand.specs.Reading.{fallen, sent_reports, left, due}

-- stands where the card has no line
abbrev pub no_making : Making
no_making = record { D = 0; G = 0; clock = 0 }

-- each line has an accepted configuration, and a clock of 32 bits
abbrev pub AllSound : List Making → Type 0
AllSound ms =
    (i : ℕ) → i < length ms →
    let m = get_or ms i no_making in (sound_configuration m.D m.G ≡ true) × (m.clock < 2 ^ 32)

-- a notice of the line at place i goes within k ticks of the dispatcher
abbrev pub HeardWithin : ℕ → ℕ → List CardEntry → Type 0
HeardWithin i k part =
    (after until : List CardEntry) × (e : CardEntry) × (told : Waiting) × (part ≡ after ++ (e ∷ until)) ×
    (e.reply ≡ sends (Some (notice i told))) × (row_ticks (e ∷ until) ≤ k)

-- ---- a rate command for a group of lines

-- the number of an answer that refuses, else r
abbrev pub refusal_else : Answer → CardReply → CardReply
refusal_else a r = elim a [ accepted k ↦ r | refused n ↦ refuses n | asked w n ↦ r | counters m n ↦ r | ticked t ↦ r ]

-- where f says what the line at each place would answer, the number of the first place in list order that refuses; done
-- if none does
unfoldable pub first_refused : (ℕ → Answer) → List ℕ → CardReply
first_refused f [] = done
first_refused f (p ∷ ps) = refusal_else (f p) (first_refused f ps)

-- refused with 14 for a row that is empty or longer than 64, then with 15 for a place outside the row, and then with
-- the number of the first line in list order that would refuse
abbrev pub rate_reply : ℕ → List ℕ → (ℕ → Answer) → CardReply
rate_reply n ps f = if bad_row n then refuses 14 else if outside ps n then refuses 15 else first_refused f ps

-- the line at place i got one call in the entry e, a rate command, and accepted it: no burst pulse is cancelled
abbrev pub TookRate : CardEntry → ℕ → ℕ → Type 0
TookRate e i P =
    (x : Entry) × (get_or e.rows i [] ≡ x ∷ []) × (x.call ≡ rate P) × (x.answer ≡ accepted 0)

-- the line at place i got no call in the entry e
abbrev pub GotNone : CardEntry → ℕ → Type 0
GotNone e i = get_or e.rows i [] ≡ []

-- on a card of these lines, after a history
module _ (ms : List Making) (before : List CardEntry) where
  -- what the paper has the line at place p answer to a call after its own history
  abbrev pub answered_after : ℕ → Call → Answer
  answered_after p c = let m = get_or ms p no_making in answer_after m.D (m.D + m.G) (line_history before p) c

  -- the entry e of a rate command for the lines at the places ps in a row of n: it is taken by all of them or by none
  pub record GroupDemand (e : CardEntry) (n : ℕ) (ps : List ℕ) (P : ℕ) : Type 0 where
    -- done or refused, where each line would answer what the paper has it answer
    pub reply : e.reply ≡ rate_reply n ps (λ p. answered_after p (rate P))
    -- not refused: every line named took it, and took it once, however often it is named
    pub all : e.reply ≡ done → (i : ℕ) → named ps i ≡ true → TookRate e i P
    -- a line that is not named got no call
    pub others : (i : ℕ) → named ps i ≡ false → GotNone e i
    -- refused: no line got a call, so that none changes
    pub none : (number : ℕ) → e.reply ≡ refuses number → (i : ℕ) → GotNone e i

-- a list of calls on a card; i is the place of a line
module _ (ms : List Making) (cs : List CardCall) where
  abbrev h : List CardEntry
  h = card_history ms cs

  abbrev making : ℕ → Making
  making i = get_or ms i no_making

  -- the length of the row after a part of the history, if there was a row by then
  abbrev row : List CardEntry → Option ℕ
  row part = row_in (length ms) part

  -- how many lines the row has: none before its first tick
  abbrev size : List CardEntry → ℕ
  size part = row_length (length ms) part

  -- the place after the last served, at first place 0
  abbrev next : List CardEntry → ℕ
  next part = next_in (length ms) part

  pub record CardDemand : Type 0 where
    -- a line answers the calls that it got as a line by itself does: the ticks of the dispatcher are among them, and
    -- the rate command of a group is a descriptor of each line named
    pub alone : (i : ℕ) → i < length ms →
        line_history h i ≡ history (making i).D (making i).G (making i).clock (line_calls h i)
    -- and demand 3 holds of them
    pub demand3 : (i : ℕ) → i < length ms → Demand3 (making i).D (making i).G (making i).clock (line_calls h i)
    -- and its tickets hold as they do on a line by itself
    pub tickets : (i : ℕ) → i < length ms → Tickets (making i).D (making i).G (making i).clock (line_calls h i)
    -- a tick of the dispatcher is refused with 14 exactly for a row that is empty, longer than 64 or of another length
    -- than at first; else it sends the notice of the first line with something to tell, going round from the line after
    -- the last served, or no notice if there is none; a notice carries exactly what fell since the line's last one
    pub reply : (after before : List CardEntry) (e : CardEntry) (m : ℕ) → h ≡ after ++ (e ∷ before) →
        e.call ≡ tick_row m →
        let n = min m (length ms) in
        e.reply ≡
        (if wrong_row (row before) n then refuses 14
        else sends (sent_of (due e before) (turn_of (due e before) n (next before))))
    -- a line with something to tell is heard within as many ticks of the dispatcher as the row has lines, if so many
    -- follow; the tick in which it fell counts as one of them
    pub heard : (rest before : List CardEntry) (e : CardEntry) (i : ℕ) → h ≡ rest ++ (e ∷ before) →
        tells (due e before i) ≡ true → size (e ∷ before) ≤ row_ticks (rest ++ (e ∷ [])) →
        HeardWithin i (size (e ∷ before)) (rest ++ (e ∷ []))
    -- a rate command for a group is one entry, so that all of its lines or none take it in the same tick gap
    pub group : (after before : List CardEntry) (e : CardEntry) (m : ℕ) (ps : List ℕ) (P : ℕ) →
        h ≡ after ++ (e ∷ before) → e.call ≡ group m ps P → GroupDemand ms before e (min m (length ms)) ps P
    -- a row has at most 64 lines
    pub fits : size h ≤ 64
    -- and so it is heard within 64 ticks, if so many follow
    pub heard_in_64 : (rest before : List CardEntry) (e : CardEntry) (i : ℕ) → h ≡ rest ++ (e ∷ before) →
        tells (due e before i) ≡ true → 64 ≤ row_ticks (rest ++ (e ∷ [])) → HeardWithin i 64 (rest ++ (e ∷ []))
    -- the dispatcher's record holds the length of the row, the place after the last served, and what is left to tell
    pub holds :
        let d = (card_past ms cs).card.dispatcher in
        (d.length ≡ row h) × (d.next ≡ next h) × ((i : ℕ) → waits_in d.waiting i ≡ left h i)
    -- the reports made in the dispatcher's ticks were sent in notices, or wait
    pub conserved : (i : ℕ) → fallen reported h i ≡ sent_reports h i + (left h i).reports
    -- at most 63 wait, so that their number is never held
    pub few : (i : ℕ) → (left h i).reports ≤ 63
