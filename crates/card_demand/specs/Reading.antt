-- What a card's history says of each line: read from its calls, its replies and the lines' entries alone.
use Rattle.std.specs.Prelude.{Bool, true, false, if◌then◌else◌, ◌&&◌, List, [], ◌∷◌, ◌++◌, ℕ, ◌+◌, min, nat_lt, ◌==◌}
use Rattle.std.specs.Prelude.{get_or}
use Rattle.std.specs.Prelude.{Option, Some, None}
use Rattle.std.specs.Option.{option_or, unwrap_or}
use Rattle.answers.specs.declared.Tick.{Tick}
use Rattle.dispatcher.specs.Dispatch.{place_after}
use Rattle.dispatcher.specs.declared.Waiting.{Waiting}
use Rattle.dispatcher.specs.declared.Notice.{Notice}
use Rattle.demand.specs.Calls.{Call, Entry}
use Rattle.card_demand.specs.Card.{CardCall, on_line, tick_row, group, done, sends, refuses, CardEntry}
use Rattle.card_demand.specs.Card.{calls_at, told_in}

-- ---- one line

-- the calls that it got, oldest first: a refused call on the card made none
abbrev pub calls_by : CardEntry → ℕ → List Call
calls_by e i = elim e.reply [ done ↦ calls_at e.call i | sends s ↦ calls_at e.call i | refuses n ↦ [] ]

unfoldable pub line_calls : List CardEntry → ℕ → List Call
line_calls [] i = []
line_calls (e ∷ h) i = line_calls h i ++ calls_by e i

-- its own history, newest first
unfoldable pub line_history : List CardEntry → ℕ → List Entry
line_history [] i = []
line_history (e ∷ h) i = get_or e.rows i [] ++ line_history h i

-- ---- ticks of the dispatcher

-- a tick that was taken is answered what it sends, if only nothing
abbrev pub is_tick : CardEntry → Bool
is_tick e = elim e.reply [ done ↦ false | sends s ↦ true | refuses n ↦ false ]

-- what an entry puts on the link
abbrev pub sent_in : CardEntry → Option Notice
sent_in e = elim e.reply [ done ↦ None | sends s ↦ s | refuses n ↦ None ]

abbrev pub one_if : Bool → ℕ → ℕ
one_if b n = if b then n + 1 else n

-- how many entries f holds of
unfoldable pub number : (CardEntry → Bool) → List CardEntry → ℕ
number f [] = 0
number f (e ∷ h) = one_if (f e) (number f h)

abbrev pub row_ticks : List CardEntry → ℕ
row_ticks h = number is_tick h

-- on a card of N lines
module _ (N : ℕ) where
  -- the lines lent to a call
  abbrev pub lent : CardCall → ℕ
  lent (on_line p c) = 0
  lent (tick_row m) = min m N
  lent (group m ps P) = min m N

  -- the length of the row at the first tick that was taken, if there was one
  unfoldable pub row_in : List CardEntry → Option ℕ
  row_in [] = None
  row_in (e ∷ h) = if is_tick e then option_or (row_in h) (Some (lent e.call)) else row_in h

  -- how many lines the row has: none before that tick
  abbrev pub row_length : List CardEntry → ℕ
  row_length h = unwrap_or (row_in h) 0

  -- the place after the last served, at first place 0
  unfoldable pub next_in : List CardEntry → ℕ
  next_in [] = 0
  next_in (e ∷ h) = elim (sent_in e) [ None ↦ next_in h | Some n ↦ place_after (row_length (e ∷ h)) n.place ]

-- ---- what fell on the line at place i in ticks of the dispatcher: f picks a completion or the report

abbrev pub tariff_done : Tick → Bool
tariff_done t = t.tariff

abbrev pub burst_done : Tick → Bool
burst_done t = t.burst

abbrev pub reported : Tick → Bool
reported t = t.report

abbrev pub fell : (Tick → Bool) → CardEntry → ℕ → Bool
fell f e i = is_tick e && f (told_in (get_or e.rows i []))

-- how many fell in all
abbrev pub fallen : (Tick → Bool) → List CardEntry → ℕ → ℕ
fallen f h i = number (λ e. fell f e i) h

-- the notice of the line
abbrev pub serves : CardEntry → ℕ → Bool
serves e i = elim (sent_in e) [ None ↦ false | Some n ↦ i == n.place ]

-- how many fell since its last notice
unfoldable pub since : (Tick → Bool) → List CardEntry → ℕ → ℕ
since f [] i = 0
since f (e ∷ h) i = if serves e i then 0 else one_if (fell f e i) (since f h i)

-- the reports that its notices carried
unfoldable pub sent_reports : List CardEntry → ℕ → ℕ
sent_reports [] i = 0
sent_reports (e ∷ h) i =
    let k = sent_reports h i in
    elim (sent_in e) [ None ↦ k | Some n ↦ if i == n.place then k + n.told.reports else k ]

-- ---- what there is to tell

-- a completion mark is set if one or more fell
abbrev pub marked : ℕ → Bool
marked n = nat_lt 0 n

-- where n says how many of each fell
abbrev pub telling_of : ((Tick → Bool) → ℕ) → Waiting
telling_of n = record { tariff = marked (n tariff_done); burst = marked (n burst_done); reports = n reported }

-- what is left to tell of the line at place i after a history
abbrev pub left : List CardEntry → ℕ → Waiting
left h i = telling_of (λ f. since f h i)

-- what there is to tell of it in the entry e, after the history h and before the notice of e goes
abbrev pub due : CardEntry → List CardEntry → ℕ → Waiting
due e h i = telling_of (λ f. one_if (fell f e i) (since f h i))
