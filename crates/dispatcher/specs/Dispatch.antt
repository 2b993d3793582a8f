-- The dispatcher: what waits to be told of each line, whose turn it is, and what one tick of a card sends.
use Rattle.std.specs.Prelude.{Bool, false, not, if◌then◌else◌, ◌||◌, List, [], ◌∷◌, map, ℕ, zero, suc, ◌+◌, ◌-◌}
use Rattle.std.specs.Prelude.{min, nat_lt, ◌==◌, length, get_or, set, replicate, Option, Some, None, option_map}
use Rattle.std.specs.Prelude.{Result, Ok, Err}
use Rattle.std.specs.Option.{option_or}
use Rattle.answers.specs.declared.Tick.{Tick}
use Rattle.descriptor.specs.declared.Refusal.{Refusal}
use Rattle.descriptor.specs.declared.Refusal.TheVariants.{Row}
use Rattle.state.specs.Rules.{one_more}
use Rattle.line.specs.Lines.{tick_of}
use Rattle.line.specs.declared.Line.{Line}
use Rattle.dispatcher.specs.declared.Waiting.{Waiting}
use Rattle.dispatcher.specs.declared.Dispatcher.{Dispatcher}
use Rattle.dispatcher.specs.declared.Dispatched.{Dispatched}
use Rattle.dispatcher.specs.declared.Notice.{Notice}

-- ---- what waits to be told

abbrev pub nothing : Waiting
nothing = record { tariff = false; burst = false; reports = 0 }

-- there is something to tell
abbrev pub tells : Waiting → Bool
tells w = w.tariff || (w.burst || nat_lt 0 w.reports)

-- a mark is set if one or more completions fell; the number of reports is held at 4,294,967,295
abbrev pub gathered : Waiting → Tick → Waiting
gathered w t =
    record {
      tariff = w.tariff || t.tariff;
      burst = w.burst || t.burst;
      reports = if t.report then one_more w.reports else w.reports;
    }

-- what waits at each place, and what the ticks of the lines there told
unfoldable pub gather_all : List Waiting → List Tick → List Waiting
gather_all [] ts = []
gather_all (w ∷ ws) [] = w ∷ ws
gather_all (w ∷ ws) (t ∷ ts) = gathered w t ∷ gather_all ws ts

abbrev pub waits_in : List Waiting → ℕ → Waiting
waits_in ws i = get_or ws i nothing

-- ---- going round

-- the first of k places from i on of which f holds
unfoldable pub first_from : (ℕ → Bool) → ℕ → ℕ → Option ℕ
first_from f zero i = None
first_from f (suc k) i = if f i then Some i else first_from f k (suc i)

-- in a row of n, from place i to the end and then from place 0
abbrev pub going_round : (ℕ → Bool) → ℕ → ℕ → Option ℕ
going_round f n i = option_or (first_from f (n - i) i) (first_from f (min i n) 0)

abbrev pub place_after : ℕ → ℕ → ℕ
place_after n i = if nat_lt (i + 1) n then i + 1 else 0

-- whose turn it is in a row of n where w waits at each place, and next is the place after the last served
abbrev pub turn_of : (ℕ → Waiting) → ℕ → ℕ → Option ℕ
turn_of w n next = going_round (λ i. tells (w i)) n next

-- ---- one tick

-- no row yet
unfoldable pub fresh_dispatcher : Dispatcher
fresh_dispatcher = record { length = None; next = 0; waiting = replicate 64 nothing }

-- a row of n is empty or longer than 64
abbrev pub bad_row : ℕ → Bool
bad_row n = n == 0 || nat_lt 64 n

-- of another length than at first
abbrev pub other_row : Option ℕ → ℕ → Bool
other_row None n = false
other_row (Some first) n = not (n == first)

abbrev pub wrong_row : Option ℕ → ℕ → Bool
wrong_row first n = bad_row n || other_row first n

-- of the line at place i
abbrev pub notice : ℕ → Waiting → Notice
notice i told = record { place = i; told = told }

-- the notice of the line whose turn it is, where w waits at each place
abbrev pub sent_of : (ℕ → Waiting) → Option ℕ → Option Notice
sent_of w turn = option_map (λ i. notice i (w i)) turn

-- the dispatcher after it: serving clears what waits
abbrev pub served_by : ℕ → ℕ → List Waiting → Option ℕ → Dispatcher
served_by n next ws None = record { length = Some n; next = next; waiting = ws }
served_by n next ws (Some i) = record { length = Some n; next = place_after n i; waiting = set ws i nothing }

-- what is sent in a row of n whose lines' ticks told ts, and the dispatcher after it
abbrev pub sent_by : Dispatcher → ℕ → List Tick → Option Notice
sent_by d n ts = let w = waits_in (gather_all d.waiting ts) in sent_of w (turn_of w n d.next)

abbrev pub after_tick : Dispatcher → ℕ → List Tick → Dispatcher
after_tick d n ts = let ws = gather_all d.waiting ts in served_by n d.next ws (turn_of (waits_in ws) n d.next)

-- every line is ticked once
abbrev pub ticked_row : List Line → List Line
ticked_row ls = map (λ l. (tick_of l).line) ls

abbrev pub told_row : List Line → List Tick
told_row ls = map (λ l. (tick_of l).tick) ls

-- what a tick is answered: what it sends, or why the row is refused
abbrev pub Reply : Type 0
Reply = Result (Option Notice) Refusal

-- a wrong row is refused first of all, and then nothing moves
abbrev pub row_of : Dispatcher → List Line → List Line
row_of d ls = if wrong_row d.length (length ls) then ls else ticked_row ls

unfoldable pub dispatch_of : Dispatcher → List Line → Dispatched
dispatch_of d ls =
    if wrong_row d.length (length ls) then record { dispatcher = d; reply = Err Row } else
    record {
      dispatcher = after_tick d (length ls) (told_row ls);
      reply = Ok (sent_by d (length ls) (told_row ls));
    }
