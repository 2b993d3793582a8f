-- The lines that `card` reads.
use Rattle.std.specs.Prelude.{ℕ, zero, suc, Bool, List, [], ◌∷◌, take}
use Rattle.std.specs.Prelude.{Option, Some, None, if◌then◌else◌}
use Rattle.descriptor.specs.declared.Configuration.{Configuration}
use Rattle.script.specs.Words.{same, words_of}
use Rattle.script.specs.Runs.{past_blanks, past_first}
use Rattle.script.specs.Readers.{Reader, ◌>>=◌, give, valued, ◌<|>◌, word, number, lookup, choice, no_word, whole}
use Rattle.script.specs.Commands.{configure, period, describe, hook, run}
use Rattle.script.specs.declared.Command.{Command}
use Rattle.script.specs.declared.Command.TheVariants.{Configure, Period, NoPeriod, Describe, OnHook, Run}
use Rattle.script.specs.declared.Giving.{Giving}
use Rattle.script.specs.declared.Giving.TheVariants.{Take, Ask, Commit}
use Rattle.script.specs.declared.Target.{Target}
use Rattle.printing.specs.Bytes.{bytes}

-- the line at a place, to which a descriptor is given so
abbrev pub target : ℕ → Giving → Target
target place giving = record { place = place; giving = giving }

-- what a line of a card's script asks, with the bytes of its text
pub data CardLine : Type 0 where
  Add : (configuration : Configuration) → CardLine
  On : (target : Target) (command : Command) → CardLine
  Audit : (place : ℕ) → CardLine
  Text : (target : Target) (text : List ℕ) → CardLine
  Tick : (ticks : ℕ) → CardLine
  Group : (interval : ℕ) (places : List ℕ) → CardLine

-- what a command of `meter` asks of the row: cfg adds a line to it, and run makes ticks of it
abbrev pub of_row : Command → Option CardLine
of_row (Configure c) = Some (Add c)
of_row (Period n) = None
of_row NoPeriod = None
of_row (Describe t k u) = None
of_row (OnHook h) = None
of_row (Run t) = Some (Tick t)

-- a command of `meter` on the line at a place
abbrev pub of_place : Target → Command → CardLine
of_place to c = On to c

-- reads what `meter` reads, and gives what it asks of the row
abbrev pub for_row : Reader Command → Reader CardLine
for_row r = do
  c ← r
  valued (of_row c)

-- reads what `meter` reads, and gives it for the line at a place
abbrev pub for_place : Target → Reader Command → Reader CardLine
for_place to r = do
  c ← r
  give (of_place to c)

-- reads all the words that are left, and gives a
abbrev pub all : {A : Type 0} → A → Reader A
all a ws = Some (a, [])

-- whether a word begins with `SG`
abbrev pub is_text : List ℕ → Bool
is_text w = same (take 2 w) (bytes "SG")

-- a descriptor for the line at a place, where l is left of the script's line: a text, up to its end, or `sig T U`
abbrev pub given : Target → List ℕ → Reader CardLine
given to l = do
  w ← word
  if is_text w then all (Text to (past_blanks l)) else lookup w (("sig", for_place to describe) ∷ [])

-- what follows `commit`: N, and a descriptor
abbrev pub commit : List ℕ → ℕ → Reader CardLine
commit l place = do
  n ← number
  given (target place (Commit n)) (past_first l)

-- what follows `at I` and is no descriptor to be taken, where l is left
abbrev pub other : List ℕ → ℕ → Reader CardLine
other l place =
    choice
    (("audit", give (Audit place))
    ∷ ("rp", for_place (target place Take) period)
    ∷ ("hook", for_place (target place Take) hook)
    ∷ ("ask", given (target place Ask) (past_first l))
    ∷ ("commit", commit (past_first l) place)
    ∷ [])

-- what follows `at I`, where l is left
abbrev pub placed : List ℕ → ℕ → Reader CardLine
placed l place = given (target place Take) l <|> other l place

-- what follows `at`: I, and what is for the line there
abbrev pub at_place : List ℕ → Reader CardLine
at_place l = do
  place ← number
  placed (past_first l) place

-- gives a where no word is left, and reads what r does where one is
abbrev pub unless : {A : Type 0} → A → Reader A → Reader A
unless a r ws = if no_word ws then give a ws else r ws

-- reads at most k numbers, up to the last word
abbrev pub numbers : ℕ → Reader (List ℕ)
numbers zero = give []
numbers (suc k) = unless [] (do
  n ← number
  ns ← numbers k
  give (n ∷ ns))

-- the places of a group, as they stand in a text: its first 64 numbers, and none where a word of these is none
abbrev pub places_at : List ℕ → List ℕ
places_at l = elim (numbers 64 (words_of l)) [ None ↦ [] | Some (ps, ws) ↦ ps ]

-- what follows `group`: P, and none to 64 places
abbrev pub grouped : Reader (ℕ × List ℕ)
grouped = do
  p ← number
  ps ← numbers 64
  give (p, ps)

-- `group P I J ..`
abbrev pub group : Reader CardLine
group = do
  g ← grouped
  give (Group g.0 g.1)

-- the line l: `cfg D G clock`, `tick T`, T as in `run T`, `at I ..`, or `group ..`
abbrev pub card_command : List ℕ → Reader CardLine
card_command l =
    choice
    (("cfg", for_row configure)
    ∷ ("tick", for_row run)
    ∷ ("at", at_place (past_first l))
    ∷ ("group", group)
    ∷ [])

-- what a line of a card's script asks, if it is one
abbrev pub card_command_of : List ℕ → Option CardLine
card_command_of l = whole (card_command l (words_of l))
