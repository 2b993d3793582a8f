-- The reader as the code has it, byte by byte: the place in the grammar, the piece that is being read, and what ended.
use Rattle.std.specs.Prelude.{ℕ, ◌+◌, Bool, true, false, List, [], ◌∷◌, ◌==◌, nat_lt, if◌then◌else◌}
use Rattle.std.specs.Prelude.{Option, Some, None, option_map, option_and_then}
use Rattle.std.specs.Option.{option_or}
use Rattle.grammar.specs.Grammar.{bytes, Piece, SG, amet/, KA, opens, shuts, from, to, comma, equals, name, number}
use Rattle.grammar.specs.Reader.{Class, small, digit, blank, slash, S, G, K, A, other, mark, class_of}
use Rattle.scanner.specs.Codes.{next_letter, next_digit, code_of, number_of}
use Rattle.scanner.specs.declared.Token.{Token}
use Rattle.scanner.specs.declared.Token.TheVariants.{Name, Number, Sg, Amet, Ka, Opens, Shuts, From, To, Comma, Equals}
use Rattle.scanner.specs.declared.Mode.{Mode}
use Rattle.scanner.specs.declared.Mode.TheVariants.{Fresh, Between, InSg, InKa, InName, InNumber}
use Rattle.scanner.specs.declared.places.Place.{Place}
use Rattle.scanner.specs.declared.places.Place.TheVariants.{Nothing, Begun, ToFirstSignal, ToSignal, ToName, Named}
use Rattle.scanner.specs.declared.places.Place.TheVariants.{ToItem, ItemNamed, ToValue, ToNumber, ItemRead, NumberRead}
use Rattle.scanner.specs.declared.places.Place.TheVariants.{SignalRead, Whole}
use Rattle.scanner.specs.declared.Scanner.{Scanner}
use Rattle.scanner.specs.declared.Turn.{Turn}

-- ---- pieces as the code tells them: a name by its code, a number by its value

abbrev pub token_of : Piece → Token
token_of (name w) = Name (code_of w)
token_of (number w) = Number (number_of w)
token_of SG = Sg
token_of amet/ = Amet
token_of KA = Ka
token_of opens = Opens
token_of shuts = Shuts
token_of from = From
token_of to = To
token_of comma = Comma
token_of equals = Equals

-- their kinds, as the grammar numbers them
abbrev pub kind_no : Token → ℕ
kind_no (Name c) = 0
kind_no (Number v) = 1
kind_no Sg = 2
kind_no Amet = 3
kind_no Ka = 4
kind_no Opens = 5
kind_no Shuts = 6
kind_no From = 7
kind_no To = 8
kind_no Comma = 9
kind_no Equals = 10

-- ---- places

-- a kind of piece, and the place after it
pub data Edge : Type 0 where
  ◌⇢◌ : (kind : ℕ) (place : Place) → Edge

infix 20 ◌⇢◌
-- what may come at each place
abbrev pub row_of : Place → List Edge
row_of Nothing = (2 ⇢ Begun) ∷ []
row_of Begun = (5 ⇢ ToFirstSignal) ∷ []
row_of ToFirstSignal = (3 ⇢ ToName) ∷ (6 ⇢ Whole) ∷ []
row_of ToSignal = (3 ⇢ ToName) ∷ []
row_of ToName = (0 ⇢ Named) ∷ []
row_of Named = (5 ⇢ ToItem) ∷ (9 ⇢ ToSignal) ∷ (6 ⇢ Whole) ∷ []
row_of ToItem = (4 ⇢ ItemRead) ∷ (0 ⇢ ItemNamed) ∷ []
row_of ItemNamed = (10 ⇢ ToValue) ∷ []
row_of ToValue = (1 ⇢ ItemRead) ∷ (7 ⇢ ToNumber) ∷ []
row_of ToNumber = (1 ⇢ NumberRead) ∷ []
row_of ItemRead = (9 ⇢ ToItem) ∷ (6 ⇢ SignalRead) ∷ []
row_of NumberRead = (9 ⇢ ToNumber) ∷ (8 ⇢ ItemRead) ∷ []
row_of SignalRead = (9 ⇢ ToSignal) ∷ (6 ⇢ Whole) ∷ []
row_of Whole = []

abbrev pub target : ℕ → List Edge → Option Place
target k [] = None
target k ((j ⇢ p) ∷ es) = if k == j then Some p else target k es

-- the place after a piece; none where it may not come
abbrev pub next_of : Place → Token → Option Place
next_of p t = target (kind_no t) (row_of p)

-- no blank stands before the text, or after it
abbrev pub spaced_to : Place → Option Place
spaced_to Whole = None
spaced_to p = Some p

-- ---- bytes

abbrev pub fresh_scanner : Scanner
fresh_scanner = record { mode = Fresh; place = Nothing }

-- all bytes are a text
abbrev pub whole_in : Mode → Place → Bool
whole_in Between Whole = true
whole_in m p = false

abbrev pub is_whole : Scanner → Bool
is_whole s = whole_in s.mode s.place

-- the place where the piece ends here, if it may
abbrev pub closed_in : Mode → Place → Option Place
closed_in Fresh p = Some p
closed_in Between p = Some p
closed_in InSg p = None
closed_in InKa p = None
closed_in (InName c) p = next_of p (Name c)
closed_in (InNumber n v) p = next_of p (Number v)

abbrev pub closed_of : Scanner → Option Place
closed_of s = closed_in s.mode s.place

-- the name or number that ends here
abbrev pub ended_in : Mode → Option Token
ended_in (InName c) = Some (Name c)
ended_in (InNumber n v) = Some (Number v)
ended_in m = None

-- with a piece told, and then in a mode
abbrev pub turn_to : Option Token → Mode → Place → Turn
turn_to t m p = record { scanner = record { mode = m; place = p }; token = t }

-- the first byte of a name, a number, SG or KA; here and below, none where no text begins so
abbrev pub begin_of : Scanner → Mode → Option Turn
begin_of s m = option_map (turn_to (ended_in s.mode) m) (closed_of s)

abbrev pub letter_in : Mode → Scanner → ℕ → Option Turn
letter_in (InName c) s b = Some (turn_to None (InName (next_letter c b)) s.place)
letter_in m s b = begin_of s (InName (next_letter 0 b))

abbrev pub letter_of : Scanner → ℕ → Option Turn
letter_of s b = letter_in s.mode s b

abbrev pub digit_in : Mode → Scanner → ℕ → Option Turn
digit_in (InNumber n v) s b =
    if nat_lt n 10 then Some (turn_to None (InNumber (n + 1) (next_digit v b)) s.place) else None
digit_in m s b = begin_of s (InNumber 1 (next_digit 0 b))

abbrev pub digit_of : Scanner → ℕ → Option Turn
digit_of s b = digit_in s.mode s b

abbrev pub blank_in : Mode → Scanner → Option Turn
blank_in Fresh s = None
blank_in m s = option_map (turn_to (ended_in s.mode) Between) (option_and_then spaced_to (closed_of s))

abbrev pub blank_of : Scanner → Option Turn
blank_of s = blank_in s.mode s

-- a mark is told where no name and no number ends
abbrev pub mark_of : Scanner → Token → Option Turn
mark_of s t =
    option_map (turn_to (option_or (ended_in s.mode) (Some t)) Between)
    (option_and_then (λ p. next_of p t) (closed_of s))

-- the last byte of SG, amet/ or KA
abbrev pub last_of : Scanner → Bool → Token → Option Turn
last_of s right t = if right then option_map (turn_to (Some t) Between) (next_of s.place t) else None

abbrev pub is_in_sg : Mode → Bool
is_in_sg InSg = true
is_in_sg m = false

abbrev pub is_in_ka : Mode → Bool
is_in_ka InKa = true
is_in_ka m = false

abbrev pub is_in_amet : Mode → Bool
is_in_amet (InName c) = c == code_of (bytes "amet")
is_in_amet m = false

-- one byte more, by its class
abbrev pub turn_on : Class → Scanner → ℕ → Option Turn
turn_on small s b = letter_of s b
turn_on digit s b = digit_of s b
turn_on blank s b = blank_of s
turn_on (mark p) s b = mark_of s (token_of p)
turn_on slash s b = last_of s (is_in_amet s.mode) Amet
turn_on S s b = begin_of s InSg
turn_on G s b = last_of s (is_in_sg s.mode) Sg
turn_on K s b = begin_of s InKa
turn_on A s b = last_of s (is_in_ka s.mode) Ka
turn_on other s b = None

-- shut, or it would be written out wherever it stands
unfoldable pub turn_of : Scanner → ℕ → Option Turn
turn_of s b = turn_on (class_of b) s b
