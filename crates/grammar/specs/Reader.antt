-- The reader of the grammar: what has been read so far, piece by piece and byte by byte.
use Rattle.std.specs.Prelude.{ℕ, suc, if◌then◌else◌, List, [], ◌∷◌, ◌++◌, ◌==◌, nat_lt}
use Rattle.grammar.specs.Grammar.{Row, none, ◌▹◌, single, list, Item, keep, valued}
use Rattle.grammar.specs.Grammar.{Signal, bare, braced, Text, empty, signals}
use Rattle.grammar.specs.Grammar.{Piece, SG, amet/, KA, opens, shuts, from, to, comma, equals, name, number}
use Rattle.grammar.specs.Grammar.{bytes, same, is_small, is_digit}

-- WHAT HAS BEEN READ, and so what may come next: the row of signals before, the signal's name, the items before, ..
pub data Read : Type 0 where
  -- nothing; SG
  nothing begun : Read
  -- up to where a signal stands; its amet/; its name
  to_signal : Row Signal → Read
  to_name : Row Signal → Read
  named : Row Signal → List ℕ → Read
  -- up to where an item stands; its name; its equals; an item
  to_item : Row Signal → List ℕ → Row Item → Read
  item_named : Row Signal → List ℕ → Row Item → List ℕ → Read
  to_value : Row Signal → List ℕ → Row Item → List ℕ → Read
  item_read : Row Signal → List ℕ → Row Item → Item → Read
  -- up to where a number of a list stands; the number
  to_number : Row Signal → List ℕ → Row Item → List ℕ → Row (List ℕ) → Read
  number_read : Row Signal → List ℕ → Row Item → List ℕ → Row (List ℕ) → List ℕ → Read
  -- a signal with its braces; a text; no text
  signal_read : Row Signal → Signal → Read
  whole : Text → Read
  wrong : Read

-- the kinds of pieces
abbrev pub kind_of : Piece → ℕ
kind_of (name w) = 0
kind_of (number w) = 1
kind_of SG = 2
kind_of amet/ = 3
kind_of KA = 4
kind_of opens = 5
kind_of shuts = 6
kind_of from = 7
kind_of to = 8
kind_of comma = 9
kind_of equals = 10

-- the letters or digits of a piece
abbrev pub word_of : Piece → List ℕ
word_of (name w) = w
word_of (number w) = w
word_of SG = []
word_of amet/ = []
word_of KA = []
word_of opens = []
word_of shuts = []
word_of from = []
word_of to = []
word_of comma = []
word_of equals = []

-- a kind of piece that may come next, and what has been read then
pub data Option : Type 0 where
  ◌⇒◌ : ℕ → Read → Option

infix 20 ◌⇒◌
-- all that may come next, where the next piece's word is w
abbrev pub options : Read → List ℕ → List Option
options nothing w = (2 ⇒ begun) ∷ []
options begun w = (5 ⇒ to_signal none) ∷ []
options (to_signal none) w = (3 ⇒ to_name none) ∷ (6 ⇒ whole empty) ∷ []
options (to_signal (ss ▹ s)) w = (3 ⇒ to_name (ss ▹ s)) ∷ []
options (to_name ss) w = (0 ⇒ named ss w) ∷ []
options (named ss n) w =
    (5 ⇒ to_item ss n none) ∷ (9 ⇒ to_signal (ss ▹ bare n)) ∷ (6 ⇒ whole (signals ss (bare n))) ∷ []
options (to_item ss n is) w = (4 ⇒ item_read ss n is keep) ∷ (0 ⇒ item_named ss n is w) ∷ []
options (item_named ss n is m) w = (10 ⇒ to_value ss n is m) ∷ []
options (to_value ss n is m) w =
    (1 ⇒ item_read ss n is (valued m (single w))) ∷ (7 ⇒ to_number ss n is m none) ∷ []
options (item_read ss n is i) w = (9 ⇒ to_item ss n (is ▹ i)) ∷ (6 ⇒ signal_read ss (braced n is i)) ∷ []
options (to_number ss n is m ds) w = (1 ⇒ number_read ss n is m ds w) ∷ []
options (number_read ss n is m ds d) w =
    (9 ⇒ to_number ss n is m (ds ▹ d)) ∷ (8 ⇒ item_read ss n is (valued m (list ds d))) ∷ []
options (signal_read ss s) w = (9 ⇒ to_signal (ss ▹ s)) ∷ (6 ⇒ whole (signals ss s)) ∷ []
options (whole t) w = []
options wrong w = []

-- the option of a kind
abbrev pub choose : ℕ → List Option → Read
choose k [] = wrong
choose k ((j ⇒ r) ∷ os) = if k == j then r else choose k os

-- one piece more
abbrev pub feed : Read → Piece → Read
feed r p = choose (kind_of p) (options r (word_of p))

-- BYTE BY BYTE

-- what is being read: nothing at all yet; no piece; SG or KA, of which S or K is read; a name; a number of n digits
pub data Scan : Type 0 where
  fresh : Scan
  gap : Read → Scan
  in_sg : Read → Scan
  in_ka : Read → Scan
  in_name : List ℕ → Read → Scan
  in_number : ℕ → List ℕ → Read → Scan

-- what has been read where the piece ends here
abbrev pub closed : Scan → Read
closed fresh = nothing
closed (gap r) = r
closed (in_sg r) = wrong
closed (in_ka r) = wrong
closed (in_name w r) = feed r (name w)
closed (in_number n w r) = feed r (number w)

-- the kinds of bytes
pub data Class : Type 0 where
  small digit blank slash S G K A other : Class
  mark : Piece → Class

abbrev pub class_of : ℕ → Class
class_of b =
    if is_small b then small
    else if is_digit b then digit
    else if b == 32 then blank
    else if b == 123 then mark opens
    else if b == 125 then mark shuts
    else if b == 91 then mark from
    else if b == 93 then mark to
    else if b == 44 then mark comma
    else if b == 61 then mark equals
    else if b == 47 then slash
    else if b == 83 then S
    else if b == 71 then G
    else if b == 75 then K
    else if b == 65 then A
    else other

-- a blank: none may follow the whole text
abbrev pub spaced : Read → Read
spaced nothing = nothing
spaced begun = begun
spaced (to_signal ss) = to_signal ss
spaced (to_name ss) = to_name ss
spaced (named ss n) = named ss n
spaced (to_item ss n is) = to_item ss n is
spaced (item_named ss n is m) = item_named ss n is m
spaced (to_value ss n is m) = to_value ss n is m
spaced (item_read ss n is i) = item_read ss n is i
spaced (to_number ss n is m ds) = to_number ss n is m ds
spaced (number_read ss n is m ds d) = number_read ss n is m ds d
spaced (signal_read ss s) = signal_read ss s
spaced (whole t) = wrong
spaced wrong = wrong

abbrev pub on_small : ℕ → Scan → Scan
on_small b (in_name w r) = in_name (w ++ (b ∷ [])) r
on_small b fresh = in_name (b ∷ []) nothing
on_small b (gap r) = in_name (b ∷ []) r
on_small b (in_sg r) = in_name (b ∷ []) wrong
on_small b (in_ka r) = in_name (b ∷ []) wrong
on_small b (in_number n w r) = in_name (b ∷ []) (feed r (number w))

abbrev pub on_digit : ℕ → Scan → Scan
on_digit b (in_number n w r) = if nat_lt n 10 then in_number (suc n) (w ++ (b ∷ [])) r else gap wrong
on_digit b fresh = in_number 1 (b ∷ []) nothing
on_digit b (gap r) = in_number 1 (b ∷ []) r
on_digit b (in_sg r) = in_number 1 (b ∷ []) wrong
on_digit b (in_ka r) = in_number 1 (b ∷ []) wrong
on_digit b (in_name w r) = in_number 1 (b ∷ []) (feed r (name w))

abbrev pub on_blank : Scan → Scan
on_blank fresh = gap wrong
on_blank (gap r) = gap (spaced r)
on_blank (in_sg r) = gap wrong
on_blank (in_ka r) = gap wrong
on_blank (in_name w r) = gap (spaced (feed r (name w)))
on_blank (in_number n w r) = gap (spaced (feed r (number w)))

abbrev pub on_slash : Scan → Scan
on_slash (in_name w r) = gap (if same w (bytes "amet") then feed r amet/ else wrong)
on_slash fresh = gap wrong
on_slash (gap r) = gap wrong
on_slash (in_sg r) = gap wrong
on_slash (in_ka r) = gap wrong
on_slash (in_number n w r) = gap wrong

abbrev pub on_g : Scan → Scan
on_g (in_sg r) = gap (feed r SG)
on_g fresh = gap wrong
on_g (gap r) = gap wrong
on_g (in_ka r) = gap wrong
on_g (in_name w r) = gap wrong
on_g (in_number n w r) = gap wrong

abbrev pub on_a : Scan → Scan
on_a (in_ka r) = gap (feed r KA)
on_a fresh = gap wrong
on_a (gap r) = gap wrong
on_a (in_sg r) = gap wrong
on_a (in_name w r) = gap wrong
on_a (in_number n w r) = gap wrong

-- one byte more
abbrev pub on_class : Class → ℕ → Scan → Scan
on_class small b s = on_small b s
on_class digit b s = on_digit b s
on_class blank b s = on_blank s
on_class slash b s = on_slash s
on_class S b s = in_sg (closed s)
on_class G b s = on_g s
on_class K b s = in_ka (closed s)
on_class A b s = on_a s
on_class other b s = gap wrong
on_class (mark p) b s = gap (feed (closed s) p)

abbrev pub scan : Scan → ℕ → Scan
scan s b = on_class (class_of b) b s

-- bytes one after the other
abbrev pub scans : Scan → List ℕ → Scan
scans s [] = s
scans s (b ∷ l) = scans (scan s b) l

-- the text that was read, if it is whole
pub data Found : Type 0 where
  found : (t : Text) → Found
  missing : Found

abbrev pub text_read : Read → Found
text_read (whole t) = found t
text_read nothing = missing
text_read begun = missing
text_read (to_signal ss) = missing
text_read (to_name ss) = missing
text_read (named ss n) = missing
text_read (to_item ss n is) = missing
text_read (item_named ss n is m) = missing
text_read (to_value ss n is m) = missing
text_read (item_read ss n is i) = missing
text_read (to_number ss n is m ds) = missing
text_read (number_read ss n is m ds d) = missing
text_read (signal_read ss s) = missing
text_read wrong = missing

abbrev pub text_in : Scan → Found
text_in (gap r) = text_read r
text_in fresh = missing
text_in (in_sg r) = missing
text_in (in_ka r) = missing
text_in (in_name w r) = missing
text_in (in_number n w r) = missing

unfoldable pub text_of : List ℕ → Found
text_of l = text_in (scans fresh l)
