-- The grammar of the texts that controllers send: what a text says, its pieces, and how they are spelled.
use Rattle.std.specs.Prelude.{ℕ, suc, ◌≤◌, Bool, true, ◌&&◌, List, [], ◌∷◌, ◌++◌, ◌≡◌, nat_le}
use Rattle.std.specs.Str.{bytes_eq}
pub use Rattle.constants.specs.Bytes.{bytes}

infixl 30 ◌▹◌
-- no or more things in order, the last on the right
pub data Row (A : Type 0) : Type 0 where
  none : Row A
  ◌▹◌ : Row A → A → Row A

-- WHAT A TEXT SAYS. One or more things are those before the last, and the last.

-- a number's digits; or one or more of them in brackets
pub data Value : Type 0 where
  single : (digits : List ℕ) → Value
  list : (before : Row (List ℕ)) (last : List ℕ) → Value

-- KA; or a name and its value
pub data Item : Type 0 where
  keep : Item
  valued : (word : List ℕ) (value : Value) → Item

-- a name; or a name and one or more items in braces
pub data Signal : Type 0 where
  bare : (word : List ℕ) → Signal
  braced : (word : List ℕ) (before : Row Item) (last : Item) → Signal

-- no signal; or one or more
pub data Text : Type 0 where
  empty : Text
  signals : (before : Row Signal) (last : Signal) → Text

-- ITS PIECES: marks, names and numbers

pub data Piece : Type 0 where
  SG amet/ KA : Piece
  opens shuts from to comma equals : Piece
  name : (word : List ℕ) → Piece
  number : (digits : List ℕ) → Piece

-- pieces, and then some things, each with a comma behind it
abbrev pub commas : {A : Type 0} → (Row Piece → A → Row Piece) → Row Piece → Row A → Row Piece
commas f ps none = ps
commas f ps (xs ▹ x) = f (commas f ps xs) x ▹ comma

-- pieces, and then a number; a value; an item; a signal
abbrev pub with_number : Row Piece → List ℕ → Row Piece
with_number ps d = ps ▹ number d

abbrev pub with_value : Row Piece → Value → Row Piece
with_value ps (single d) = with_number ps d
with_value ps (list ds d) = with_number (commas with_number (ps ▹ from) ds) d ▹ to

abbrev pub with_item : Row Piece → Item → Row Piece
with_item ps keep = ps ▹ KA
with_item ps (valued n v) = with_value (ps ▹ name n ▹ equals) v

abbrev pub with_signal : Row Piece → Signal → Row Piece
with_signal ps (bare n) = ps ▹ amet/ ▹ name n
with_signal ps (braced n is i) = with_item (commas with_item (ps ▹ amet/ ▹ name n ▹ opens) is) i ▹ shuts

-- SG, and braces round the signals
abbrev pub head : Row Piece
head = none ▹ SG ▹ opens

abbrev pub pieces_of : Text → Row Piece
pieces_of empty = head ▹ shuts
pieces_of (signals ss s) = with_signal (commas with_signal head ss) s ▹ shuts

-- THEIR BYTES

-- whether two words have the same bytes
abbrev pub same : List ℕ → List ℕ → Bool
same = bytes_eq

-- `a` to `z`
abbrev pub is_small : ℕ → Bool
is_small b = nat_le 97 b && nat_le b 122

-- `0` to `9`
abbrev pub is_digit : ℕ → Bool
is_digit b = nat_le 48 b && nat_le b 57

pub record Small (b : ℕ) : Type 0 where
  pub test : is_small b ≡ true

pub record Digit (b : ℕ) : Type 0 where
  pub test : is_digit b ≡ true

-- one or more small letters
pub data Name : List ℕ → Type 0 where
  letter : {b : ℕ} → Small b → Name (b ∷ [])
  letters : {w : List ℕ} {b : ℕ} → Name w → Small b → Name (w ++ (b ∷ []))

-- n digits, 1 or more
pub data Digits : ℕ → List ℕ → Type 0 where
  digit : {b : ℕ} → Digit b → Digits 1 (b ∷ [])
  digits : {n : ℕ} {w : List ℕ} {b : ℕ} → Digits n w → Digit b → Digits (suc n) (w ++ (b ∷ []))

-- how a piece is spelled
pub data Spelled : Piece → List ℕ → Type 0 where
  a-SG : Spelled SG (bytes "SG")
  an-amet/ : Spelled amet/ (bytes "amet/")
  a-KA : Spelled KA (bytes "KA")
  a_brace : Spelled opens (bytes "{")
  a-closing_brace : Spelled shuts (bytes "}")
  a_bracket : Spelled from (bytes "[")
  a-closing_bracket : Spelled to (bytes "]")
  a_comma : Spelled comma (bytes ",")
  an_equals : Spelled equals (bytes "=")
  a-name : {w : List ℕ} → Name w → Spelled (name w) w
  a-number : {n : ℕ} {w : List ℕ} → Digits n w → n ≤ 10 → Spelled (number w) w

-- no or more blanks
pub data Blanks : List ℕ → Type 0 where
  no-blank : Blanks []
  blank : {g : List ℕ} → Blanks g → Blanks (32 ∷ g)

-- pieces one after the other, with blanks between two of them only
pub data Spaced : Row Piece → List ℕ → Type 0 where
  first : {p : Piece} {w : List ℕ} → Spelled p w → Spaced (none ▹ p) w
  next : {ps : Row Piece} {q p : Piece} {l g w : List ℕ} → Spaced (ps ▹ q) l → Blanks g → Spelled p w
      → Spaced (ps ▹ q ▹ p) (l ++ (g ++ w))

-- THE GRAMMAR: the bytes l are a text that says t
abbrev pub Says : List ℕ → Text → Type 0
Says l t = Spaced (pieces_of t) l
