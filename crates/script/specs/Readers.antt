-- What a reader makes of a line's words: it reads the first of them and leaves the rest, or it fails.
use Rattle.std.specs.Prelude.{ℕ, Bool, true, false, List, [], ◌∷◌, Option, Some, None, if◌then◌else◌}
use Prim.Native.String.{String}
use Rattle.script.specs.Words.{same}
use Rattle.script.specs.Numbers.{number_of}
use Rattle.printing.specs.Bytes.{bytes}

-- what was read and the words that are left, or nothing
abbrev pub Parsed : Type 0 → Type 0
Parsed A = Option (A × List (List ℕ))

-- a reader of an A
abbrev pub Reader : Type 0 → Type 0
Reader A = List (List ℕ) → Parsed A

-- what is read goes on to f, with the words that are left
abbrev pub after : {A B : Type 0} → Parsed A → (A → Reader B) → Parsed B
after None f = None
after (Some (a, ws)) f = f a ws

-- one reader, and then another that knows what the first read
abbrev pub ◌>>=◌ : {A B : Type 0} → Reader A → (A → Reader B) → Reader B
◌>>=◌ r f = λ ws. after (r ws) f

-- reads nothing and gives a
abbrev pub give : {A : Type 0} → A → Reader A
give a ws = Some (a, ws)

-- reads nothing and fails
abbrev pub fail : {A : Type 0} → Reader A
fail ws = None

-- what was read, or what was read instead where nothing was
abbrev pub or_else : {A : Type 0} → Parsed A → Parsed A → Parsed A
or_else None q = q
or_else (Some r) q = Some r

infixr 20 ◌<|>◌
-- one reader, or another where it fails
abbrev pub ◌<|>◌ : {A : Type 0} → Reader A → Reader A → Reader A
◌<|>◌ r s = λ ws. or_else (r ws) (s ws)

-- the first word, empty where there is none
abbrev pub first : List (List ℕ) → List ℕ
first [] = []
first (w ∷ ws) = w

-- the words after the first
abbrev pub rest : List (List ℕ) → List (List ℕ)
rest [] = []
rest (w ∷ ws) = ws

-- reads a word, empty where none is left
abbrev pub word : Reader (List ℕ)
word ws = Some (first ws, rest ws)

-- gives a value where there is one
abbrev pub valued : {A : Type 0} → Option A → Reader A
valued (Some a) = give a
valued None = fail

-- reads a number
abbrev pub number : Reader ℕ
number = do
  w ← word
  valued (number_of w)

-- reads two numbers
abbrev pub pair : Reader (ℕ × ℕ)
pair = do
  a ← number
  b ← number
  give (a, b)

-- the reader that stands beside the word w in a table, which fails where w is not in it
abbrev pub lookup : {A : Type 0} → List ℕ → List (String × Reader A) → Reader A
lookup w [] = fail
lookup w (e ∷ es) = if same w (bytes e.0) then e.1 else lookup w es

-- reads a word and goes on with the reader that stands beside it
abbrev pub choice : {A : Type 0} → List (String × Reader A) → Reader A
choice es = do
  w ← word
  lookup w es

-- whether no word is left
abbrev pub no_word : List (List ℕ) → Bool
no_word [] = true
no_word (w ∷ ws) = false

-- what was read, where no word is left
abbrev pub whole : {A : Type 0} → Parsed A → Option A
whole None = None
whole (Some (a, ws)) = if no_word ws then Some a else None
