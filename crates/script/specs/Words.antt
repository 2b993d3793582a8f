-- The words of a line: what stands between its blanks.
use Rattle.std.specs.Prelude.{ℕ, Bool, List, [], ◌∷◌, ◌==◌, if◌then◌else◌}
use Rattle.std.specs.Str.{bytes_eq}

-- the byte that separates words
abbrev pub blank : ℕ
blank = 32

-- a byte put in front of the first piece
abbrev pub on_first : ℕ → List (List ℕ) → List (List ℕ)
on_first b [] = []
on_first b (p ∷ ps) = (b ∷ p) ∷ ps

-- a line cut at each blank
abbrev pub pieces : List ℕ → List (List ℕ)
pieces [] = [] ∷ []
pieces (b ∷ l) = if b == blank then [] ∷ pieces l else on_first b (pieces l)

-- the pieces that have a byte
abbrev pub filled : List (List ℕ) → List (List ℕ)
filled [] = []
filled ([] ∷ ps) = filled ps
filled ((b ∷ p) ∷ ps) = (b ∷ p) ∷ filled ps

-- the words of a line: one or more blanks separate them, and blanks may stand at both ends
unfoldable pub words_of : List ℕ → List (List ℕ)
words_of l = filled (pieces l)

-- whether two words have the same bytes
abbrev pub same : List ℕ → List ℕ → Bool
same = bytes_eq
