-- A line past its first blanks, or past its first word.
use Rattle.std.specs.Prelude.{ℕ, Bool, true, false, not, List, [], ◌∷◌, ◌==◌, if◌then◌else◌}
use Rattle.script.specs.Words.{blank}

-- whether a byte ends a run of blanks, or else one of other bytes
abbrev pub ends_run : Bool → ℕ → Bool
ends_run true b = not (b == blank)
ends_run false b = b == blank

-- past the run of blanks, or else of other bytes, that a line begins with
abbrev pub past_run : Bool → List ℕ → List ℕ
past_run blanks [] = []
past_run blanks (b ∷ l) = if ends_run blanks b then b ∷ l else past_run blanks l

-- past the blanks that a line begins with
abbrev pub past_blanks : List ℕ → List ℕ
past_blanks l = past_run true l

-- past the word that a line begins with
abbrev pub past_word : List ℕ → List ℕ
past_word l = past_run false l

-- past the first word of a line
abbrev pub past_first : List ℕ → List ℕ
past_first l = past_word (past_blanks l)
