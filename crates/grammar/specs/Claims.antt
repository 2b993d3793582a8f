-- What is claimed of the reading of any bytes, by the grammar alone.
use Rattle.std.specs.Prelude.{ℕ, List, ◌≡◌}
use Rattle.grammar.specs.Grammar.{Text, Says}
use Rattle.grammar.specs.Meaning.{unreadable, meaning_of, reading_of}

pub record Reads (bytes : List ℕ) : Type 0 where
  -- the reading of a text is unique
  pub unique : (t u : Text) → Says bytes t → Says bytes u → t ≡ u
  -- a text reads as what it asks for, or as senseless
  pub told : (t : Text) → Says bytes t → reading_of bytes ≡ meaning_of t
  -- bytes are unreadable exactly when the grammar does not have them
  pub refused : ((t : Text) → Says bytes t → ⊥) → reading_of bytes ≡ unreadable
  pub only : reading_of bytes ≡ unreadable → (t : Text) → Says bytes t → ⊥
