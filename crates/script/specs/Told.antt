-- What the readers in the code tell.
use Rattle.std.specs.Prelude.{List, ℕ, Option, Some, None}
use Rattle.std.specs.Borrow.{Bor}
use Rattle.script.specs.Words.{words_of}
use Rattle.script.specs.Readers.{Parsed}
use Rattle.script.specs.Cards.{CardLine, Add, On, Audit, Text, Tick, Group, places_at}
use Rattle.script.specs.declared.CardCommand.{CardCommand}
use Rattle.script.specs.declared.CardCommand.TheVariants as code

-- what was read, with the words of what is left of the line, or nothing
abbrev pub told : {A : Type 0} → Option (A × Bor (List ℕ)) → Parsed A
told None = None
told (Some (a, rest)) = Some (a, words_of rest.now)

-- what a card's command asks, with the bytes of its text as they stand, and the places that a group's text names
abbrev pub line_of : CardCommand → CardLine
line_of (code.Configure c) = Add c
line_of (code.On to c) = On to c
line_of (code.Audit place) = Audit place
line_of (code.Text to text) = Text to text.now
line_of (code.Tick t) = Tick t
line_of (code.Group p text) = Group p (places_at text.now)

-- where there is one
abbrev pub line_in : Option CardCommand → Option CardLine
line_in None = None
line_in (Some c) = Some (line_of c)

-- what was read of a card's line
abbrev pub told_line : Option (CardCommand × Bor (List ℕ)) → Parsed CardLine
told_line None = None
told_line (Some (c, rest)) = Some (line_of c, words_of rest.now)
