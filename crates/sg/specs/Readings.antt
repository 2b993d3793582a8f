-- What the reader notes of a text, and what it answers for any bytes.
use Rattle.std.specs.Prelude.{ℕ, List, Result, Err}
use Rattle.descriptor.specs.declared.Refusal.{Refusal}
use Rattle.descriptor.specs.declared.Refusal.TheVariants.{Grammar}
use Rattle.grammar.specs.Grammar.{Row, none, ◌▹◌, single, list, Item, keep, valued}
use Rattle.grammar.specs.Grammar.{Signal, bare, braced, Text, empty, signals}
use Rattle.grammar.specs.Reader.{Found, found, missing, text_of}
use Rattle.notes.specs.Noting.{no_notes, value_of, signal_of, item_of, keep_of, single_of, list_of}
use Rattle.notes.specs.declared.Notes.{Notes}
use Rattle.scanner.specs.Codes.{code_of, number_of}
use Rattle.outcomes.specs.Outcomes.{outcome_of}
use Rattle.outcomes.specs.declared.Reading.{Reading}

-- the notes of numbers, of an item, of items, of a signal, of signals, after other notes
abbrev pub numbers_notes : Notes → Row (List ℕ) → Notes
numbers_notes n none = n
numbers_notes n (ds ▹ d) = value_of (numbers_notes n ds) (number_of d)

abbrev pub item_notes : Notes → Item → Notes
item_notes n keep = keep_of n
item_notes n (valued m (single d)) = single_of (item_of n (code_of m)) (number_of d)
item_notes n (valued m (list ds d)) = value_of (numbers_notes (list_of (item_of n (code_of m))) ds) (number_of d)

abbrev pub items_notes : Notes → Row Item → Notes
items_notes n none = n
items_notes n (is ▹ i) = item_notes (items_notes n is) i

abbrev pub signal_notes : Notes → Signal → Notes
signal_notes n (bare m) = signal_of n (code_of m)
signal_notes n (braced m is i) = item_notes (items_notes (signal_of n (code_of m)) is) i

abbrev pub signals_notes : Row Signal → Notes
signals_notes none = no_notes
signals_notes (ss ▹ s) = signal_notes (signals_notes ss) s

unfoldable pub text_notes : Text → Notes
text_notes empty = no_notes
text_notes (signals ss s) = signal_notes (signals_notes ss) s

abbrev pub read_in : Found → Result Reading Refusal
read_in (found t) = outcome_of (text_notes t)
read_in missing = Err Grammar

-- what the reader answers for any bytes
unfoldable pub read_of : List ℕ → Result Reading Refusal
read_of l = read_in (text_of l)
