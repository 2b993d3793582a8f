-- The code's places and notes, piece by piece, are an image of what the grammar's reader has read.
use Rattle.std.specs.Prelude.{Option as Maybe, Some, None, option_map, option_and_then}
use Prim.Native.Nat.{ℕ}
use mathlib.Core.Bool.{Bool, true, false, cond}
use mathlib.Core.List.{List, [], ◌∷◌}
use mathlib.Core.Path.{◌≡◌, refl, sym, ap, ◌∙◌}
use borrow.Author.Tests.{eqb-true}
use lib.Dec.{eqb}
use Rattle.grammar.specs.Grammar.{Row, none, ◌▹◌, Item, Signal, Piece, name}
use Rattle.grammar.specs.Reader.{Read, nothing, begun, to_signal, to_name, named, to_item, item_named, to_value, item_read, to_number, number_read, signal_read, whole, wrong, kind_of, word_of, Option, ◌⇒◌, options, choose, feed, spaced}
use Rattle.grammar.proofs.Sound.{piece_from, from-kind}
use Rattle.notes.specs.declared.Notes.{Notes}
use Rattle.notes.specs.Noting.{no_notes, note_of, signal_of, item_of, value_of, list_of}
use Rattle.scanner.specs.Codes.{code_of, number_of}
use Rattle.scanner.specs.Machine.{Edge, ◌⇢◌, row_of, target, next_of, spaced_to, token_of, kind_no}
use Rattle.scanner.specs.declared.Token.{Token}
use Rattle.scanner.specs.declared.Token.TheVariants.{Name, Number, From}
use Rattle.scanner.specs.declared.places.Place.{Place}
use Rattle.scanner.specs.declared.places.Place.TheVariants.{Nothing, Begun, ToFirstSignal, ToSignal, ToName, Named, ToItem, ItemNamed, ToValue, ToNumber, ItemRead, NumberRead, SignalRead, Whole}
use Rattle.sg.specs.Readings.{numbers_notes, item_notes, items_notes, signal_notes, signals_notes, text_notes}

-- a place, and the notes there
pub record Point : Type 0 where
  pub place : Place
  pub notes : Notes

abbrev pub point : Place → Notes → Point
point p n = record { place = p; notes = n }

abbrev to_item_notes : Row Signal → List ℕ → Row Item → Notes
to_item_notes ss n is = items_notes (signal_of (signals_notes ss) (code_of n)) is

-- what has been read, as the code has it: none where it is no text
abbrev pub image : Read → Maybe Point
image nothing = Some (point Nothing no_notes)
image begun = Some (point Begun no_notes)
image (to_signal none) = Some (point ToFirstSignal no_notes)
image (to_signal (ss ▹ s)) = Some (point ToSignal (signals_notes (ss ▹ s)))
image (to_name ss) = Some (point ToName (signals_notes ss))
image (named ss n) = Some (point Named (signal_of (signals_notes ss) (code_of n)))
image (to_item ss n is) = Some (point ToItem (to_item_notes ss n is))
image (item_named ss n is m) = Some (point ItemNamed (item_of (to_item_notes ss n is) (code_of m)))
image (to_value ss n is m) = Some (point ToValue (item_of (to_item_notes ss n is) (code_of m)))
image (to_number ss n is m ds) =
    Some (point ToNumber (numbers_notes (list_of (item_of (to_item_notes ss n is) (code_of m))) ds))
image (item_read ss n is i) = Some (point ItemRead (item_notes (to_item_notes ss n is) i))
image (number_read ss n is m ds d) =
    Some (point NumberRead (value_of (numbers_notes (list_of (item_of (to_item_notes ss n is) (code_of m))) ds) (number_of d)))
image (signal_read ss s) = Some (point SignalRead (signal_notes (signals_notes ss) s))
image (whole t) = Some (point Whole (text_notes t))
image wrong = None

-- to a place, if there is one, with what a piece says
abbrev fed_to : Point → Token → Maybe Place → Maybe Point
fed_to q t o = option_map (λ p. point p (note_of q.notes q.place t)) o

-- a piece more: the place goes by the table, and the notes by what the piece says
abbrev pub fed : Token → Point → Maybe Point
fed t q = fed_to q t (next_of q.place t)

-- the options are those of the place's row
abbrev Aligned : Point → List ℕ → List Option → List Edge → Type 0
Aligned q w [] [] = Unit {0}
Aligned q w [] (e ∷ es) = ⊥
Aligned q w (o ∷ os) [] = ⊥
Aligned q w ((j ⇒ r) ∷ os) ((k ⇢ p) ∷ es) =
    (j ≡ k) × (image r ≡ fed_to q (token_of (piece_from j w)) (Some p)) × Aligned q w os es

-- and there are none where it is no text
abbrev AlignedAt : Maybe Point → List ℕ → List Option → Type 0
AlignedAt None w os = os ≡ []
AlignedAt (Some q) w os = Aligned q w os (row_of q.place)

aligned : (r : Read) (w : List ℕ) → AlignedAt (image r) w (options r w)
unfolding note_of text_notes
aligned nothing w = (refl, refl, tt)
aligned begun w = (refl, refl, tt)
aligned (to_signal none) w = (refl, refl, (refl, refl, tt))
aligned (to_signal (ss ▹ s)) w = (refl, refl, tt)
aligned (to_name ss) w = (refl, refl, tt)
aligned (named ss n) w = (refl, refl, (refl, refl, (refl, refl, tt)))
aligned (to_item ss n is) w = (refl, refl, (refl, refl, tt))
aligned (item_named ss n is m) w = (refl, refl, tt)
aligned (to_value ss n is m) w = (refl, refl, (refl, refl, tt))
aligned (item_read ss n is i) w = (refl, refl, (refl, refl, tt))
aligned (to_number ss n is m ds) w = (refl, refl, tt)
aligned (number_read ss n is m ds d) w = (refl, refl, (refl, refl, tt))
aligned (signal_read ss s) w = (refl, refl, (refl, refl, tt))
aligned (whole t) w = tt
aligned wrong w = refl

chosen : (q : Point) (w : List ℕ) (k : ℕ) (os : List Option) (es : List Edge) → Aligned q w os es
    → image (choose k os) ≡ fed_to q (token_of (piece_from k w)) (target k es)
chosen q w k [] [] h = refl
chosen q w k [] (e ∷ es) h = absurd h
chosen q w k (o ∷ os) [] h = absurd h
chosen q w k ((j ⇒ r) ∷ os) ((i ⇢ p) ∷ es) h = rw (← h.0) (at (eqb k j) refl (chosen q w k os es h.2))
  where
    at : (t : Bool) → eqb k j ≡ t → image (choose k os) ≡ fed_to q (token_of (piece_from k w)) (target k es)
        → image (cond t r (choose k os)) ≡ fed_to q (token_of (piece_from k w)) (cond t (Some p) (target k es))
    at true e g = rw (eqb-true k j e) h.1
    at false e g = g

chosen_at : (o : Maybe Point) (w : List ℕ) (k : ℕ) (os : List Option) → AlignedAt o w os
    → image (choose k os) ≡ option_and_then (λ q. fed_to q (token_of (piece_from k w)) (target k (row_of q.place))) o
chosen_at None w k os h = rw h refl
chosen_at (Some q) w k os h = chosen q w k os (row_of q.place) h

kind-told : (p : Piece) → kind_no (token_of p) ≡ kind_of p
kind-told (name w) = refl
kind-told p = refl

pub fed-image : (r : Read) (p : Piece) → image (feed r p) ≡ option_and_then (fed (token_of p)) (image r)
fed-image r p =
    chosen_at (image r) (word_of p) (kind_of p) (options r (word_of p)) (aligned r (word_of p))
    ∙ ap (λ (x : Piece). option_and_then (λ q. fed_to q (token_of x) (target (kind_of p) (row_of q.place))) (image r)) (from-kind p)
    ∙ ap (λ (k : ℕ). option_and_then (λ q. fed_to q (token_of p) (target k (row_of q.place))) (image r)) (sym (kind-told p))

-- a blank more: none may follow the whole text
abbrev pub blanked : Point → Maybe Point
blanked q = option_map (λ p. point p q.notes) (spaced_to q.place)

pub spaced-image : (r : Read) → image (spaced r) ≡ option_and_then blanked (image r)
spaced-image (to_signal none) = refl
spaced-image r = refl

-- no bracket may follow a name or a number
pub no-list-named : (p : Place) (c : ℕ) → option_and_then (λ q. next_of q From) (next_of p (Name c)) ≡ None
no-list-named Nothing c = refl
no-list-named p c = refl

pub no-list_numbered : (p : Place) (v : ℕ) → option_and_then (λ q. next_of q From) (next_of p (Number v)) ≡ None
no-list_numbered Nothing v = refl
no-list_numbered p v = refl
