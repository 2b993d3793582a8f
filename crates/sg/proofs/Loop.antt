-- The reader's loop: the scanner and the notes after some bytes, and what is answered at the end.
use Rattle.std.specs.Prelude.{Result, Ok, Err, Option as Maybe, Some, None, option_map, option_and_then, IsErrAnd}
use Prim.Native.Nat.{ℕ, suc, ◌+◌, ◌<◌, ◌≤◌}
use mathlib.Core.Bool.{false}
use mathlib.Core.List.{List, [], ◌∷◌}
use mathlib.Core.Path.{◌≡◌, refl, sym, ap, ◌∙◌}
use native.Mathlib.Numerals.{add-one}
use lib.ListN.{length, get_or, take, drop, take-append-drop}
use lib.Seq.{take-suc, take_all}
use Rattle.grammar.specs.Grammar.{none, ◌▹◌}
use Rattle.grammar.specs.Reader.{nothing, begun, to_signal, to_name, named, to_item, item_named, to_value, item_read, to_number, number_read, signal_read, whole, wrong, Scan, fresh, gap, in_sg, in_ka, in_name, in_number, scan, scans, text_in, text_of}
use Rattle.grammar.proofs.Complete.{scans_append}
use Rattle.descriptor.specs.declared.Refusal.{Refusal}
use Rattle.descriptor.specs.declared.Refusal.TheVariants.{Grammar}
use Rattle.notes.specs.Noting.{noted}
use Rattle.notes.specs.declared.Notes.{Notes}
use Rattle.scanner.specs.Machine.{is_whole, whole_in, turn_of}
use Rattle.scanner.specs.declared.Mode.{Mode}
use Rattle.scanner.specs.declared.places.Place.{Place}
use Rattle.outcomes.specs.Outcomes.{answer_of}
use Rattle.outcomes.specs.declared.Reading.{Reading}
use Rattle.sg.specs.Readings.{read_in, read_of}
use Rattle.scanner.specs.declared.Scanner.{Scanner}
use Rattle.scanner.specs.declared.Turn.{Turn}
use Rattle.sg.proofs.Pieces.{Point, image}
use Rattle.sg.proofs.Scanning.{State, state_at, mode_of, picture, turned, stepped, step-leads, Fine, fine-step, fine}

-- what has been read after i bytes
abbrev pub after : List ℕ → ℕ → Scan
after l i = scans fresh (take i l)

after_more : (l : List ℕ) (i : ℕ) → i < length l → scan (after l i) (get_or l i 0) ≡ after l (suc i)
after_more l i h =
    sym (scans_append fresh (take i l) (get_or l i 0 ∷ [])) ∙ ap (scans fresh) (sym (take-suc l i 0 h))

-- what the code holds then: none where no text begins so
abbrev pub held : List ℕ → ℕ → Maybe State
held l i = picture (after l i)

held-more : (l : List ℕ) (i : ℕ) → i < length l → held l (suc i) ≡ option_and_then (stepped (get_or l i 0)) (held l i)
held-more l i h =
    ap picture (sym (after_more l i h)) ∙ step-leads (get_or l i 0) (after l i) (fine (take i l))

-- AT THE END

answered : Maybe State → Result Reading Refusal
answered None = Err Grammar
answered (Some q) = answer_of (is_whole q.scanner) q.notes

-- no text ends in a mode that is not whole at any place
unended : (m : Mode) → ((p : Place) → whole_in m p ≡ false) → (o : Maybe Point) → answered (option_map (state_at m) o) ≡ Err Grammar
unfolding answered answer_of
unended m h None = refl
unended m h (Some q) = rw (h q.place) refl

ended : (s : Scan) → answered (picture s) ≡ read_in (text_in s)
unfolding answered answer_of
ended fresh = refl
ended (in_sg r) = unended (mode_of (in_sg r)) (λ p. refl) (image r)
ended (in_ka r) = unended (mode_of (in_ka r)) (λ p. refl) (image r)
ended (in_name w r) = unended (mode_of (in_name w r)) (λ p. refl) (image r)
ended (in_number n w r) = unended (mode_of (in_number n w r)) (λ p. refl) (image r)
ended (gap nothing) = refl
ended (gap begun) = refl
ended (gap (to_signal none)) = refl
ended (gap (to_signal (ss ▹ s))) = refl
ended (gap (to_name ss)) = refl
ended (gap (named ss n)) = refl
ended (gap (to_item ss n is)) = refl
ended (gap (item_named ss n is m)) = refl
ended (gap (to_value ss n is m)) = refl
ended (gap (item_read ss n is i)) = refl
ended (gap (to_number ss n is m ds)) = refl
ended (gap (number_read ss n is m ds d)) = refl
ended (gap (signal_read ss s)) = refl
ended (gap (whole t)) = refl
ended (gap wrong) = refl

-- what is none stays none
lost-scans : (l : List ℕ) (s : Scan) → Fine s → picture s ≡ None → picture (scans s l) ≡ None
lost-scans [] s h e = e
lost-scans (b ∷ l) s h e =
    lost-scans l (scan s b) (fine-step b s h) (step-leads b s h ∙ ap (option_and_then (stepped b)) e)

lost-refused : (l : List ℕ) (i : ℕ) → held l i ≡ None → read_in (text_in (scans fresh l)) ≡ Err Grammar
unfolding answered
lost-refused l i e =
    let k : picture (scans (after l i) (drop i l)) ≡ None = lost-scans (drop i l) (after l i) (fine (take i l)) e in
    let g : scans fresh l ≡ scans (after l i) (drop i l) =
    ap (scans fresh) (sym (take-append-drop i l)) ∙ scans_append fresh (take i l) (drop i l) in
    sym (ended (scans fresh l)) ∙ ap answered (ap picture g ∙ k)

is-error : (r : Result Reading Refusal) (e : Refusal) → IsErrAnd r (λ x. x ≡ e) → r ≡ Err e
is-error (Ok v) e h = absurd h
is-error (Err x) e h = ap Err h

-- THE LAWS OF THE LOOP, over what its variables hold

abbrev pub state : Scanner → Notes → State
state s n = record { scanner = s; notes = n }

module _ (text : List ℕ) (i : ℕ) (s : Scanner) (n : Notes) (inside : i < length text) (before : held text i ≡ Some (state s n)) where
  next : held text (i + 1) ≡ option_map (turned (state s n)) (turn_of s (get_or text i 0))
  next = rw add-one (held-more text i inside ∙ ap (option_and_then (stepped (get_or text i 0))) before)

  -- no turn: no text begins so
  pub refuses : (r : Result Reading Refusal) (e : Refusal) → turn_of s (get_or text i 0) ≡ None → e ≡ Grammar → IsErrAnd r (λ x. x ≡ e) → r ≡ read_of text
  unfolding read_of text_of
  refuses r e turn-is e-is h =
      is-error r e h ∙ ap Err e-is ∙ sym (lost-refused text (i + 1) (next ∙ ap (option_map (turned (state s n))) turn-is))

  pub goes-on : (t : Turn) (m : Notes) → turn_of s (get_or text i 0) ≡ Some t → m ≡ noted n s.place t.token → held text (i + 1) ≡ Some (state t.scanner m)
  goes-on t m turn-is notes-are =
      next ∙ ap (option_map (turned (state s n))) turn-is ∙ ap (λ (k : Notes). Some (state t.scanner k)) (sym notes-are)

-- at the end
pub answers : (text : List ℕ) (i : ℕ) (s : Scanner) (n : Notes) → length text ≤ i → held text i ≡ Some (state s n)
    → answer_of (is_whole s) n ≡ read_of text
unfolding read_of text_of answered
answers text i s n past e =
    sym (ap answered e) ∙ ended (after text i) ∙ ap (λ (l : List ℕ). read_in (text_in (scans fresh l))) (take_all i text past)
