-- The first word of a line is what stands between its first blanks and the next, and the other words stand past it.
use Rattle.std.proofs.Common.{◌≡◌, refl, ◌∙◌, ap, sym, ℕ, suc, ◌+◌, Bool, true, false, not, List, [], ◌∷◌, length, take, drop, ◌-◌, length-drop, arith}
use Rattle.std.proofs.Math.Seq.{take-length}
use Rattle.std.proofs.lemmas.List.Sums.{prefix_len-le-length}
use Rattle.std.specs.Prelude.{◌==◌, if◌then◌else◌, position, unwrap_or}
use Rattle.std.specs.List.{position_or_len}
use Rattle.std.proofs.lemmas.Bool.Decides.{nat_tests}
use Rattle.script.specs.Words.{blank, on_first, pieces, filled, words_of}
use Rattle.script.specs.Readers.{first, rest, no_word}
use Rattle.script.specs.Runs.{ends_run, past_run, past_blanks, past_word, past_first}

-- the bytes before the first blank
abbrev pub leading : List ℕ → List ℕ
leading [] = []
leading (b ∷ l) = if b == blank then [] else b ∷ leading l

-- the pieces past the first blank
abbrev later : List ℕ → List (List ℕ)
later [] = []
later (b ∷ l) = if b == blank then pieces l else later l

piece : (t : Bool) (b : ℕ) (l : List ℕ) → pieces l ≡ leading l ∷ later l
    → (if t then [] ∷ pieces l else on_first b (pieces l)) ≡ (if t then [] else b ∷ leading l) ∷ (if t then pieces l else later l)
piece true b l e = refl
piece false b l e = rw e

-- a line's pieces are what stands before its first blank, and those past it
pieces_cons : (l : List ℕ) → pieces l ≡ leading l ∷ later l
pieces_cons [] = refl
pieces_cons (b ∷ l) = piece (b == blank) b l (pieces_cons l)

left : (t : Bool) (b : ℕ) (l : List ℕ) → (b == blank) ≡ t → filled (later l) ≡ filled (pieces (past_word l))
    → filled (if t then pieces l else later l) ≡ filled (pieces (if t then b ∷ l else past_word l))
left true b l q e = rw q
left false b l q e = e

-- the words past the first blank are those past the first word
later-words : (l : List ℕ) → filled (later l) ≡ filled (pieces (past_word l))
later-words [] = refl
later-words (b ∷ l) = left (b == blank) b l refl (later-words l)

-- the first word, and the others
abbrev parts : List (List ℕ) → List ℕ × List (List ℕ)
parts ws = (first ws, rest ws)

begun : (t : Bool) (b : ℕ) (l : List ℕ) → (b == blank) ≡ t
    → parts (filled (pieces l)) ≡ (leading (past_blanks l), filled (pieces (past_first l)))
    → parts (filled (if t then [] ∷ pieces l else on_first b (pieces l)))
    ≡ (leading (if not t then b ∷ l else past_blanks l), filled (pieces (past_word (if not t then b ∷ l else past_blanks l))))
begun true b l q e = e
begun false b l q e = rw (q, pieces_cons l, later-words l)

-- they stand past the first blanks, and past the first word
unfold_words : (l : List ℕ) → parts (filled (pieces l)) ≡ (leading (past_blanks l), filled (pieces (past_first l)))
unfold_words [] = refl
unfold_words (b ∷ l) = begun (b == blank) b l refl (unfold_words l)

-- the first word is what stands before a blank past the first blanks
pub first-leading : (l : List ℕ) → first (words_of l) ≡ leading (past_blanks l)
unfolding words_of
first-leading l = ap (λ (p : List ℕ × List (List ℕ)). p.0) (unfold_words l)

-- where a run ends: its place, or the line's length
run_end : (blanks : Bool) (l : List ℕ) → drop (position_or_len (ends_run blanks) l) l ≡ past_run blanks l
run_end blanks [] = refl
run_end blanks (b ∷ l) = one (ends_run blanks b) (run_end blanks l)
  where
    one : (t : Bool) → drop (position_or_len (ends_run blanks) l) l ≡ past_run blanks l
        → drop (if not t then 1 + position_or_len (ends_run blanks) l else 0) (b ∷ l) ≡ (if t then b ∷ l else past_run blanks l)
    one true e = refl
    one false e =
        let more : 1 + position_or_len (ends_run blanks) l ≡ suc (position_or_len (ends_run blanks) l) = omega arith in rw (more, e)

-- the bytes before it
before_end : (l : List ℕ) → take (position_or_len (ends_run false) l) l ≡ leading l
before_end [] = refl
before_end (b ∷ l) = one (b == blank) (before_end l)
  where
    one : (t : Bool) → take (position_or_len (ends_run false) l) l ≡ leading l
        → take (if not t then 1 + position_or_len (ends_run false) l else 0) (b ∷ l) ≡ (if t then [] else b ∷ leading l)
    one true e = refl
    one false e =
        let more : 1 + position_or_len (ends_run false) l ≡ suc (position_or_len (ends_run false) l) = omega arith in rw (more, e)

place : (p : ℕ → Bool) (l : List ℕ) → unwrap_or (position p l) (length l) ≡ position_or_len p l
place p l = let h = prefix_len-le-length (λ x. not (p x)) l in grind (arith, nat_tests)

-- past the run of blanks, or of other bytes
pub past_end : (blanks : Bool) (l : List ℕ) {n : ℕ} → n ≡ unwrap_or (position (ends_run blanks) l) (length l) → drop n l ≡ past_run blanks l
past_end blanks l e = rw (e, place (ends_run blanks) l) (run_end blanks l)

pub run_rest : (blanks : Bool) (l : List ℕ) (n : ℕ) → n ≡ unwrap_or (position (ends_run blanks) l) (length l)
    → take (length l - n) (drop n l) ≡ past_run blanks l
run_rest blanks l n e = rw (← length-drop n l, take-length) (past_end blanks l e)

-- the first word of a line stands past its blanks, and ends at the next
pub first_word : (l m : List ℕ) {n : ℕ} → m ≡ past_blanks l → n ≡ unwrap_or (position (ends_run false) m) (length m) → take n m ≡ first (words_of l)
unfolding words_of
first_word l m blanks e =
    rw (e, place (ends_run false) m, before_end m, blanks) (sym (first-leading l))

-- past it stands what is left of the line
pub left_of : (l m : List ℕ) {n : ℕ} → m ≡ past_blanks l → n ≡ unwrap_or (position (ends_run false) m) (length m) → drop n m ≡ past_first l
left_of l m blanks e = past_end false m e ∙ rw blanks

-- with the other words
pub other_words : (l : List ℕ) {m : List ℕ} → m ≡ past_first l → words_of m ≡ rest (words_of l)
unfolding words_of
other_words l e = rw e (sym (ap (λ (p : List ℕ × List (List ℕ)). p.1) (unfold_words l)))

-- whether a line has no byte
abbrev no_byte : List ℕ → Bool
no_byte [] = true
no_byte (b ∷ l) = false

bare : (t : Bool) (b : ℕ) (l : List ℕ) → (b == blank) ≡ t → no_byte (past_blanks l) ≡ no_word (filled (pieces l))
    → no_byte (if not t then b ∷ l else past_blanks l) ≡ no_word (filled (if t then [] ∷ pieces l else on_first b (pieces l)))
bare true b l q e = e
bare false b l q e = rw (pieces_cons l)

-- a line has no word just where nothing stands past its blanks
blanks-only : (l : List ℕ) → no_byte (past_blanks l) ≡ no_word (words_of l)
unfolding words_of
blanks-only [] = refl
blanks-only (b ∷ l) = bare (b == blank) b l refl (blanks-only l)

-- and so none is left
pub none_left : (l m : List ℕ) → m ≡ past_blanks l → (length m == 0) ≡ no_word (words_of l)
none_left l m e = bytes m ∙ rw e (blanks-only l)
  where
    bytes : (m : List ℕ) → (length m == 0) ≡ no_byte m
    bytes [] = refl
    bytes (b ∷ m) = grind (arith, nat_tests)
