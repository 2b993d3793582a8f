-- What is read as a text is one that the grammar has.
use Prim.Native.Nat.{ℕ, suc, ◌≤◌}
use native.Mathlib.Omega.{arith}
use mathlib.Core.Bool.{Bool, true, false, cond, true≢false as no}
use mathlib.Core.List.{List, [], ◌∷◌, ◌++◌, append_assoc, append-nil}
use mathlib.Core.Path.{◌≡◌, refl, sym, ap, ◌∙◌}
use borrow.Author.Tests.{eqb-true, ltb-true}
use Rattle.std.proofs.lemmas.Slice.Eq.{bytes_eq-Decides}
use lib.Dec.{ltb, eqb}
use Rattle.grammar.specs.Grammar.{Row, none, ◌▹◌, Item, Signal, Text, Piece, SG, amet/, KA, opens, shuts, from, to, comma, equals, name, number, bytes, is_small, is_digit, commas, with_number, with_item, with_signal, head, pieces_of, Small, Digit, Name, letter, letters, Digits, digit, digits, Spelled, a-SG, an-amet/, a-KA, a_brace, a-closing_brace, a_bracket, a-closing_bracket, a_comma, an_equals, a-name, a-number, Blanks, no-blank, blank, Spaced, first, next, Says, same}
use Rattle.grammar.specs.Reader.{Read, nothing, begun, to_signal, to_name, named, to_item, item_named, to_value, item_read, to_number, number_read, signal_read, whole, wrong, kind_of, word_of, Option, ◌⇒◌, options, choose, feed, Scan, fresh, gap, in_sg, in_ka, in_name, in_number, closed, Class, small, digit as digit-class, blank as blank-class, slash, S, G, K, A, other, mark, class_of, on_class, on_small, on_digit, on_blank, on_slash, on_g, on_a, spaced, scan, scans}

-- PIECE BY PIECE: the pieces that have been read

abbrev to_signal' : Row Signal → Row Piece
to_signal' ss = commas with_signal head ss

abbrev to_item' : Row Signal → List ℕ → Row Item → Row Piece
to_item' ss n is = commas with_item (to_signal' ss ▹ amet/ ▹ name n ▹ opens) is

abbrev to_number' : Row Signal → List ℕ → Row Item → List ℕ → Row (List ℕ) → Row Piece
to_number' ss n is m ds = commas with_number (to_item' ss n is ▹ name m ▹ equals ▹ from) ds

abbrev pub so_far : Read → Row Piece
so_far nothing = none
so_far begun = none ▹ SG
so_far (to_signal ss) = to_signal' ss
so_far (to_name ss) = to_signal' ss ▹ amet/
so_far (named ss n) = to_signal' ss ▹ amet/ ▹ name n
so_far (to_item ss n is) = to_item' ss n is
so_far (item_named ss n is m) = to_item' ss n is ▹ name m
so_far (to_value ss n is m) = to_item' ss n is ▹ name m ▹ equals
so_far (item_read ss n is i) = with_item (to_item' ss n is) i
so_far (to_number ss n is m ds) = to_number' ss n is m ds
so_far (number_read ss n is m ds d) = to_number' ss n is m ds ▹ number d
so_far (signal_read ss s) = with_signal (to_signal' ss) s
so_far (whole t) = pieces_of t
so_far wrong = none

-- the piece of a kind and a word
abbrev pub piece_from : ℕ → List ℕ → Piece
piece_from k w =
    cond (eqb k 0) (name w)
    (cond (eqb k 1) (number w)
    (cond (eqb k 2) SG
    (cond (eqb k 3) amet/
    (cond (eqb k 4) KA
    (cond (eqb k 5) opens
    (cond (eqb k 6) shuts
    (cond (eqb k 7) from
    (cond (eqb k 8) to
    (cond (eqb k 9) comma equals)))))))))

pub from-kind : (p : Piece) → piece_from (kind_of p) (word_of p) ≡ p
from-kind (name w) = refl
from-kind (number w) = refl
from-kind SG = refl
from-kind amet/ = refl
from-kind KA = refl
from-kind opens = refl
from-kind shuts = refl
from-kind from = refl
from-kind to = refl
from-kind comma = refl
from-kind equals = refl

-- each option adds the piece of its kind to the pieces ps
abbrev Right : Row Piece → List ℕ → List Option → Type 0
Right ps w [] = Unit {0}
Right ps w ((k ⇒ r) ∷ os) = (so_far r ≡ ps ▹ piece_from k w) × Right ps w os

right : (r : Read) (w : List ℕ) → Right (so_far r) w (options r w)
right nothing w = (refl, tt)
right begun w = (refl, tt)
right (to_signal none) w = (refl, (refl, tt))
right (to_signal (ss ▹ s)) w = (refl, tt)
right (to_name ss) w = (refl, tt)
right (named ss n) w = (refl, (refl, (refl, tt)))
right (to_item ss n is) w = (refl, (refl, tt))
right (item_named ss n is m) w = (refl, tt)
right (to_value ss n is m) w = (refl, (refl, tt))
right (item_read ss n is i) w = (refl, (refl, tt))
right (to_number ss n is m ds) w = (refl, tt)
right (number_read ss n is m ds d) w = (refl, (refl, tt))
right (signal_read ss s) w = (refl, (refl, tt))
right (whole t) w = tt
right wrong w = tt

-- a piece is added, or all is wrong
data Added (ps : Row Piece) (p : Piece) (r : Read) : Type 0 where
  not-added : r ≡ wrong → Added ps p r
  added : so_far r ≡ ps ▹ p → Added ps p r

chosen : (ps : Row Piece) (p : Piece) (os : List Option) → Right ps (word_of p) os → Added ps p (choose (kind_of p) os)
chosen ps p [] h = not-added refl
chosen ps p ((k ⇒ r) ∷ os) h = at (eqb (kind_of p) k) refl (chosen ps p os h.1)
  where
    at : (t : Bool) → eqb (kind_of p) k ≡ t → Added ps p (choose (kind_of p) os) → Added ps p (cond t r (choose (kind_of p) os))
    at true e a =
        added (h.0 ∙ ap (λ (j : ℕ). ps ▹ piece_from j (word_of p)) (sym (eqb-true (kind_of p) k e)) ∙ ap (λ (q : Piece). ps ▹ q) (from-kind p))
    at false e a = a

fed : (r : Read) (p : Piece) → Added (so_far r) p (feed r p)
fed r p = chosen (so_far r) p (options r (word_of p)) (right r (word_of p))

-- BYTE BY BYTE

-- what a byte is
pub data Seen (b : ℕ) : Class → Type 0 where
  seen-small : Small b → Seen b small
  seen-digit : Digit b → Seen b digit-class
  seen-blank : b ≡ 32 → Seen b blank-class
  seen-mark : {p : Piece} → Spelled p (b ∷ []) → Seen b (mark p)
  seen_slash : b ≡ 47 → Seen b slash
  seen-S : b ≡ 83 → Seen b S
  seen-G : b ≡ 71 → Seen b G
  seen-K : b ≡ 75 → Seen b K
  seen_A : b ≡ 65 → Seen b A
  seen_other : Seen b other

seen_by : {b : ℕ} (t : Bool) {x y : Class} → (t ≡ true → Seen b x) → Seen b y → Seen b (cond t x y)
seen_by true f g = f refl
seen_by false f g = g

seen_if : {b : ℕ} (k : ℕ) {x y : Class} → (b ≡ k → Seen b x) → Seen b y → Seen b (cond (eqb b k) x y)
seen_if {b} k f g = seen_by (eqb b k) (λ e. f (eqb-true b k e)) g

pub seen : (b : ℕ) → Seen b (class_of b)
seen b =
    seen_by (is_small b) (λ e. seen-small (record { test = e }))
    (seen_by (is_digit b) (λ e. seen-digit (record { test = e }))
    (seen_if 32 (λ e. seen-blank e)
    (seen_if 123 (λ e. seen-mark (rw e a_brace))
    (seen_if 125 (λ e. seen-mark (rw e a-closing_brace))
    (seen_if 91 (λ e. seen-mark (rw e a_bracket))
    (seen_if 93 (λ e. seen-mark (rw e a-closing_bracket))
    (seen_if 44 (λ e. seen-mark (rw e a_comma))
    (seen_if 61 (λ e. seen-mark (rw e an_equals))
    (seen_if 47 (λ e. seen_slash e)
    (seen_if 83 (λ e. seen-S e)
    (seen_if 71 (λ e. seen-G e)
    (seen_if 75 (λ e. seen-K e)
    (seen_if 65 (λ e. seen_A e) seen_other)))))))))))))

-- any piece may be spelled next; also past blanks
record Goes (r : Read) (l : List ℕ) : Type 0 where
  then : (p : Piece) (w : List ℕ) → Spelled p w → Spaced (so_far r ▹ p) (l ++ w)

record Rests (r : Read) (l : List ℕ) : Type 0 where
  then : (g : List ℕ) (p : Piece) (w : List ℕ) → Blanks g → Spelled p w → Spaced (so_far r ▹ p) (l ++ (g ++ w))

goes : {r : Read} {l : List ℕ} → Rests r l → Goes r l
goes h = record { then = λ p w s. h.then [] p w no-blank s }

goes_first : Goes nothing []
goes_first = record { then = λ p w s. first s }

rests : (r : Read) {ps : Row Piece} {p : Piece} {l : List ℕ} → so_far r ≡ ps ▹ p → Spaced (ps ▹ p) l → Rests r l
rests r e s = record { then = λ g q v b h. rw e (next s b h) }

more-rests : {r : Read} {l : List ℕ} → Rests r l → Rests r (l ++ (32 ∷ []))
more-rests h = record { then = λ g p w b s. rw append_assoc (h.then (32 ∷ g) p w (blank b) s) }

abbrev is_whole : Read → Bool
is_whole nothing = false
is_whole begun = false
is_whole (to_signal ss) = false
is_whole (to_name ss) = false
is_whole (named ss n) = false
is_whole (to_item ss n is) = false
is_whole (item_named ss n is m) = false
is_whole (to_value ss n is m) = false
is_whole (item_read ss n is i) = false
is_whole (to_number ss n is m ds) = false
is_whole (number_read ss n is m ds d) = false
is_whole (signal_read ss s) = false
is_whole (whole t) = true
is_whole wrong = false

-- all is wrong
data Lost : Scan → Type 0 where
  lost-gap : Lost (gap wrong)
  lost-SG : Lost (in_sg wrong)
  lost-KA : Lost (in_ka wrong)
  lost-name : {w : List ℕ} → Lost (in_name w wrong)
  lost-number : {n : ℕ} {w : List ℕ} → Lost (in_number n w wrong)

-- the bytes l have led to a scan
data Reached : Scan → List ℕ → Type 0 where
  at-start : Reached fresh []
  lost : {s : Scan} {l : List ℕ} → Lost s → Reached s l
  past-piece : {r : Read} {l : List ℕ} → Rests r l → Spaced (so_far r) l → Reached (gap r) l
  past-blank : {r : Read} {l : List ℕ} → Rests r l → is_whole r ≡ false → Reached (gap r) l
  past-S : {r : Read} {l : List ℕ} → Goes r l → Reached (in_sg r) (l ++ (83 ∷ []))
  past-K : {r : Read} {l : List ℕ} → Goes r l → Reached (in_ka r) (l ++ (75 ∷ []))
  past-letter : {r : Read} {l w : List ℕ} → Goes r l → Name w → Reached (in_name w r) (l ++ w)
  past-digit : {r : Read} {n : ℕ} {l w : List ℕ} → Goes r l → Digits n w → n ≤ 10 → Reached (in_number n w r) (l ++ w)

-- what has been read where the piece ends here
data Ended (r : Read) (l : List ℕ) : Type 0 where
  ended-wrong : r ≡ wrong → Ended r l
  ended : Rests r l → Ended r l

data Begins (r : Read) (l : List ℕ) : Type 0 where
  begins-wrong : r ≡ wrong → Begins r l
  begins : Goes r l → Begins r l

ended-added : (r : Read) {s : Read} {p : Piece} {l : List ℕ} → Added (so_far r) p s → Spaced (so_far r ▹ p) l → Ended s l
ended-added r (not-added e) h = ended-wrong e
ended-added r {s} (added e) h = ended (rests s e h)

begins-ended : {r : Read} {l : List ℕ} → Ended r l → Begins r l
begins-ended (ended-wrong e) = begins-wrong e
begins-ended (ended h) = begins (goes h)

-- the closed scan; a blank goes on from there
data Closes : Scan → List ℕ → Type 0 where
  from_start : Closes fresh []
  closes : {s : Scan} {l : List ℕ} → Ended (closed s) l → on_blank s ≡ gap (spaced (closed s)) → Closes s l

closing : {s : Scan} {l : List ℕ} → Reached s l → Closes s l
closing at-start = from_start
closing (lost lost-gap) = closes (ended-wrong refl) refl
closing (lost lost-SG) = closes (ended-wrong refl) refl
closing (lost lost-KA) = closes (ended-wrong refl) refl
closing (lost lost-name) = closes (ended-wrong refl) refl
closing (lost lost-number) = closes (ended-wrong refl) refl
closing (past-piece h s) = closes (ended h) refl
closing (past-blank h e) = closes (ended h) refl
closing (past-S h) = closes (ended-wrong refl) refl
closing (past-K h) = closes (ended-wrong refl) refl
closing (past-letter {r} {l} {w} h k) = closes (ended-added r (fed r (name w)) (h.then (name w) w (a-name k))) refl
closing (past-digit {r} {n} {l} {w} h k m) = closes (ended-added r (fed r (number w)) (h.then (number w) w (a-number k m))) refl

begun-at : {s : Scan} {l : List ℕ} → Closes s l → Begins (closed s) l
begun-at from_start = begins goes_first
begun-at (closes h e) = begins-ended h

-- a piece is read up to its end
whole-piece : (r : Read) {p : Piece} {l w : List ℕ} → Goes r l → Spelled p w → Reached (gap (feed r p)) (l ++ w)
whole-piece r {p} {l} {w} h k = at (fed r p) (h.then p w k)
  where
    at : {s : Read} → Added (so_far r) p s → Spaced (so_far r ▹ p) (l ++ w) → Reached (gap s) (l ++ w)
    at (not-added e) t = rw e (lost lost-gap)
    at {s} (added e) t = past-piece (rests s e t) (rw e t)

fed-wrong : (p : Piece) (r : Read) → r ≡ wrong → feed r p ≡ wrong
fed-wrong p r e = rw e

a-mark : {r : Read} {p : Piece} {b : ℕ} {l : List ℕ} → Begins r l → Spelled p (b ∷ []) → Reached (gap (feed r p)) (l ++ (b ∷ []))
a-mark {r} {p} (begins-wrong e) h = rw (fed-wrong p r e) (lost lost-gap)
a-mark {r} (begins k) h = whole-piece r k h

a-first-letter : {r : Read} {b : ℕ} {l : List ℕ} → Begins r l → Small b → Reached (in_name (b ∷ []) r) (l ++ (b ∷ []))
a-first-letter (begins-wrong e) h = rw e (lost lost-name)
a-first-letter (begins k) h = past-letter k (letter h)

a-first-digit : {r : Read} {b : ℕ} {l : List ℕ} → Begins r l → Digit b → Reached (in_number 1 (b ∷ []) r) (l ++ (b ∷ []))
a-first-digit (begins-wrong e) h = rw e (lost lost-number)
a-first-digit (begins k) h = past-digit k (digit h) (omega arith)

an_S : {r : Read} {l : List ℕ} → Begins r l → Reached (in_sg r) (l ++ (83 ∷ []))
an_S (begins-wrong e) = rw e (lost lost-SG)
an_S (begins k) = past-S k

a-K : {r : Read} {l : List ℕ} → Begins r l → Reached (in_ka r) (l ++ (75 ∷ []))
a-K (begins-wrong e) = rw e (lost lost-KA)
a-K (begins k) = past-K k

-- a blank is wrong, or leaves what has been read, which is not whole
data Spacing (r : Read) (s : Read) : Type 0 where
  no-spacing : s ≡ wrong → Spacing r s
  spacing : s ≡ r → is_whole r ≡ false → Spacing r s

space : (r : Read) → Spacing r (spaced r)
space nothing = spacing refl refl
space begun = spacing refl refl
space (to_signal ss) = spacing refl refl
space (to_name ss) = spacing refl refl
space (named ss n) = spacing refl refl
space (to_item ss n is) = spacing refl refl
space (item_named ss n is m) = spacing refl refl
space (to_value ss n is m) = spacing refl refl
space (item_read ss n is i) = spacing refl refl
space (to_number ss n is m ds) = spacing refl refl
space (number_read ss n is m ds d) = spacing refl refl
space (signal_read ss s) = spacing refl refl
space (whole t) = no-spacing refl
space wrong = no-spacing refl

a-space : {r s : Read} {l : List ℕ} → Ended r l → Spacing r s → Reached (gap s) (l ++ (32 ∷ []))
a-space h (no-spacing e) = rw e (lost lost-gap)
a-space {r} {s} {l} (ended h) (spacing e f) = rw e (past-blank (more-rests h) f)
a-space {r} {s} {l} (ended-wrong h) (spacing e f) = rw (e, h) (lost lost-gap)

a-blank : {s : Scan} {l : List ℕ} → Closes s l → Reached (on_blank s) (l ++ (32 ∷ []))
a-blank from_start = lost lost-gap
a-blank {s} (closes h e) = rw e (a-space h (space (closed s)))

a-letter : {s : Scan} {l : List ℕ} {b : ℕ} → Reached s l → Small b → Reached (on_small b s) (l ++ (b ∷ []))
a-letter at-start h = a-first-letter (begins goes_first) h
a-letter (lost lost-gap) h = lost lost-name
a-letter (lost lost-SG) h = lost lost-name
a-letter (lost lost-KA) h = lost lost-name
a-letter (lost lost-name) h = lost lost-name
a-letter (lost lost-number) h = lost lost-name
a-letter (past-piece {r} {l} k s) h = past-letter (goes k) (letter h)
a-letter (past-blank {r} {l} k e) h = past-letter (goes k) (letter h)
a-letter (past-S k) h = lost lost-name
a-letter (past-K k) h = lost lost-name
a-letter (past-letter k m) h = rw append_assoc (past-letter k (letters m h))
a-letter (past-digit {r} {n} {l} {w} k m i) h = a-first-letter (begun-at (closing (past-digit k m i))) h

a-digit : {s : Scan} {l : List ℕ} {b : ℕ} → Reached s l → Digit b → Reached (on_digit b s) (l ++ (b ∷ []))
a-digit at-start h = a-first-digit (begins goes_first) h
a-digit (lost lost-gap) h = lost lost-number
a-digit (lost lost-SG) h = lost lost-number
a-digit (lost lost-KA) h = lost lost-number
a-digit (lost lost-name) h = lost lost-number
a-digit {l = l} {b} (lost (lost-number {n} {w})) h = at (ltb n 10)
  where
    at : (t : Bool) → Reached (cond t (in_number (suc n) (w ++ (b ∷ [])) wrong) (gap wrong)) (l ++ (b ∷ []))
    at true = lost lost-number
    at false = lost lost-gap
a-digit (past-piece {r} {l} k s) h = past-digit (goes k) (digit h) (omega arith)
a-digit (past-blank {r} {l} k e) h = past-digit (goes k) (digit h) (omega arith)
a-digit (past-S k) h = lost lost-number
a-digit (past-K k) h = lost lost-number
a-digit (past-letter k m) h = a-first-digit (begun-at (closing (past-letter k m))) h
a-digit {b = b} (past-digit {r} {n} {l} {w} k m i) h = at (ltb n 10) refl
  where
    at : (t : Bool) → ltb n 10 ≡ t → Reached (cond t (in_number (suc n) (w ++ (b ∷ [])) r) (gap wrong)) ((l ++ w) ++ (b ∷ []))
    at true e = let j = ltb-true n 10 e in rw append_assoc (past-digit k (digits m h) (omega arith))
    at false e = lost lost-gap

a_slash : {s : Scan} {l : List ℕ} → Reached s l → Reached (on_slash s) (l ++ (47 ∷ []))
a_slash at-start = lost lost-gap
a_slash (lost lost-gap) = lost lost-gap
a_slash (lost lost-SG) = lost lost-gap
a_slash (lost lost-KA) = lost lost-gap
a_slash {l = l} (lost (lost-name {w})) = at (same w (bytes "amet"))
  where
    at : (t : Bool) → Reached (gap (cond t wrong wrong)) (l ++ (47 ∷ []))
    at true = lost lost-gap
    at false = lost lost-gap
a_slash (lost lost-number) = lost lost-gap
a_slash (past-piece k s) = lost lost-gap
a_slash (past-blank k e) = lost lost-gap
a_slash (past-S k) = lost lost-gap
a_slash (past-K k) = lost lost-gap
a_slash (past-letter {r} {l} {w} k m) = at (same w (bytes "amet")) refl
  where
    at : (t : Bool) → same w (bytes "amet") ≡ t → Reached (gap (cond t (feed r amet/) wrong)) ((l ++ w) ++ (47 ∷ []))
    at true e = rw ((bytes_eq-Decides w (bytes "amet")).0 e, append_assoc) (whole-piece r k an-amet/)
    at false e = lost lost-gap
a_slash (past-digit k m i) = lost lost-gap

a-G : {s : Scan} {l : List ℕ} → Reached s l → Reached (on_g s) (l ++ (71 ∷ []))
a-G at-start = lost lost-gap
a-G (lost lost-gap) = lost lost-gap
a-G (lost lost-SG) = lost lost-gap
a-G (lost lost-KA) = lost lost-gap
a-G (lost lost-name) = lost lost-gap
a-G (lost lost-number) = lost lost-gap
a-G (past-piece k s) = lost lost-gap
a-G (past-blank k e) = lost lost-gap
a-G (past-S {r} k) = rw append_assoc (whole-piece r k a-SG)
a-G (past-K k) = lost lost-gap
a-G (past-letter k m) = lost lost-gap
a-G (past-digit k m i) = lost lost-gap

an_A : {s : Scan} {l : List ℕ} → Reached s l → Reached (on_a s) (l ++ (65 ∷ []))
an_A at-start = lost lost-gap
an_A (lost lost-gap) = lost lost-gap
an_A (lost lost-SG) = lost lost-gap
an_A (lost lost-KA) = lost lost-gap
an_A (lost lost-name) = lost lost-gap
an_A (lost lost-number) = lost lost-gap
an_A (past-piece k s) = lost lost-gap
an_A (past-blank k e) = lost lost-gap
an_A (past-S k) = lost lost-gap
an_A (past-K {r} k) = rw append_assoc (whole-piece r k a-KA)
an_A (past-letter k m) = lost lost-gap
an_A (past-digit k m i) = lost lost-gap

one_more_lem : {s : Scan} {l : List ℕ} {b : ℕ} {c : Class} → Reached s l → Seen b c → Reached (on_class c b s) (l ++ (b ∷ []))
one_more_lem h (seen-small k) = a-letter h k
one_more_lem h (seen-digit k) = a-digit h k
one_more_lem h (seen-blank e) = rw e (a-blank (closing h))
one_more_lem h (seen-mark k) = a-mark (begun-at (closing h)) k
one_more_lem h (seen_slash e) = rw e (a_slash h)
one_more_lem h (seen-S e) = rw e (an_S (begun-at (closing h)))
one_more_lem h (seen-G e) = rw e (a-G h)
one_more_lem h (seen-K e) = rw e (a-K (begun-at (closing h)))
one_more_lem h (seen_A e) = rw e (an_A h)
one_more_lem h seen_other = lost lost-gap

all_reached : (l : List ℕ) (s : Scan) (k : List ℕ) → Reached s k → Reached (scans s l) (k ++ l)
all_reached [] s k h = rw append-nil h
all_reached (b ∷ l) s k h = rw append_assoc at (all_reached l (scan s b) (k ++ (b ∷ [])) (one_more_lem h (seen b)))

-- THE THEOREM

as_said : {t : Text} {l : List ℕ} → Reached (gap (whole t)) l → Says l t
as_said (past-piece h s) = s
as_said (past-blank h e) = absurd (no e)
as_said {t = t} {l = l} (lost x) = elim x [ ]

pub sound : (t : Text) (l : List ℕ) → scans fresh l ≡ gap (whole t) → Says l t
sound t l e = as_said (rw e at (all_reached l fresh [] at-start))
