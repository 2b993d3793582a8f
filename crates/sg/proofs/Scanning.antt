-- The code's scanner, byte by byte, is an image of the grammar's, and notes what the pieces say.
use Rattle.std.specs.Prelude.{Option as Maybe, Some, None, option_map, option_and_then}
use Prim.Native.Nat.{ℕ, suc}
use native.Mathlib.Omega.{arith}
use native.Mathlib.Numerals.{add-one}
use mathlib.Core.Bool.{Bool, true, false, cond, not, ◌&&◌, true≢false as no}
use mathlib.Core.List.{List, [], ◌∷◌, ◌++◌}
use mathlib.Core.Path.{◌≡◌, refl, sym, ap, ◌∙◌}
use lib.Dec.{leb, ltb, eqb}
use Rattle.grammar.specs.Grammar.{Piece, SG, amet/, KA, opens, shuts, from, to, comma, equals, name, number, bytes, same, is_small, is_digit, Small, Name, letter, letters}
use Rattle.grammar.specs.Reader.{Read, nothing, wrong, kind_of, feed, spaced, Scan, fresh, gap, in_sg, in_ka, in_name, in_number, closed, Class, small, digit, blank, slash, S, G, K, A, other, mark, class_of, on_class, on_small, on_digit, on_blank, on_slash, on_g, on_a, scan, scans}
use Rattle.grammar.proofs.Sound.{Seen, seen-small, seen-digit, seen-blank, seen-mark, seen_slash, seen-S, seen-G, seen-K, seen_A, seen_other, seen}
use Rattle.notes.specs.declared.Notes.{Notes}
use Rattle.notes.specs.Noting.{note_of, noted}
use Rattle.scanner.specs.Codes.{code_of, number_of, next_letter, next_digit}
use Rattle.scanner.specs.Machine.{next_of, token_of, turn_to, begin_of, letter_of, digit_of, spaced_to, blank_of, mark_of, last_of, is_in_sg, is_in_ka, is_in_amet, turn_on, turn_of}
use Rattle.scanner.specs.declared.Token.{Token}
use Rattle.scanner.specs.declared.Token.TheVariants.{Sg, Amet, Ka, From}
use Rattle.scanner.specs.declared.Mode.{Mode}
use Rattle.scanner.specs.declared.Mode.TheVariants.{Fresh, Between, InSg, InKa, InName, InNumber}
use Rattle.scanner.specs.declared.places.Place.{Place}
use Rattle.scanner.specs.declared.Scanner.{Scanner}
use Rattle.scanner.specs.declared.Turn.{Turn}
use Rattle.sg.proofs.Codes.{code-more, number_more, code_same, amet}
use Rattle.sg.proofs.Pieces.{Point, point, image, fed, fed-image, blanked, spaced-image, no-list-named, no-list_numbered}

-- what the code holds between two bytes
pub record State : Type 0 where
  pub scanner : Scanner
  pub notes : Notes

abbrev pub state_at : Mode → Point → State
state_at m q = record { scanner = record { mode = m; place = q.place }; notes = q.notes }

abbrev pub mode_of : Scan → Mode
mode_of fresh = Fresh
mode_of (gap r) = Between
mode_of (in_sg r) = InSg
mode_of (in_ka r) = InKa
mode_of (in_name w r) = InName (code_of w)
mode_of (in_number n w r) = InNumber n (number_of w)

abbrev pub read_before : Scan → Read
read_before fresh = nothing
read_before (gap r) = r
read_before (in_sg r) = r
read_before (in_ka r) = r
read_before (in_name w r) = r
read_before (in_number n w r) = r

-- a scan, as the code has it: none where no text begins so
abbrev pub picture : Scan → Maybe State
picture s = option_map (state_at (mode_of s)) (image (read_before s))

-- a turn's scanner, and the notes with what it tells
abbrev pub turned : State → Turn → State
turned q t = record { scanner = t.scanner; notes = noted q.notes q.scanner.place t.token }

abbrev moved : (Scanner → Maybe Turn) → State → Maybe State
moved f q = option_map (turned q) (f q.scanner)

-- one byte more
abbrev pub stepped : ℕ → State → Maybe State
stepped b q = moved (λ x. turn_of x b) q

-- f leads from one scan to the next, as the code has them
abbrev Leads : Scan → Scan → (Scanner → Maybe Turn) → Type 0
Leads s t f = picture t ≡ option_and_then (moved f) (picture s)

-- it does where it goes, at each point, as what has been read goes by g
leads : (s t : Scan) (f : Scanner → Maybe Turn) (g : Point → Maybe Point) → image (read_before t) ≡ option_and_then g (image (read_before s))
    → ((q : Point) → option_map (state_at (mode_of t)) (g q) ≡ moved f (state_at (mode_of s) q)) → Leads s t f
leads s t f g e h = ap (option_map (state_at (mode_of t))) e ∙ at (image (read_before s))
  where
    at : (o : Maybe Point) → option_map (state_at (mode_of t)) (option_and_then g o) ≡ option_and_then (moved f) (option_map (state_at (mode_of s)) o)
    at None = refl
    at (Some q) = h q

kept : (o : Maybe Point) → o ≡ option_and_then Some o
kept None = refl
kept (Some q) = refl

abbrev to_none : Point → Maybe Point
to_none q = None

nowhere : (o : Maybe Point) → None ≡ option_and_then to_none o
nowhere None = refl
nowhere (Some q) = refl

-- nothing is noted
quiet : (s t : Scan) (f : Scanner → Maybe Turn) → image (read_before t) ≡ image (read_before s)
    → ((q : Point) → Some (state_at (mode_of t) q) ≡ moved f (state_at (mode_of s) q)) → Leads s t f
quiet s t f e h = leads s t f Some (e ∙ kept (image (read_before s))) h

-- where no text begins so
lost : (s t : Scan) (f : Scanner → Maybe Turn) → image (read_before t) ≡ None
    → ((q : Point) → None ≡ moved f (state_at (mode_of s) q)) → Leads s t f
lost s t f e h = leads s t f to_none (e ∙ nowhere (image (read_before s))) h

-- f and g take each point alike
alike : (s t : Scan) (f g : Scanner → Maybe Turn) → ((q : Point) → f (state_at (mode_of s) q).scanner ≡ g (state_at (mode_of s) q).scanner)
    → Leads s t f → Leads s t g
alike s t f g h l = l ∙ at (image (read_before s))
  where
    at : (o : Maybe Point) → option_and_then (moved f) (option_map (state_at (mode_of s)) o) ≡ option_and_then (moved g) (option_map (state_at (mode_of s)) o)
    at None = refl
    at (Some q) = ap (option_map (turned (state_at (mode_of s) q))) (h q)

-- a piece that is told; none
told : (m k : Mode) (q : Point) (c : Token) (o : Maybe Place)
    → option_map (state_at k) (option_map (λ p. point p (note_of q.notes q.place c)) o) ≡ option_map (turned (state_at m q)) (option_map (turn_to (Some c) k) o)
told m k q c None = refl
told m k q c (Some p) = refl

untold : (m k : Mode) (q : Point) (o : Maybe Place)
    → option_map (state_at k) (option_map (λ p. point p q.notes) o) ≡ option_map (turned (state_at m q)) (option_map (turn_to None k) o)
untold m k q None = refl
untold m k q (Some p) = refl

-- a name that is being read has small letters only
abbrev pub Fine : Scan → Type 0
Fine fresh = Unit {0}
Fine (gap r) = Unit {0}
Fine (in_sg r) = Unit {0}
Fine (in_ka r) = Unit {0}
Fine (in_name w r) = Name w
Fine (in_number n w r) = Unit {0}

-- THE FIRST BYTE OF A NAME, A NUMBER, SG AND KA

abbrev to_begin : Mode → Scanner → Maybe Turn
to_begin m x = begin_of x m

begin-leads : (s t : Scan) → read_before t ≡ closed s → Leads s t (to_begin (mode_of t))
begin-leads fresh t e = quiet fresh t (to_begin (mode_of t)) (ap image e) (λ q. refl)
begin-leads (gap r) t e = quiet (gap r) t (to_begin (mode_of t)) (ap image e) (λ q. refl)
begin-leads (in_sg r) t e = lost (in_sg r) t (to_begin (mode_of t)) (ap image e) (λ q. refl)
begin-leads (in_ka r) t e = lost (in_ka r) t (to_begin (mode_of t)) (ap image e) (λ q. refl)
begin-leads (in_name w r) t e =
    leads (in_name w r) t (to_begin (mode_of t)) (fed (token_of (name w))) (ap image e ∙ fed-image r (name w))
    (λ q. told (mode_of (in_name w r)) (mode_of t) q (token_of (name w)) (next_of q.place (token_of (name w))))
begin-leads (in_number n w r) t e =
    leads (in_number n w r) t (to_begin (mode_of t)) (fed (token_of (number w))) (ap image e ∙ fed-image r (number w))
    (λ q. told (mode_of (in_number n w r)) (mode_of t) q (token_of (number w)) (next_of q.place (token_of (number w))))

-- LETTERS AND DIGITS

letter-leads : (b : ℕ) (s : Scan) → Leads s (on_small b s) (λ x. letter_of x b)
letter-leads b (in_name w r) =
    quiet (in_name w r) (on_small b (in_name w r)) (λ x. letter_of x b) refl
    (λ q. ap (λ (c : ℕ). Some (state_at (InName c) q)) (code-more 0 w b))
letter-leads b s =
    alike s (on_small b s) (to_begin (InName (next_letter 0 b))) (λ x. letter_of x b) (λ q. refl) (begin-leads s (on_small b s) refl)

digit-leads : (b : ℕ) (s : Scan) → Leads s (on_digit b s) (λ x. digit_of x b)
digit-leads b (in_number n w r) = at (ltb n 10) refl
  where
    at : (t : Bool) → ltb n 10 ≡ t → Leads (in_number n w r) (cond t (in_number (suc n) (w ++ (b ∷ [])) r) (gap wrong)) (λ x. digit_of x b)
    at true e =
        quiet (in_number n w r) (in_number (suc n) (w ++ (b ∷ [])) r) (λ x. digit_of x b) refl (λ q. rw (e, number_more 0 w b, add-one n) refl)
    at false e = lost (in_number n w r) (gap wrong) (λ x. digit_of x b) refl (λ q. rw e refl)
digit-leads b s =
    alike s (on_digit b s) (to_begin (InNumber 1 (next_digit 0 b))) (λ x. digit_of x b) (λ q. refl) (begin-leads s (on_digit b s) refl)

-- THE LAST BYTE OF SG, amet/ AND KA

-- a piece that is read whole at its last byte
piece-leads : (s : Scan) (p : Piece) (f : Scanner → Maybe Turn)
    → ((q : Point) → f (state_at (mode_of s) q).scanner ≡ option_map (turn_to (Some (token_of p)) Between) (next_of q.place (token_of p)))
    → Leads s (gap (feed (read_before s) p)) f
piece-leads s p f h =
    leads s (gap (feed (read_before s) p)) f (fed (token_of p)) (fed-image (read_before s) p)
    (λ q. told (mode_of s) Between q (token_of p) (next_of q.place (token_of p)) ∙ ap (option_map (turned (state_at (mode_of s) q))) (sym (h q)))

abbrev at_slash : Scanner → Maybe Turn
at_slash x = last_of x (is_in_amet x.mode) Amet

slash_leads : (s : Scan) → Fine s → Leads s (on_slash s) at_slash
slash_leads (in_name w r) h = at (same w (bytes "amet")) (code_same h amet (omega arith))
  where
    at : (t : Bool) → eqb (code_of w) (code_of (bytes "amet")) ≡ t → Leads (in_name w r) (gap (cond t (feed r amet/) wrong)) at_slash
    at true e = piece-leads (in_name w r) amet/ at_slash (λ q. rw e refl)
    at false e = lost (in_name w r) (gap wrong) at_slash refl (λ q. rw e refl)
slash_leads s h = lost s (gap wrong) at_slash refl (λ q. refl)

abbrev at_G : Scanner → Maybe Turn
at_G x = last_of x (is_in_sg x.mode) Sg

G-leads : (s : Scan) → Leads s (on_g s) at_G
G-leads (in_sg r) = piece-leads (in_sg r) SG at_G (λ q. refl)
G-leads s = lost s (gap wrong) at_G refl (λ q. refl)

abbrev at_A : Scanner → Maybe Turn
at_A x = last_of x (is_in_ka x.mode) Ka

A-leads : (s : Scan) → Leads s (on_a s) at_A
A-leads (in_ka r) = piece-leads (in_ka r) KA at_A (λ q. refl)
A-leads s = lost s (gap wrong) at_A refl (λ q. refl)

-- BLANKS AND MARKS BEHIND A NAME OR A NUMBER

then_then : (g f : Point → Maybe Point) (o : Maybe Point)
    → option_and_then g (option_and_then f o) ≡ option_and_then (λ q. option_and_then g (f q)) o
then_then g f None = refl
then_then g f (Some q) = refl

-- a piece ends, and is told; then what has been read goes on by g
behind-leads : (s : Scan) (c : Piece) (t : Read) (f : Scanner → Maybe Turn) (g : Point → Maybe Point)
    → image t ≡ option_and_then g (image (feed (read_before s) c))
    → ((q : Point) → option_map (state_at Between) (option_and_then g (fed (token_of c) q)) ≡ moved f (state_at (mode_of s) q))
    → Leads s (gap t) f
behind-leads s c t f g e h =
    leads s (gap t) f (λ q. option_and_then g (fed (token_of c) q))
    (e ∙ ap (option_and_then g) (fed-image (read_before s) c) ∙ then_then g (fed (token_of c)) (image (read_before s))) h

-- what has been read with c, at the place that there is
abbrev with_piece : Point → Token → Maybe Place → Maybe Point
with_piece q c o = option_map (λ p. point p (note_of q.notes q.place c)) o

-- the turn that tells c, to the place that there is
abbrev telling : Mode → Point → Token → Maybe Place → Maybe State
telling m q c o = option_map (turned (state_at m q)) (option_map (turn_to (Some c) Between) o)

blank-behind : (m : Mode) (q : Point) (c : Token) (o : Maybe Place)
    → option_map (state_at Between) (option_and_then blanked (with_piece q c o)) ≡ telling m q c (option_and_then spaced_to o)
blank-behind m q c None = refl
blank-behind m q c (Some p) = told m Between q c (spaced_to p)

blank-leads : (s : Scan) → Leads s (on_blank s) blank_of
blank-leads fresh = lost fresh (gap wrong) blank_of refl (λ q. refl)
blank-leads (gap r) = leads (gap r) (gap (spaced r)) blank_of blanked (spaced-image r) (λ q. untold Between Between q (spaced_to q.place))
blank-leads (in_sg r) = lost (in_sg r) (gap wrong) blank_of refl (λ q. refl)
blank-leads (in_ka r) = lost (in_ka r) (gap wrong) blank_of refl (λ q. refl)
blank-leads (in_name w r) =
    behind-leads (in_name w r) (name w) (spaced (feed r (name w))) blank_of blanked (spaced-image (feed r (name w)))
    (λ q. blank-behind (mode_of (in_name w r)) q (token_of (name w)) (next_of q.place (token_of (name w))))
blank-leads (in_number n w r) =
    behind-leads (in_number n w r) (number w) (spaced (feed r (number w))) blank_of blanked (spaced-image (feed r (number w)))
    (λ q. blank-behind (mode_of (in_number n w r)) q (token_of (number w)) (next_of q.place (token_of (number w))))

-- a mark is neither a name nor a number; all but the bracket that opens a list say nothing
abbrev is_mark : Piece → Bool
is_mark p = leb 5 (kind_of p)

abbrev is_silent : Piece → Bool
is_silent p = is_mark p && not (eqb (kind_of p) 7)

silent : (p : Piece) → is_silent p ≡ true → (n : Notes) (q : Place) → note_of n q (token_of p) ≡ n
unfolding note_of
silent opens e n q = refl
silent shuts e n q = refl
silent to e n q = refl
silent comma e n q = refl
silent equals e n q = refl
silent p e n q = absurd (no (sym e))

-- a silent mark behind a name or a number
silent-behind : (p : Piece) → is_silent p ≡ true → (m : Mode) (q : Point) (c : Token) (o : Maybe Place)
    → option_map (state_at Between) (option_and_then (fed (token_of p)) (with_piece q c o)) ≡ telling m q c (option_and_then (λ x. next_of x (token_of p)) o)
silent-behind p e m q c None = refl
silent-behind p e m q c (Some x) =
    ap (λ (n : Notes). option_map (state_at Between) (option_map (λ y. point y n) (next_of x (token_of p)))) (silent p e (note_of q.notes q.place c) x)
    ∙ told m Between q c (next_of x (token_of p))

-- no list opens there
list-behind : (m : Mode) (q : Point) (c : Token) (o : Maybe Place) → option_and_then (λ x. next_of x From) o ≡ None
    → option_map (state_at Between) (option_and_then (fed From) (with_piece q c o)) ≡ telling m q c (option_and_then (λ x. next_of x From) o)
list-behind m q c None e = refl
list-behind m q c (Some x) e = rw e refl

mark-behind : (p : Piece) → is_mark p ≡ true → (m : Mode) (q : Point) (c : Token) (o : Maybe Place) → option_and_then (λ x. next_of x From) o ≡ None
    → option_map (state_at Between) (option_and_then (fed (token_of p)) (with_piece q c o)) ≡ telling m q c (option_and_then (λ x. next_of x (token_of p)) o)
mark-behind opens e m q c o l = silent-behind opens refl m q c o
mark-behind shuts e m q c o l = silent-behind shuts refl m q c o
mark-behind to e m q c o l = silent-behind to refl m q c o
mark-behind comma e m q c o l = silent-behind comma refl m q c o
mark-behind equals e m q c o l = silent-behind equals refl m q c o
mark-behind from e m q c o l = list-behind m q c o l
mark-behind p e m q c o l = absurd (no (sym e))

abbrev at_mark : Piece → Scanner → Maybe Turn
at_mark p x = mark_of x (token_of p)

mark-leads : (p : Piece) → is_mark p ≡ true → (s : Scan) → Leads s (gap (feed (closed s) p)) (at_mark p)
mark-leads p e fresh = piece-leads fresh p (at_mark p) (λ q. refl)
mark-leads p e (gap r) = piece-leads (gap r) p (at_mark p) (λ q. refl)
mark-leads p e (in_sg r) = lost (in_sg r) (gap (feed wrong p)) (at_mark p) refl (λ q. refl)
mark-leads p e (in_ka r) = lost (in_ka r) (gap (feed wrong p)) (at_mark p) refl (λ q. refl)
mark-leads p e (in_name w r) =
    behind-leads (in_name w r) (name w) (feed (feed r (name w)) p) (at_mark p) (fed (token_of p)) (fed-image (feed r (name w)) p)
    (λ q. mark-behind p e (mode_of (in_name w r)) q (token_of (name w)) (next_of q.place (token_of (name w))) (no-list-named q.place (code_of w)))
mark-leads p e (in_number n w r) =
    behind-leads (in_number n w r) (number w) (feed (feed r (number w)) p) (at_mark p) (fed (token_of p)) (fed-image (feed r (number w)) p)
    (λ q. mark-behind p e (mode_of (in_number n w r)) q (token_of (number w)) (next_of q.place (token_of (number w))) (no-list_numbered q.place (number_of w)))

-- ONE BYTE MORE

abbrev proper : Class → Bool
proper (mark p) = is_mark p
proper c = true

record Proper (c : Class) : Type 0 where
  test : proper c ≡ true

proper_if : (t : Bool) {x y : Class} → Proper x → Proper y → Proper (cond t x y)
proper_if true a c = a
proper_if false a c = c

is-proper : (c : Class) → proper c ≡ true → Proper c
is-proper c e = record { test = e }

all-proper : (b : ℕ) → Proper (class_of b)
all-proper b =
    proper_if (is_small b) (is-proper small refl)
    (proper_if (is_digit b) (is-proper digit refl)
    (proper_if (eqb b 32) (is-proper blank refl)
    (proper_if (eqb b 123) (is-proper (mark opens) refl)
    (proper_if (eqb b 125) (is-proper (mark shuts) refl)
    (proper_if (eqb b 91) (is-proper (mark from) refl)
    (proper_if (eqb b 93) (is-proper (mark to) refl)
    (proper_if (eqb b 44) (is-proper (mark comma) refl)
    (proper_if (eqb b 61) (is-proper (mark equals) refl)
    (proper_if (eqb b 47) (is-proper slash refl)
    (proper_if (eqb b 83) (is-proper S refl)
    (proper_if (eqb b 71) (is-proper G refl)
    (proper_if (eqb b 75) (is-proper K refl)
    (proper_if (eqb b 65) (is-proper A refl) (is-proper other refl))))))))))))))

class_leads : (c : Class) → proper c ≡ true → (b : ℕ) (s : Scan) → Fine s → Leads s (on_class c b s) (λ x. turn_on c x b)
class_leads (mark p) e b s h = mark-leads p e s
class_leads small e b s h = letter-leads b s
class_leads digit e b s h = digit-leads b s
class_leads blank e b s h = blank-leads s
class_leads slash e b s h = slash_leads s h
class_leads S e b s h = begin-leads s (in_sg (closed s)) refl
class_leads G e b s h = G-leads s
class_leads K e b s h = begin-leads s (in_ka (closed s)) refl
class_leads A e b s h = A-leads s
class_leads other e b s h = lost s (gap wrong) (λ x. turn_on other x b) refl (λ q. refl)

pub step-leads : (b : ℕ) (s : Scan) → Fine s → picture (scan s b) ≡ option_and_then (stepped b) (picture s)
unfolding turn_of
step-leads b s h = class_leads (class_of b) (all-proper b).test b s h

fine-letter : {b : ℕ} (s : Scan) → Small b → Fine s → Fine (on_small b s)
fine-letter (in_name w r) k h = letters h k
fine-letter s k h = letter k

fine-digit : (b : ℕ) (s : Scan) → Fine (on_digit b s)
fine-digit b (in_number n w r) = at (ltb n 10)
  where
    at : (t : Bool) → Fine (cond t (in_number (suc n) (w ++ (b ∷ [])) r) (gap wrong))
    at true = tt
    at false = tt
fine-digit b s = tt

fine-blank : (s : Scan) → Fine (on_blank s)
fine-blank fresh = tt
fine-blank s = tt

fine_slash : (s : Scan) → Fine (on_slash s)
fine_slash fresh = tt
fine_slash s = tt

fine-G : (s : Scan) → Fine (on_g s)
fine-G fresh = tt
fine-G s = tt

fine_A : (s : Scan) → Fine (on_a s)
fine_A fresh = tt
fine_A s = tt

fine_more : {b : ℕ} {c : Class} (s : Scan) → Fine s → Seen b c → Fine (on_class c b s)
fine_more s h (seen-small k) = fine-letter s k h
fine_more {b} s h (seen-digit k) = fine-digit b s
fine_more s h (seen-blank e) = fine-blank s
fine_more s h (seen-mark k) = tt
fine_more s h (seen_slash e) = fine_slash s
fine_more s h (seen-S e) = tt
fine_more s h (seen-G e) = fine-G s
fine_more s h (seen-K e) = tt
fine_more s h (seen_A e) = fine_A s
fine_more s h seen_other = tt

pub fine-step : (b : ℕ) (s : Scan) → Fine s → Fine (scan s b)
fine-step b s h = fine_more s h (seen b)

all-fine : (l : List ℕ) (s : Scan) → Fine s → Fine (scans s l)
all-fine [] s h = h
all-fine (b ∷ l) s h = all-fine l (scan s b) (fine-step b s h)

pub fine : (l : List ℕ) → Fine (scans fresh l)
fine l = all-fine l fresh tt
