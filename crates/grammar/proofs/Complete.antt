-- Every text of the grammar is read, and read as what it says; so its reading is unique.
use Prim.Native.Nat.{ℕ, ◌≤◌}
use native.Mathlib.Omega.{arith}
use mathlib.Core.Bool.{Bool, true, false, true≢false as no}
use mathlib.Core.List.{List, [], ◌∷◌, ◌++◌}
use mathlib.Core.Path.{◌≡◌, refl, ap, ◌∙◌}
use borrow.Author.Tests.{lt-leb, lt-ltb}
use Rattle.grammar.specs.Grammar.{Row, none, ◌▹◌, single, list, Item, keep, valued, Signal, bare, braced, Text, empty, signals, Piece, SG, amet/, KA, opens, shuts, from, to, comma, equals, name, number, bytes, commas, with_number, with_item, with_signal, head, pieces_of, Small, Digit, Name, letter, letters, Digits, digit, digits, Spelled, a-SG, an-amet/, a-KA, a_brace, a-closing_brace, a_bracket, a-closing_bracket, a_comma, an_equals, a-name, a-number, Blanks, no-blank, blank, Spaced, first, next, Says}
use Rattle.grammar.specs.Reader.{Read, nothing, begun, to_signal, to_name, named, to_item, item_named, to_value, item_read, to_number, number_read, signal_read, whole, wrong, feed, Scan, fresh, gap, in_sg, in_ka, in_name, in_number, closed, class_of, on_blank, spaced, scan, scans, digit as digit-class, small as small-class}

-- PIECE BY PIECE: a text's pieces lead to the whole text

abbrev pub feeds : Row Piece → Read
feeds none = nothing
feeds (ps ▹ p) = feed (feeds ps) p

module _ (ss : Row Signal) (n : List ℕ) where
  numbers-fed : (is : Row Item) (m : List ℕ) (ds : Row (List ℕ)) (ps : Row Piece) → feeds ps ≡ to_number ss n is m none
      → feeds (commas with_number ps ds) ≡ to_number ss n is m ds
  numbers-fed is m none ps e = e
  numbers-fed is m (ds ▹ d) ps e = rw (numbers-fed is m ds ps e)

  item_fed : (is : Row Item) (i : Item) (ps : Row Piece) → feeds ps ≡ to_item ss n is → feeds (with_item ps i) ≡ item_read ss n is i
  item_fed is keep ps e = rw e
  item_fed is (valued m (single d)) ps e = rw e
  item_fed is (valued m (list ds d)) ps e =
      rw (numbers-fed is m ds (ps ▹ name m ▹ equals ▹ from) (rw e))

  items_fed : (is : Row Item) (ps : Row Piece) → feeds ps ≡ to_item ss n none → feeds (commas with_item ps is) ≡ to_item ss n is
  items_fed none ps e = e
  items_fed (is ▹ i) ps e = rw (item_fed is i (commas with_item ps is) (items_fed is ps e))

amet-fed : (ss : Row Signal) → feed (to_signal ss) amet/ ≡ to_name ss
amet-fed none = refl
amet-fed (ss ▹ s) = refl

named-fed : (ss : Row Signal) (n : List ℕ) (ps : Row Piece) → feeds ps ≡ to_signal ss → feeds (ps ▹ amet/ ▹ name n) ≡ named ss n
named-fed ss n ps e = rw (e, amet-fed ss)

-- a signal, and then a comma or the closing brace
signal-fed : (ss : Row Signal) (s : Signal) (ps : Row Piece) → feeds ps ≡ to_signal ss
    → (feeds (with_signal ps s ▹ comma) ≡ to_signal (ss ▹ s)) × (feeds (with_signal ps s ▹ shuts) ≡ whole (signals ss s))
signal-fed ss (bare n) ps e = (rw (named-fed ss n ps e), rw (named-fed ss n ps e))
signal-fed ss (braced n is i) ps e =
    let qs = ps ▹ amet/ ▹ name n ▹ opens in
    let f : feeds qs ≡ to_item ss n none = rw (named-fed ss n ps e) in
    let g = item_fed ss n is i (commas with_item qs is) (items_fed ss n is qs f) in
    (rw g, rw g)

signals-fed : (ss : Row Signal) → feeds (commas with_signal head ss) ≡ to_signal ss
signals-fed none = refl
signals-fed (ss ▹ s) = (signal-fed ss s (commas with_signal head ss) (signals-fed ss)).0

pub text-fed : (t : Text) → feeds (pieces_of t) ≡ whole t
text-fed empty = refl
text-fed (signals ss s) = (signal-fed ss s (commas with_signal head ss) (signals-fed ss)).1

-- BYTE BY BYTE: the bytes of spaced pieces feed these pieces

pub fails : Read → Bool
fails nothing = false
fails begun = false
fails (to_signal ss) = false
fails (to_name ss) = false
fails (named ss n) = false
fails (to_item ss n is) = false
fails (item_named ss n is m) = false
fails (to_value ss n is m) = false
fails (item_read ss n is i) = false
fails (to_number ss n is m ds) = false
fails (number_read ss n is m ds d) = false
fails (signal_read ss s) = false
fails (whole t) = false
fails wrong = true

-- where one piece more may come, a blank may, and nothing is wrong yet
fed_live : (r : Read) (p : Piece) → fails (feed r p) ≡ false → (fails r ≡ false) × (spaced r ≡ r)
unfolding fails
fed_live nothing p e = (refl, refl)
fed_live begun p e = (refl, refl)
fed_live (to_signal ss) p e = (refl, refl)
fed_live (to_name ss) p e = (refl, refl)
fed_live (named ss n) p e = (refl, refl)
fed_live (to_item ss n is) p e = (refl, refl)
fed_live (item_named ss n is m) p e = (refl, refl)
fed_live (to_value ss n is m) p e = (refl, refl)
fed_live (item_read ss n is i) p e = (refl, refl)
fed_live (to_number ss n is m ds) p e = (refl, refl)
fed_live (number_read ss n is m ds d) p e = (refl, refl)
fed_live (signal_read ss s) p e = (refl, refl)
fed_live (whole t) p e = absurd (no e)
fed_live wrong p e = absurd (no e)

-- two pieces whose bytes would run together never follow each other: a name and a name or amet/, a number and a number
abbrev runs_on : Piece → Piece → Bool
runs_on (name w) (name v) = true
runs_on (name w) amet/ = true
runs_on (name w) (number v) = false
runs_on (name w) SG = false
runs_on (name w) KA = false
runs_on (name w) opens = false
runs_on (name w) shuts = false
runs_on (name w) from = false
runs_on (name w) to = false
runs_on (name w) comma = false
runs_on (name w) equals = false
runs_on (number w) (number v) = true
runs_on (number w) (name v) = false
runs_on (number w) amet/ = false
runs_on (number w) SG = false
runs_on (number w) KA = false
runs_on (number w) opens = false
runs_on (number w) shuts = false
runs_on (number w) from = false
runs_on (number w) to = false
runs_on (number w) comma = false
runs_on (number w) equals = false
runs_on SG q = false
runs_on amet/ q = false
runs_on KA q = false
runs_on opens q = false
runs_on shuts q = false
runs_on from q = false
runs_on to q = false
runs_on comma q = false
runs_on equals q = false

after-name : (r : Read) (w v : List ℕ) → (feed (feed r (name w)) (name v) ≡ wrong) × (feed (feed r (name w)) amet/ ≡ wrong)
after-name nothing w v = (refl, refl)
after-name begun w v = (refl, refl)
after-name (to_signal none) w v = (refl, refl)
after-name (to_signal (ss ▹ s)) w v = (refl, refl)
after-name (to_name ss) w v = (refl, refl)
after-name (named ss n) w v = (refl, refl)
after-name (to_item ss n is) w v = (refl, refl)
after-name (item_named ss n is m) w v = (refl, refl)
after-name (to_value ss n is m) w v = (refl, refl)
after-name (item_read ss n is i) w v = (refl, refl)
after-name (to_number ss n is m ds) w v = (refl, refl)
after-name (number_read ss n is m ds d) w v = (refl, refl)
after-name (signal_read ss s) w v = (refl, refl)
after-name (whole t) w v = (refl, refl)
after-name wrong w v = (refl, refl)

after-number : (r : Read) (w v : List ℕ) → feed (feed r (number w)) (number v) ≡ wrong
after-number nothing w v = refl
after-number begun w v = refl
after-number (to_signal none) w v = refl
after-number (to_signal (ss ▹ s)) w v = refl
after-number (to_name ss) w v = refl
after-number (named ss n) w v = refl
after-number (to_item ss n is) w v = refl
after-number (item_named ss n is m) w v = refl
after-number (to_value ss n is m) w v = refl
after-number (item_read ss n is i) w v = refl
after-number (to_number ss n is m ds) w v = refl
after-number (number_read ss n is m ds d) w v = refl
after-number (signal_read ss s) w v = refl
after-number (whole t) w v = refl
after-number wrong w v = refl

apart : (r : Read) (q p : Piece) → fails (feed (feed r q) p) ≡ false → runs_on q p ≡ false
unfolding fails
apart r (name w) (name v) e = absurd (no (rw (after-name r w v).0 at e))
apart r (name w) amet/ e = absurd (no (rw (after-name r w w).1 at e))
apart r (name w) (number v) e = refl
apart r (name w) SG e = refl
apart r (name w) KA e = refl
apart r (name w) opens e = refl
apart r (name w) shuts e = refl
apart r (name w) from e = refl
apart r (name w) to e = refl
apart r (name w) comma e = refl
apart r (name w) equals e = refl
apart r (number w) (number v) e = absurd (no (rw (after-number r w v) at e))
apart r (number w) (name v) e = refl
apart r (number w) amet/ e = refl
apart r (number w) SG e = refl
apart r (number w) KA e = refl
apart r (number w) opens e = refl
apart r (number w) shuts e = refl
apart r (number w) from e = refl
apart r (number w) to e = refl
apart r (number w) comma e = refl
apart r (number w) equals e = refl
apart r SG p e = refl
apart r amet/ p e = refl
apart r KA p e = refl
apart r opens p e = refl
apart r shuts p e = refl
apart r from p e = refl
apart r to p e = refl
apart r comma p e = refl
apart r equals p e = refl

pub small_byte : {b : ℕ} → Small b → class_of b ≡ small-class
small_byte h = rw h.test

pub digit_byte : {b : ℕ} → Digit b → class_of b ≡ digit-class
digit_byte {b} h = rw (lt-leb 97 b (grind (arith, h.test)), h.test)

pub scans_append : (s : Scan) (a b : List ℕ) → scans s (a ++ b) ≡ scans (scans s a) b
scans_append s [] b = refl
scans_append s (x ∷ a) b = scans_append (scan s x) a b

-- a piece is read, and not closed yet
abbrev after : {p : Piece} {w : List ℕ} → Spelled p w → Read → Scan
after a-SG r = gap (feed r SG)
after an-amet/ r = gap (feed r amet/)
after a-KA r = gap (feed r KA)
after a_brace r = gap (feed r opens)
after a-closing_brace r = gap (feed r shuts)
after a_bracket r = gap (feed r from)
after a-closing_bracket r = gap (feed r to)
after a_comma r = gap (feed r comma)
after an_equals r = gap (feed r equals)
after (a-name {w} h) r = in_name w r
after (a-number {n} {w} h k) r = in_number n w r

closed_after : {p : Piece} {w : List ℕ} (h : Spelled p w) (r : Read) → closed (after h r) ≡ feed r p
closed_after a-SG r = refl
closed_after an-amet/ r = refl
closed_after a-KA r = refl
closed_after a_brace r = refl
closed_after a-closing_brace r = refl
closed_after a_bracket r = refl
closed_after a-closing_bracket r = refl
closed_after a_comma r = refl
closed_after an_equals r = refl
closed_after (a-name h) r = refl
closed_after (a-number h k) r = refl

blank-after : {p : Piece} {w : List ℕ} (h : Spelled p w) (r : Read) → on_blank (after h r) ≡ gap (spaced (feed r p))
blank-after a-SG r = refl
blank-after an-amet/ r = refl
blank-after a-KA r = refl
blank-after a_brace r = refl
blank-after a-closing_brace r = refl
blank-after a_bracket r = refl
blank-after a-closing_bracket r = refl
blank-after a_comma r = refl
blank-after an_equals r = refl
blank-after (a-name h) r = refl
blank-after (a-number h k) r = refl

-- whether a piece's bytes would run on with what is being read
abbrev joins : Scan → Piece → Bool
joins fresh p = false
joins (gap r) p = false
joins (in_sg r) p = false
joins (in_ka r) p = false
joins (in_name w r) p = runs_on (name w) p
joins (in_number n w r) p = runs_on (number w) p

joins_after : {q : Piece} {w : List ℕ} (h : Spelled q w) (r : Read) (p : Piece) → runs_on q p ≡ false → joins (after h r) p ≡ false
joins_after a-SG r p e = refl
joins_after an-amet/ r p e = refl
joins_after a-KA r p e = refl
joins_after a_brace r p e = refl
joins_after a-closing_brace r p e = refl
joins_after a_bracket r p e = refl
joins_after a-closing_bracket r p e = refl
joins_after a_comma r p e = refl
joins_after an_equals r p e = refl
joins_after (a-name h) r p e = e
joins_after (a-number h k) r p e = e

begin-name : (s : Scan) (v : List ℕ) (b : ℕ) → joins s (name v) ≡ false → class_of b ≡ small-class → scan s b ≡ in_name (b ∷ []) (closed s)
begin-name fresh v b e c = rw c
begin-name (gap r) v b e c = rw c
begin-name (in_sg r) v b e c = rw c
begin-name (in_ka r) v b e c = rw c
begin-name (in_name w r) v b e c = absurd (no e)
begin-name (in_number n w r) v b e c = rw c

begin-number : (s : Scan) (v : List ℕ) (b : ℕ) → joins s (number v) ≡ false → class_of b ≡ digit-class → scan s b ≡ in_number 1 (b ∷ []) (closed s)
begin-number fresh v b e c = rw c
begin-number (gap r) v b e c = rw c
begin-number (in_sg r) v b e c = rw c
begin-number (in_ka r) v b e c = rw c
begin-number (in_name w r) v b e c = rw c
begin-number (in_number n w r) v b e c = absurd (no e)

name_scanned : (s : Scan) (v : List ℕ) → joins s (name v) ≡ false → {w : List ℕ} → Name w → scans s w ≡ in_name w (closed s)
name_scanned s v e (letter {b} h) = begin-name s v b e (small_byte h)
name_scanned s v e (letters {w} {b} h k) = scans_append s w (b ∷ []) ∙ (rw (name_scanned s v e h, small_byte k))

number_scanned : (s : Scan) (v : List ℕ) → joins s (number v) ≡ false → {n : ℕ} {w : List ℕ} → Digits n w → n ≤ 10 → scans s w ≡ in_number n w (closed s)
number_scanned s v e (digit {b} h) k = begin-number s v b e (digit_byte h)
number_scanned s v e (digits {n} {w} {b} h d) k =
    scans_append s w (b ∷ []) ∙ (rw (number_scanned s v e h (omega arith), digit_byte d, lt-ltb n 10 (omega arith)))

amet_scanned : (s : Scan) → joins s amet/ ≡ false → scans s (bytes "amet/") ≡ gap (feed (closed s) amet/)
amet_scanned fresh e = refl
amet_scanned (gap r) e = refl
amet_scanned (in_sg r) e = refl
amet_scanned (in_ka r) e = refl
amet_scanned (in_name w r) e = absurd (no e)
amet_scanned (in_number n w r) e = refl

piece_scanned : (s : Scan) {p : Piece} {w : List ℕ} (h : Spelled p w) → joins s p ≡ false → scans s w ≡ after h (closed s)
piece_scanned s a-SG e = refl
piece_scanned s an-amet/ e = amet_scanned s e
piece_scanned s a-KA e = refl
piece_scanned s a_brace e = refl
piece_scanned s a-closing_brace e = refl
piece_scanned s a_bracket e = refl
piece_scanned s a-closing_bracket e = refl
piece_scanned s a_comma e = refl
piece_scanned s an_equals e = refl
piece_scanned s (a-name {w} h) e = name_scanned s w e h
piece_scanned s (a-number {n} {w} h k) e = number_scanned s w e h k

blanks_scanned : (r : Read) → spaced r ≡ r → {g : List ℕ} → Blanks g → scans (gap r) g ≡ gap r
blanks_scanned r e no-blank = refl
blanks_scanned r e (blank h) = rw (e, blanks_scanned r e h)

-- where some bytes lead: their last piece is read, and not closed yet
data Led (ps : Row Piece) (p : Piece) (l : List ℕ) : Type 0 where
  led : {w : List ℕ} (h : Spelled p w) → scans fresh l ≡ after h (feeds ps) → Led ps p l

more-led : {ps : Row Piece} {q p : Piece} {l g w : List ℕ} → Led ps q l → Blanks g → (h : Spelled p w)
    → fails (feed (feed (feeds ps) q) p) ≡ false → scans fresh (l ++ (g ++ w)) ≡ after h (feed (feeds ps) q)
more-led {ps} {q} {p} {l} {w = w} (led k e) no-blank h f =
    scans_append fresh l w ∙ (rw (e, piece_scanned (after k (feeds ps)) h (joins_after k (feeds ps) p (apart (feeds ps) q p f)), closed_after k (feeds ps)))
more-led {ps} {q} {p} {l} {w = w} (led k e) (blank {g} b) h f =
    let r = feed (feeds ps) q in
    let live : spaced r ≡ r = (fed_live r p f).1 in
    scans_append fresh l (32 ∷ (g ++ w))
    ∙ ap (λ (s : Scan). scans s (32 ∷ (g ++ w))) e
    ∙ ap (λ (s : Scan). scans s (g ++ w)) (blank-after k (feeds ps) ∙ ap gap live)
    ∙ scans_append (gap r) g w
    ∙ ap (λ (s : Scan). scans s w) (blanks_scanned r live b)
    ∙ piece_scanned (gap r) h refl

all-led : {ps : Row Piece} {p : Piece} {l : List ℕ} → Spaced (ps ▹ p) l → fails (feeds (ps ▹ p)) ≡ false → Led ps p l
all-led (first h) f = led h (piece_scanned fresh h refl)
all-led (next {ps} {q} {p} s b h) f =
    led h (more-led (all-led s (fed_live (feed (feeds ps) q) p f).0) b h f)

-- THE THEOREMS

shut : {ps : Row Piece} {l : List ℕ} → Led ps shuts l → scans fresh l ≡ gap (feeds (ps ▹ shuts))
shut (led a-closing_brace e) = e

pub complete : (t : Text) {l : List ℕ} → Says l t → scans fresh l ≡ gap (whole t)
unfolding fails
complete empty h = shut (all-led h refl)
complete (signals ss s) h =
    let e = text-fed (signals ss s) in
    shut (all-led h (rw e)) ∙ ap gap e

-- a text has one reading
pub unique : {t u : Text} {l : List ℕ} → Says l t → Says l u → t ≡ u
unique {t} {u} h k = let e = complete t h in let f = complete u k in cc
