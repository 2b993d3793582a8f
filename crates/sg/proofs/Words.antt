-- Each name and number of a text is well spelled, so that what the notes tell goes by its names and decimal values.
use Prim.Native.Nat.{ℕ, ◌≤◌}
use mathlib.Core.List.{List}
use mathlib.Core.Path.{◌≡◌, refl}
use Rattle.grammar.specs.Grammar.{Row, none, ◌▹◌, Piece, SG, amet/, KA, opens, shuts, from, to, comma, equals, name, number, single, list, Item, keep, valued, Signal, bare, braced, Text, empty, signals, commas, with_number, with_item, with_signal, head, Says, Name, Digits, Spelled, a-SG, an-amet/, a-KA, a_brace, a-closing_brace, a_bracket, a-closing_bracket, a_comma, an_equals, a-name, a-number, Spaced, first, next}
use Rattle.grammar.specs.Meaning.{decimal_of, signal_slot, item_slot, Given, given, alone, values_by, item_by, items_by, signal_by, signals_by, given_by}
use Rattle.scanner.specs.Codes.{number_of}
use Rattle.sg.proofs.Codes.{signal-named, item_named_lem, number-value}
use Rattle.sg.proofs.Stored.{item_coded, signal_coded, numbers}
use Rattle.sg.proofs.Told.{text_on}

-- each name and number among the pieces of a text is well spelled
abbrev Well : Piece → Type 0
Well (name w) = Name w
Well (number w) = (n : ℕ) × Digits n w × (n ≤ 10)
Well SG = Unit {0}
Well amet/ = Unit {0}
Well KA = Unit {0}
Well opens = Unit {0}
Well shuts = Unit {0}
Well from = Unit {0}
Well to = Unit {0}
Well comma = Unit {0}
Well equals = Unit {0}

abbrev All-well : Row Piece → Type 0
All-well none = Unit {0}
All-well (ps ▹ p) = All-well ps × Well p

well : {p : Piece} {w : List ℕ} → Spelled p w → Well p
well a-SG = tt
well an-amet/ = tt
well a-KA = tt
well a_brace = tt
well a-closing_brace = tt
well a_bracket = tt
well a-closing_bracket = tt
well a_comma = tt
well an_equals = tt
well (a-name h) = h
well (a-number {n} h k) = (n, h, k)

all-well : {ps : Row Piece} {l : List ℕ} → Spaced ps l → All-well ps
all-well (first h) = (tt, well h)
all-well (next s b h) = (all-well s, well h)

-- WHAT A TEXT GIVES goes by its names and by the decimal values of its numbers

numbers-well : (ps : Row Piece) (ds : Row (List ℕ)) → All-well (commas with_number ps ds)
    → All-well ps × (numbers ds ≡ values_by item_slot signal_slot decimal_of ds)
numbers-well ps none h = (h, refl)
numbers-well ps (ds ▹ d) h =
    let k = numbers-well ps ds h.0.0 in
    (k.0, rw (k.1, number-value h.0.1.1 h.0.1.2))

item_well : (ps : Row Piece) (i : Item) (s : ℕ) → All-well (with_item ps i)
    → All-well ps × (item_by item_coded signal_coded number_of s i ≡ item_by item_slot signal_slot decimal_of s i)
item_well ps keep s h = (h.0, refl)
item_well ps (valued m (single d)) s h =
    (h.0.0.0, rw (item_named_lem s h.0.0.1, number-value h.1.1 h.1.2))
item_well ps (valued m (list ds d)) s h =
    let k = numbers-well (ps ▹ name m ▹ equals ▹ from) ds h.0.0 in
    (k.0.0.0.0, rw (item_named_lem s k.0.0.0.1, k.1, number-value h.0.1.1 h.0.1.2))

items_well : (ps : Row Piece) (is : Row Item) (s : ℕ) (gs : Row Given) → All-well (commas with_item ps is)
    → All-well ps × (items_by item_coded signal_coded number_of s gs is ≡ items_by item_slot signal_slot decimal_of s gs is)
items_well ps none s gs h = (h, refl)
items_well ps (is ▹ i) s gs h =
    let k = item_well (commas with_item ps is) i s h.0 in
    let j = items_well ps is s gs k.0 in
    (j.0, rw (j.1, k.1))

signal-well : (ps : Row Piece) (s : Signal) (gs : Row Given) → All-well (with_signal ps s)
    → All-well ps × (signal_by item_coded signal_coded number_of gs s ≡ signal_by item_slot signal_slot decimal_of gs s)
signal-well ps (bare n) gs h = (h.0.0, rw (signal-named h.1))
signal-well ps (braced n is i) gs h =
    let qs = ps ▹ amet/ ▹ name n ▹ opens in
    let k = item_well (commas with_item qs is) i (signal_slot n) h.0 in
    let j = items_well qs is (signal_slot n) (gs ▹ given (signal_slot n) alone none 1) k.0 in
    (j.0.0.0.0, rw (signal-named j.0.0.1, j.1, k.1))

signals-well : (ss : Row Signal) → All-well (commas with_signal head ss)
    → signals_by item_coded signal_coded number_of ss ≡ signals_by item_slot signal_slot decimal_of ss
signals-well none h = refl
signals-well (ss ▹ s) h =
    let k = signal-well (commas with_signal head ss) s (signals_by item_slot signal_slot decimal_of ss) h.0 in
    rw (signals-well ss k.0) k.1

pub given-named : (t : Text) {l : List ℕ} → Says l t → text_on t ≡ given_by t
given-named empty h = refl
given-named (signals ss s) h =
    let k = signal-well (commas with_signal head ss) s (signals_by item_slot signal_slot decimal_of ss) (all-well h).0 in
    rw (signals-well ss k.0) k.1
