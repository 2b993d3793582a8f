-- The notes of a text tell what it gives: its faults, which names are there, and their values.
use Prim.Native.Nat.{ℕ, ◌≤◌, ◌<◌}
use native.Mathlib.Omega.{arith}
use mathlib.Core.Bool.{Bool, true, false, cond, ◌||◌, ◌&&◌, true≢false as no, or-false, or_assoc}
use mathlib.Core.List.{List, [], ◌∷◌}
use mathlib.Core.Path.{◌≡◌, refl, sym, ap, subst, ◌∙◌}
use borrow.Author.Tests.{eqb-true, eqb-false, leb-true, lt-ltb}
use lib.Dec.{leb, eqb}
use lib.ListN.{length, get_or-replicate}
use Rattle.std.proofs.lemmas.Bool.{and_parts, or_parts}
use Rattle.grammar.specs.Grammar.{Row, none, ◌▹◌, single, list, Item, keep, valued, Signal, bare, braced, Text, empty, signals, bytes}
use Rattle.grammar.specs.Meaning.{Known, ◌↣◌, known_signals, items_of, keep_slot, Form, alone, with_number, with_list, Given, given, item_by, items_by, signal_by, signals_by, text_by, has, listed, values_of, form_is_wrong, any_too_large, any_faulty}
use Rattle.notes.specs.Noting.{no_values, values_at, slot_in, item_slot, signal_slot, no_notes, has_in, touch_of, stored_of, value_of, marked_of, signal_of, item_of, list_of}
use Rattle.notes.specs.declared.Notes.{Notes}
use Rattle.scanner.specs.Codes.{code_of, number_of}
use Rattle.sg.specs.Readings.{item_notes, items_notes, signal_notes, signals_notes, text_notes}
use Rattle.sg.proofs.Codes.{items_all}
use Rattle.sg.proofs.Stored.{item_coded, signal_coded, numbers, values_notes, Noted, values-noted, numbers-noted, Holds, values_other, values-own}

abbrev item_on : ℕ → Item → Given
item_on s i = item_by item_coded signal_coded number_of s i

abbrev items_on : ℕ → Row Given → Row Item → Row Given
items_on s gs is = items_by item_coded signal_coded number_of s gs is

abbrev signal_on : Row Given → Signal → Row Given
signal_on gs s = signal_by item_coded signal_coded number_of gs s

abbrev signals_on : Row Signal → Row Given
signals_on ss = signals_by item_coded signal_coded number_of ss

abbrev pub text_on : Text → Row Given
text_on t = text_by item_coded signal_coded number_of t

-- what is not there has no values
not_there : (es : Row Given) (s : ℕ) → has es s ≡ false → values_of es s ≡ []
not_there none s e = refl
not_there (es ▹ given k f vs v) s e = at (eqb s k) e (not_there es s)
  where
    at : (t : Bool) → t || has es s ≡ false → (has es s ≡ false → values_of es s ≡ []) → cond t (listed (vs ▹ v)) (values_of es s) ≡ []
    at true q g = absurd (no q)
    at false q g = g q

-- NAME BY NAME

abbrev add_given : Notes → Given → Notes
add_given n (given s f vs v) = value_of (values_notes (marked_of (touch_of n s) (form_is_wrong s f)) vs) v

-- what the notes tell of what was given so far
pub record Tells (es : Row Given) (n : Notes) : Type 0 where
  pub told-bad : n.bad ≡ any_faulty es
  pub told-size : length n.values ≡ 18
  pub told-has : any_faulty es ≡ false → (s : ℕ) → s < 17 → has_in n.values s ≡ has es s
  pub told-values : any_faulty es ≡ false → (s : ℕ) → s < 17 → Holds n s (values_of es s)

module _ {es : Row Given} {n : Notes} (h : Tells es n) (s : ℕ) (f : Form) (vs : Row ℕ) (v : ℕ) (low : s ≤ 17) where
  noted : Noted (marked_of (touch_of n s) (form_is_wrong s f)) (add_given n (given s f vs v)) (any_too_large (vs ▹ v))
  noted = values-noted (marked_of (touch_of n s) (form_is_wrong s f)) vs v h.told-size (omega arith)

  more-bad : (w : Bool) → any_faulty es ≡ w
      → ((w || (eqb s 17 || has_in n.values s)) || form_is_wrong s f) || any_too_large (vs ▹ v)
      ≡ w || (eqb s 17 || (has es s || (form_is_wrong s f || any_too_large (vs ▹ v))))
  more-bad true e = refl
  more-bad false e = at (eqb s 17) refl
    where
      at : (u : Bool) → eqb s 17 ≡ u
          → ((u || has_in n.values s) || form_is_wrong s f) || any_too_large (vs ▹ v) ≡ u || (has es s || (form_is_wrong s f || any_too_large (vs ▹ v)))
      at true q = refl
      at false q =
          let ne = eqb-false s 17 q in
          rw (h.told-has e s (omega arith)) (or_assoc (has es s) (form_is_wrong s f) (any_too_large (vs ▹ v)))

  fault : Bool
  fault = eqb s 17 || (has es s || (form_is_wrong s f || any_too_large (vs ▹ v)))

  module _ (e : any_faulty (es ▹ given s f vs v) ≡ false) where
    before : any_faulty es ≡ false
    unfolding fault
    before = (or_parts (any_faulty es) fault e).0

    known : has es s || (form_is_wrong s f || any_too_large (vs ▹ v)) ≡ false
    unfolding fault
    known = (or_parts (eqb s 17) (has es s || (form_is_wrong s f || any_too_large (vs ▹ v))) (or_parts (any_faulty es) fault e).1).1

    fits : any_too_large (vs ▹ v) ≡ false
    fits = (or_parts (form_is_wrong s f) (any_too_large (vs ▹ v)) (or_parts (has es s) (form_is_wrong s f || any_too_large (vs ▹ v)) known).1).1

    alone-there : values_of es s ≡ []
    alone-there = not_there es s (or_parts (has es s) (form_is_wrong s f || any_too_large (vs ▹ v)) known).0

    more-has : (r : ℕ) → r < 17 → has_in (add_given n (given s f vs v)).values r ≡ eqb r s || has es r
    more-has r less = at (eqb r s) refl
      where
        at : (t : Bool) → eqb r s ≡ t → has_in (add_given n (given s f vs v)).values r ≡ t || has es r
        at true q = rw (eqb-true r s q) (noted.here fits)
        at false q = noted.others r (eqb-false r s q) ∙ h.told-has before r less

    held : (k : ℕ) → k < 17 → Holds (marked_of (touch_of n s) (form_is_wrong s f)) k (values_of es k)
    held k few =
        let q = h.told-values before k few in
        record { rows = q.rows; keeps = q.keeps }

    more-values : (r : ℕ) → r < 17 → Holds (add_given n (given s f vs v)) r (cond (eqb r s) (listed (vs ▹ v)) (values_of es r))
    more-values r less = at (eqb r s) refl
      where
        at : (t : Bool) → eqb r s ≡ t → Holds (add_given n (given s f vs v)) r (cond t (listed (vs ▹ v)) (values_of es r))
        at true q =
            let i = eqb-true r s q in
            let g : Holds (marked_of (touch_of n s) (form_is_wrong s f)) s [] = rw alone-there at (subst (λ (k : ℕ). Holds (marked_of (touch_of n s) (form_is_wrong s f)) k (values_of es k)) i (held r less)) in
            subst (λ (k : ℕ). Holds (add_given n (given s f vs v)) k (listed (vs ▹ v))) (sym i)
            (values-own (marked_of (touch_of n s) (form_is_wrong s f)) (vs ▹ v) s [] refl (omega arith) fits g)
        at false q =
            values_other (marked_of (touch_of n s) (form_is_wrong s f)) (vs ▹ v) r (values_of es r) (held r less) (omega arith) (eqb-false r s q)

  given-told : Tells (es ▹ given s f vs v) (add_given n (given s f vs v))
  given-told =
      record {
        told-bad =
            noted.bad-is
            ∙ ap (λ (w : Bool). ((w || (eqb s 17 || has_in n.values s)) || form_is_wrong s f) || any_too_large (vs ▹ v)) h.told-bad
            ∙ more-bad (any_faulty es) refl;
        told-size = noted.size;
        told-has = more-has;
        told-values = more-values;
      }

marked-false : (n : Notes) → marked_of n false ≡ n
marked-false n =
    ap (λ (t : Bool). record { bad = t; signal = n.signal; slot = n.slot; values = n.values }) (or-false n.bad)

item_noted : (n : Notes) (i : Item) → item_notes n i ≡ add_given n (item_on n.signal i)
item_noted n keep = ap (λ (m : Notes). stored_of m 1) (sym (marked-false (touch_of n (keep_slot n.signal))))
item_noted n (valued m (single d)) = refl
item_noted n (valued m (list ds d)) =
    ap (λ (k : Notes). value_of k (number_of d)) (numbers-noted (list_of (item_of n (code_of m))) ds)

-- every slot is one of the eighteen
keep_low : (s : ℕ) → keep_slot s ≤ 17
keep_low s = omega arith

low_slots : List Known → Bool
low_slots [] = true
low_slots ((w ↣ k) ∷ ks) = leb k 17 && low_slots ks

slot-low : (ks : List Known) (c : ℕ) → low_slots ks ≡ true → slot_in ks c ≤ 17
unfolding low_slots
slot-low [] c e = omega arith
slot-low ((w ↣ k) ∷ ks) c e =
    let both = and_parts (leb k 17) (low_slots ks) e in
    at (eqb c (code_of (bytes w))) (leb-true k 17 both.0) (slot-low ks c both.1)
  where
    at : (t : Bool) {a b : ℕ} → a ≤ 17 → b ≤ 17 → cond t a b ≤ 17
    at true p q = p
    at false p q = q

item_low : (s c : ℕ) → item_slot s c ≤ 17
unfolding low_slots
item_low s c = slot-low (items_of s) c (items_all low_slots refl refl refl refl s)

signal-low : (c : ℕ) → signal_slot c ≤ 17
unfolding low_slots
signal-low c = slot-low known_signals c refl

-- an item; the signal stays
record Item-told (s : ℕ) (es : Row Given) (n : Notes) : Type 0 where
  same-signal : n.signal ≡ s
  tells : Tells es n

item_told : {s : ℕ} {es : Row Given} {n : Notes} (i : Item) → Item-told s es n → Item-told s (es ▹ item_on s i) (item_notes n i)
item_told {s} {es} {n} i h =
    rw (item_noted n i ∙ ap (λ (k : ℕ). add_given n (item_on k i)) h.same-signal) (at i)
  where
    told : (k : ℕ) (f : Form) (vs : Row ℕ) (v : ℕ) → k ≤ 17 → Item-told s (es ▹ given k f vs v) (add_given n (given k f vs v))
    told k f vs v low =
        record {
          same-signal = (noted h.tells k f vs v low).signal-is ∙ h.same-signal;
          tells = given-told h.tells k f vs v low;
        }

    at : (i : Item) → Item-told s (es ▹ item_on s i) (add_given n (item_on s i))
    at keep = told (keep_slot s) alone none 1 (keep_low s)
    at (valued m (single d)) = told (item_slot s (code_of m)) with_number none (number_of d) (item_low s (code_of m))
    at (valued m (list ds d)) = told (item_slot s (code_of m)) with_list (numbers ds) (number_of d) (item_low s (code_of m))

items_told : {s : ℕ} {es : Row Given} {n : Notes} (is : Row Item) → Item-told s es n → Item-told s (items_on s es is) (items_notes n is)
items_told none h = h
items_told (is ▹ i) h = item_told i (items_told is h)

-- a signal's name
name-told : {es : Row Given} {n : Notes} (c : ℕ) → Tells es n
    → Item-told (signal_slot c) (es ▹ given (signal_slot c) alone none 1) (signal_of n c)
name-told {es} {n} c h =
    let s = signal_slot c in
    let t = given-told h s alone none 1 (signal-low c) in
    let e : add_given n (given s alone none 1) ≡ stored_of (touch_of n s) 1 = ap (λ (m : Notes). stored_of m 1) (marked-false (touch_of n s)) in
    let u : Tells (es ▹ given s alone none 1) (stored_of (touch_of n s) 1) = rw e at t in
    record {
      same-signal = refl;
      tells =
          record {
            told-bad = u.told-bad;
            told-size = u.told-size;
            told-has = u.told-has;
            told-values = λ q r less.
                let k = u.told-values q r less in
                record { rows = k.rows; keeps = k.keeps };
          };
    }

signal-told : {es : Row Given} {n : Notes} (s : Signal) → Tells es n → Tells (signal_on es s) (signal_notes n s)
signal-told (bare m) h = (name-told (code_of m) h).tells
signal-told (braced m is i) h = (item_told i (items_told is (name-told (code_of m) h))).tells

no_values_at : (s : ℕ) → s < 17 → values_at no_notes.values s ≡ no_values
no_values_at s less = get_or-replicate 18 s no_values no_values (omega arith)

nothing-kept : (s : ℕ) → s < 17 → values_at no_notes.values s ≡ []
nothing-kept s less = no_values_at s less

nothing-given : (s : ℕ) → s < 17 → has_in no_notes.values s ≡ false
unfolding has_in
nothing-given s less = rw (lt-ltb s 18 (omega arith), no_values_at s less)

signals-told : (ss : Row Signal) → Tells (signals_on ss) (signals_notes ss)
signals-told none =
    record {
      told-bad = refl;
      told-size = refl;
      told-has = λ e s less. nothing-given s less;
      told-values = λ e s less. record { rows = refl; keeps = nothing-kept s less };
    }
signals-told (ss ▹ s) = signal-told s (signals-told ss)

pub text-told : (t : Text) → Tells (text_on t) (text_notes t)
unfolding text_notes
text-told empty = signals-told none
text-told (signals ss s) = signal-told s (signals-told ss)
