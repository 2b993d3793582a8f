-- The code of a name tells it from any other, and a number of ten digits has its decimal value.
use Prim.Native.Nat.{ℕ, ◌+◌, ◌*◌, ◌-◌, ◌%◌, ◌^◌, ◌≤◌, ◌<◌, min}
use native.Mathlib.Nat.{pow-succ', pow-le-pow_right}
use native.Mathlib.Omega.{arith}
use mathlib.Core.Bool.{Bool, true, false, cond, ◌&&◌, true≢false as no}
use mathlib.Core.List.{List, [], ◌∷◌, ◌++◌, append-nil, append_assoc}
use mathlib.Core.Path.{◌≡◌, refl, sym, ap, ◌∙◌}
use borrow.Author.Tests.{ltb-true, eqb-true, eq-eqb}
use lib.Dec.{ltb, eqb}
use Rattle.std.proofs.lemmas.Bool.{and_parts}
use Rattle.std.proofs.lemmas.Bool.Decides.{same_from_decides}
use Rattle.std.proofs.lemmas.Slice.Eq.{bytes_eq-Decides}
use Rattle.grammar.specs.Grammar.{bytes, same, is_small, Small, Name, letter, letters, Digits, digit, digits}
use Rattle.grammar.specs.Meaning.{Known, ◌↣◌, slot_in as named_slot, known_signals, em_items, mpb_items, phsm_items, items_of, decimal_after, decimal_of, signal_slot as signal_named, item_slot as item_named}
use Rattle.scanner.specs.Codes.{code_after, code_of, number_after, number_of, next_letter, next_digit}
use Rattle.notes.specs.Noting.{slot_in, signal_slot, item_slot}

plain_after : ℕ → List ℕ → ℕ
plain_after c [] = c
plain_after c (b ∷ w) = plain_after (32 * c + b % 32) w

plain : List ℕ → ℕ
plain w = plain_after 0 w

plain_more : (c : ℕ) (w : List ℕ) (b : ℕ) → plain_after c (w ++ (b ∷ [])) ≡ 32 * plain_after c w + b % 32
unfolding plain_after
plain_more c [] b = refl
plain_more c (a ∷ w) b = plain_more (32 * c + a % 32) w b

pub code-more : (c : ℕ) (w : List ℕ) (b : ℕ) → code_after c (w ++ (b ∷ [])) ≡ next_letter (code_after c w) b
code-more c [] b = refl
code-more c (a ∷ w) b = code-more (next_letter c a) w b

pub number_more : (c : ℕ) (w : List ℕ) (b : ℕ) → number_after c (w ++ (b ∷ [])) ≡ next_digit (number_after c w) b
number_more c [] b = refl
number_more c (a ∷ w) b = number_more (next_digit c a) w b

capped : (c p b : ℕ) → c ≡ min p 1_099_511_627_776 → next_letter c b ≡ min (32 * p + b % 32) 1_099_511_627_776
capped c p b e = omega arith

code-plain : {w : List ℕ} → Name w → code_of w ≡ min (plain w) 1_099_511_627_776
unfolding plain plain_after
code-plain (letter {b} h) = capped 0 0 b (omega arith)
code-plain (letters {w} {b} k h) =
    code-more 0 w b ∙ capped (code_of w) (plain w) b (code-plain k) ∙ ap (λ (p : ℕ). min p 1_099_511_627_776) (sym (plain_more 0 w b))

plain-some : {w : List ℕ} → Name w → 0 < plain w
unfolding plain plain_after
plain-some (letter {b} h) = grind (arith, h.test)
plain-some (letters {w} {b} k h) = rw (plain_more 0 w b) (grind (arith, h.test))

plain-tells : {w v : List ℕ} → Name w → Name v → plain w ≡ plain v → w ≡ v
unfolding plain plain_after
plain-tells (letter {b} h) (letter {b = c} k) e =
    let q : b ≡ c = grind (arith, h.test, k.test) in
    ap (λ (x : ℕ). x ∷ []) q
plain-tells (letter {b} h) (letters {w = v} {b = c} l k) e =
    let s = plain-some l in
    let f : 32 * 0 + b % 32 ≡ 32 * plain v + c % 32 = e ∙ plain_more 0 v c in
    absurd (grind (arith, h.test))
plain-tells (letters {w} {b} l h) (letter {b = c} k) e =
    let s = plain-some l in
    let f : 32 * plain w + b % 32 ≡ 32 * 0 + c % 32 = sym (plain_more 0 w b) ∙ e in
    absurd (grind (arith, k.test))
plain-tells (letters {w} {b} l h) (letters {w = v} {b = c} m k) e =
    let f : 32 * plain w + b % 32 ≡ 32 * plain v + c % 32 = sym (plain_more 0 w b) ∙ e ∙ plain_more 0 v c in
    let g : plain w ≡ plain v = omega arith in
    let q : b ≡ c = grind (arith, h.test, k.test) in
    let r = plain-tells l m g in
    cc

-- the codes of two names are equal just where the names are
pub code_same : {w v : List ℕ} → Name w → Name v → code_of v < 1_099_511_627_776 → eqb (code_of w) (code_of v) ≡ same w v
code_same {w} {v} h k short = same_from_decides (eqb (code_of w) (code_of v)) (same w v) (tells, equal) (bytes_eq-Decides w v)
  where
    tells : eqb (code_of w) (code_of v) ≡ true → w ≡ v
    tells e =
        let q = eqb-true (code_of w) (code_of v) e in
        let x = code-plain h in
        let y = code-plain k in
        plain-tells h k (omega arith)

    equal : w ≡ v → eqb (code_of w) (code_of v) ≡ true
    equal e = eq-eqb (code_of w) (code_of v) (ap code_of e)

abbrev all_small : List ℕ → Bool
all_small [] = true
all_small (b ∷ w) = is_small b && all_small w

pub a_small : (b : ℕ) → is_small b ≡ true → Small b
a_small b e = record { test = e }

-- a quoted word of small letters is a name
small_word : (w : List ℕ) {v : List ℕ} → Name v → all_small w ≡ true → Name (v ++ w)
small_word [] h e = rw append-nil h
small_word (b ∷ w) {v} h e =
    let both = and_parts (is_small b) (all_small w) e in
    rw (← append_assoc v (b ∷ []) w) (small_word w (letters h (a_small b both.0)) both.1)

pub word : (b : ℕ) (w : List ℕ) → all_small (b ∷ w) ≡ true → Name (b ∷ w)
word b w e = let both = and_parts (is_small b) (all_small w) e in small_word w (letter (a_small b both.0)) both.1

pub amet : Name (bytes "amet")
amet = word 97 (bytes "met") refl

-- a known word is a name, and short
abbrev is_word : List ℕ → Bool
is_word [] = false
is_word (b ∷ w) = all_small (b ∷ w) && ltb (code_of (b ∷ w)) 1_099_511_627_776

abbrev all_words : List Known → Bool
all_words [] = true
all_words ((s ↣ k) ∷ ks) = is_word (bytes s) && all_words ks

word_same : {w : List ℕ} (v : List ℕ) → Name w → is_word v ≡ true → eqb (code_of w) (code_of v) ≡ same w v
word_same [] h e = absurd (no (sym e))
word_same (b ∷ v) h e =
    let both = and_parts (all_small (b ∷ v)) (ltb (code_of (b ∷ v)) 1_099_511_627_776) e in
    code_same h (word b v both.0) (ltb-true (code_of (b ∷ v)) 1_099_511_627_776 both.1)

-- a slot goes by the name
slot-named : (ks : List Known) {w : List ℕ} → Name w → all_words ks ≡ true → slot_in ks (code_of w) ≡ named_slot ks w
slot-named [] h e = refl
slot-named ((s ↣ k) ∷ ks) {w} h e =
    let both = and_parts (is_word (bytes s)) (all_words ks) e in
    rw (word_same (bytes s) h both.0, slot-named ks h both.1)

-- what holds of each list of items holds of those of any signal
pub items_all : (test : List Known → Bool) → test em_items ≡ true → test mpb_items ≡ true → test phsm_items ≡ true → test [] ≡ true
    → (s : ℕ) → test (items_of s) ≡ true
items_all test em mpb phsm none s = at (eqb s 0) (eqb s 4) (eqb s 8)
  where
    at : (a b c : Bool) → test (cond a em_items (cond b mpb_items (cond c phsm_items []))) ≡ true
    at true b c = em
    at false true c = mpb
    at false false true = phsm
    at false false false = none

pub signal-named : {n : List ℕ} → Name n → signal_slot (code_of n) ≡ signal_named n
signal-named h = slot-named known_signals h refl

pub item_named_lem : (s : ℕ) {m : List ℕ} → Name m → item_slot s (code_of m) ≡ item_named s m
item_named_lem s h = slot-named (items_of s) h (items_all all_words refl refl refl refl s)

-- NUMBERS

decimal-more : (c : ℕ) (w : List ℕ) (b : ℕ) → decimal_after c (w ++ (b ∷ [])) ≡ 10 * decimal_after c w + (b - 48)
decimal-more c [] b = refl
decimal-more c (a ∷ w) b = decimal-more (10 * c + (a - 48)) w b

decimal-below : {n : ℕ} {w : List ℕ} → Digits n w → decimal_of w < 10 ^ n
decimal-below (digit {b} h) = grind (arith, h.test)
decimal-below (digits {n} {w} {b} k h) =
    let l = decimal-below k in
    rw (decimal-more 0 w b, pow-succ' 10 n) (grind (arith, h.test))

-- fewer than ten digits leave room for one more
pub number-value : {n : ℕ} {w : List ℕ} → Digits n w → n ≤ 10 → number_of w ≡ decimal_of w
number-value (digit {b} h) few = grind (arith, h.test)
number-value (digits {n} {w} {b} k h) few =
    let l = decimal-below k in
    let m : 10 ^ n ≤ 10 ^ 9 = pow-le-pow_right {n = 10} (omega arith) {i = n} {j = 9} (omega arith) in
    let e = number-value k (omega arith) in
    rw (number_more 0 w b, decimal-more 0 w b, e) (grind (arith, h.test))
