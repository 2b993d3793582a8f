-- A list of entries as a word: what a shift, a mask and a count of ones make of it.
use mathlib.Core.Path.{◌≡◌, refl, sym, ap, ap₂, ◌∙◌}
use mathlib.Core.List.{List, [], ◌∷◌}
use mathlib.Core.Logic.{⊎_elim}
use Prim.Native.Nat.{ℕ, zero, suc, ◌+◌, ◌-◌, ◌*◌, ◌/◌, ◌%◌, ◌^◌, min, ◌≤◌, ◌<◌}
use native.Mathlib.Nat.{zero-div, zero-mod, div-div-eq-div-mul, pow-suc, mul_comm, div-one, mod-one, mod-eq_of_lt, lt_of_lt_of_le}
use native.Mathlib.Numerals.{add-one}
use native.Mathlib.Omega.{arith}
use lib.Pow.{mod-pow-add, pow_mono}
use lib.Count.{ones, ones_step}
use lib.Bits.{bit_and, and_mask}
use lib.ListN.{length, get_or, take, drop}
use lib.Seq.{get_or-take, get_or-drop, take_all, take-take, take-add}
use Rattle.std.proofs.lemmas.List.{drop_all}
use Rattle.std.proofs.lemmas.Nat.{one_shl}
use Rattle.pulse_map.specs.Map.{Entry, N, map_of, bit_of, xs_in}
use Rattle.pulse_map.specs.Words.{word_of, part, hundred_word, ten_word, words_of}
use Rattle.std.proofs.lemmas.Bool.{cases_lt}
use Rattle.pulse_map.proofs.Laws.{bit_le, xs_append, map-length}

half : (e : Entry) (w : ℕ) → (bit_of e + 2 * w) / 2 ≡ w
half e w = omega (arith, bit_le e)

low : (e : Entry) (w : ℕ) → (bit_of e + 2 * w) % 2 ≡ bit_of e
low e w = omega (arith, bit_le e)

half_pow : (n i : ℕ) → n / 2 ^ suc i ≡ n / 2 / 2 ^ i
half_pow n i = rw (pow-suc, mul_comm) (sym (div-div-eq-div-mul n 2 (2 ^ i)))

mod_suc_pow : (n i : ℕ) → n % 2 ^ suc i ≡ n % 2 + 2 * (n / 2 % 2 ^ i)
mod_suc_pow n i = ap (λ (x : ℕ). n % 2 ^ x) (sym (add-one i)) ∙ mod-pow-add n i 1 ∙ omega arith

-- the bit at i is the entry at i
shifted-bit : (l : List Entry) (i : ℕ) → word_of l / 2 ^ i % 2 ≡ bit_of (get_or l i N)
unfolding word_of
shifted-bit [] i = rw zero-div
shifted-bit (e ∷ l) zero = rw div-one (low e (word_of l))
shifted-bit (e ∷ l) (suc i) = rw (half_pow, half e (word_of l)) (shifted-bit l i)

pub word-bit : (l : List Entry) (i : ℕ) → bit_and (word_of l / 2 ^ i) 1 ≡ bit_of (get_or l i N)
word-bit l i = and_mask (word_of l / 2 ^ i) 1 ∙ shifted-bit l i

-- the k low bits are the first k entries
word-take : (l : List Entry) (k : ℕ) → word_of l % 2 ^ k ≡ word_of (take k l)
unfolding word_of
word-take [] zero = refl
word-take [] (suc k) = zero-mod (2 ^ suc k)
word-take (e ∷ l) zero = mod-one (bit_of e + 2 * word_of l)
word-take (e ∷ l) (suc k) = rw (mod_suc_pow, half e (word_of l), low e (word_of l), word-take l k)

-- the ones are the X's
word_ones : (l : List Entry) → ones (word_of l) ≡ xs_in l
unfolding word_of xs_in ones
word_ones [] = refl
word_ones (e ∷ l) = rw (ones_step, half e (word_of l), low e (word_of l), word_ones l)

-- the ones of the k low bits are the X's of the first k entries
pub low_xs : (l : List Entry) (k : ℕ) → ones (word_of l % 2 ^ k) ≡ xs_in (take k l)
low_xs l k = ap ones (word-take l k) ∙ word_ones (take k l)

-- ---- the words of a hundred elements

-- element i is in bit i mod 64 of word i div 64
pub part-bit : (l : List Entry) (i : ℕ) → bit_and (word_of (part (i / 64) l) / 2 ^ (i % 64)) 1 ≡ bit_of (get_or l i N)
unfolding part
part-bit l i =
    let whole : 64 * (i / 64) + i % 64 ≡ i = omega arith in
    word-bit (part (i / 64) l) (i % 64)
    ∙ ap bit_of (get_or-take 64 (drop (64 * (i / 64)) l) (i % 64) N (omega arith) ∙ get_or-drop (64 * (i / 64)) l (i % 64) N ∙ ap (λ (j : ℕ). get_or l j N) whole)

-- the X's of the first k elements are in word 0
pub first_xs : (l : List Entry) (k : ℕ) → k ≤ 64 → ones (word_of (part 0 l) % 2 ^ k) ≡ xs_in (take k l)
unfolding part
first_xs l k h = low_xs (take 64 l) k ∙ ap xs_in (take-take k 64 l h)

-- or in word 0 and in the low bits of word 1
pub both_xs : (l : List Entry) (k : ℕ) → 64 ≤ k → k ≤ 128 → ones (word_of (part 0 l) % 2 ^ 64) + ones (word_of (part 1 l) % 2 ^ (k - 64)) ≡ xs_in (take k l)
unfolding part
both_xs l k p q =
    let whole : 64 + (k - 64) ≡ k = omega arith in
    let rest : k - 64 ≤ 64 = omega arith in
    ap₂ (λ (a b : ℕ). a + b) (first_xs l 64 (omega arith)) (low_xs (take 64 (drop 64 l)) (k - 64) ∙ ap xs_in (take-take (k - 64) 64 (drop 64 l) rest))
    ∙ rw (← xs_append, ← take-add, whole)

-- element i of a map of up to 128 elements is in its two words
word_at : (l : List Entry) (h : ℕ) → h < 2 → get_or (words_of l) h 0 ≡ word_of (part h l)
word_at l zero h = refl
word_at l (suc zero) h = refl
word_at l (suc (suc n)) h = absurd (omega arith)

pub words-bit : (l : List Entry) (i : ℕ) → i < 128 → bit_and (get_or (words_of l) (i / 64) 0 / 2 ^ (i % 64)) 1 ≡ bit_of (get_or l i N)
words-bit l i h = rw (word_at l (i / 64) (omega arith)) (part-bit l i)

-- and so are the X's of its first k elements
pub words_xs : (l : List Entry) (k : ℕ) → k ≤ 128 → ones (word_of (part 0 l) % 2 ^ min k 64) + ones (word_of (part 1 l) % 2 ^ (k - 64)) ≡ xs_in (take k l)
unfolding xs_in
words_xs l k h =
    ⊎_elim
    (λ gt. let low : min k 64 ≡ 64 = omega arith in rw low (both_xs l k (omega arith) h))
    (λ le.
    let low : min k 64 ≡ k = omega arith in
    let rest : k - 64 ≡ 0 = omega arith in
    let none : ones (word_of (part 1 l) % 2 ^ 0) ≡ 0 = low_xs (part 1 l) 0 in
    rw (low, rest) (omega (arith, first_xs l k le, none)))
    (cases_lt 64 k)

-- the words of the two tables are those of their maps
pub hundred-words : (x n : ℕ) → x + n ≡ 100 → hundred_word x 0 ∷ hundred_word x 1 ∷ [] ≡ words_of (map_of x n)
unfolding hundred_word
hundred-words x n e = let rest : 100 - x ≡ n = omega arith in rw rest refl

pub ten-words : (x n : ℕ) → x + n ≡ 10 → ten_word x ∷ 0 ∷ [] ≡ words_of (map_of x n)
unfolding ten_word part word_of
ten-words x n e =
    let rest : 10 - x ≡ n = omega arith in
    let short : length (map_of x n) ≤ 64 = omega (arith, map-length x n) in
    rw (rest, take_all 64 (map_of x n) short, drop_all 64 (map_of x n) short) refl

-- ---- masks

-- a mask of k ones keeps the k low bits
pub and_low : (w k : ℕ) → k < 64 → bit_and w (1 * 2 ^ k % 2 ^ 64 - 1) ≡ w % 2 ^ k
and_low w k h = rw (one_shl k 64 h) (and_mask w k)

-- a word of 64 bits has no others
pub above : (w k : ℕ) → w < 2 ^ 64 → 64 ≤ k → w % 2 ^ k ≡ w
above w k h l = mod-eq_of_lt (lt_of_lt_of_le h (pow_mono l))
