-- Bytes that are added to a text one after the other are added at once.
use Rattle.std.proofs.Common.{◌≡◌, ℕ, zero, suc, ◌+◌, ◌-◌, ◌≤◌, min, List, [], ◌∷◌, ◌++◌, length, take, refl, sym, ap, ◌∙◌, arith, append_assoc, append-nil, length-append, length-take, take_all}
use Rattle.printing.specs.Text.{digits_of}
use Rattle.printing.specs.Room.{extended}

take-nil : (n : ℕ) → take {A = ℕ} n [] ≡ []
take-nil n = take_all {A = ℕ} n [] (omega arith)

take_append : (n : ℕ) (xs ys : List ℕ) → take n (xs ++ ys) ≡ take n xs ++ take (n - length xs) ys
take_append n [] ys = let e : n - 0 ≡ n = omega arith in rw (take-nil n, e) refl
take_append zero (x ∷ xs) ys = let e : 0 - length (x ∷ xs) ≡ 0 = omega arith in rw e refl
take_append (suc n) (x ∷ xs) ys = let e : suc n - length (x ∷ xs) ≡ n - length xs = omega arith in rw e (ap (λ (l : List ℕ). x ∷ l) (take_append n xs ys))

take_min : (n : ℕ) (xs : List ℕ) → take (min n (length xs)) xs ≡ take n xs
take_min n [] = rw (take-nil n, take-nil (min n 0)) refl
take_min zero (x ∷ xs) = let e : min 0 (length (x ∷ xs)) ≡ 0 = omega arith in rw e refl
take_min (suc n) (x ∷ xs) =
    let e : min (suc n) (length (x ∷ xs)) ≡ suc (min n (length xs)) = omega arith in
    rw e (ap (λ (l : List ℕ). x ∷ l) (take_min n xs))

extended_twice : (t a b : List ℕ) → extended (extended t a) b ≡ extended t (a ++ b)
unfolding extended
extended_twice t a b =
    let r = 69 - length t in
    let left : 69 - length (t ++ take r a) ≡ r - length a = omega (arith, length-append t (take r a), length-take r a) in
    rw (left, take_append r a b) (append_assoc t (take r a) (take (r - length a) b))

-- bytes are added, and then others
pub then : (t a b : List ℕ) {u v : List ℕ} → u ≡ extended t a → v ≡ extended u b → v ≡ extended t (a ++ b)
then t a b p q = q ∙ ap (λ (l : List ℕ). extended l b) p ∙ extended_twice t a b

-- bytes are added, and then a number and a tail
pub then_number : (t a : List ℕ) (n : ℕ) (tail : List ℕ) {u v : List ℕ} → u ≡ extended t a → v ≡ extended u (digits_of n ++ tail)
    → v ≡ extended t (a ++ digits_of n ++ tail)
then_number t a n tail p q = rw (append_assoc a (digits_of n) tail) (then t a (digits_of n ++ tail) p q)

-- no bytes change nothing
pub unextended : (t : List ℕ) → extended t [] ≡ t
unfolding extended
unextended t = rw (take-nil (69 - length t)) (append-nil t)

-- what a vector takes of bytes that are written to it
pub written : (t : List ℕ) (n : ℕ) (bytes u : List ℕ) → n ≡ min (69 - length t) (length bytes) → u ≡ t ++ take n bytes → u ≡ extended t bytes
unfolding extended
written t n bytes u p q =
    let r = 69 - length t in
    let same : take n bytes ≡ take r bytes = rw p (take_min r bytes) in
    q ∙ ap (λ (l : List ℕ). t ++ l) same

-- bytes that have room in a text
pub fitted : (t bytes u : List ℕ) → length t + length bytes ≤ 69 → u ≡ t ++ bytes → u ≡ extended t bytes
unfolding extended
fitted t bytes u h q = q ∙ ap (λ (l : List ℕ). t ++ l) (sym (take_all (69 - length t) bytes (omega (arith, h))))

-- bytes that have room in an empty text
pub whole : (a : List ℕ) {t u : List ℕ} → length a ≤ 69 → t ≡ [] → u ≡ extended t a → u ≡ a
unfolding extended
whole a h p q = q ∙ rw p (take_all 69 a h)
