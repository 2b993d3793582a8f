-- The places of a group are read and stored one by one.
use Rattle.std.proofs.Common.{◌≡◌, refl, sym, ◌∙◌, ℕ, zero, suc, ◌+◌, ◌-◌, ◌≤◌, ◌<◌, true, false, List, [], ◌∷◌, ◌++◌, length, append_assoc, append-nil, arith}
use Rattle.std.specs.Prelude.{Some, None}
use Rattle.std.proofs.Math.ListN.{length-append}
use Rattle.script.specs.Readers.{Parsed, Reader, after, ◌>>=◌, give, number, no_word}
use Rattle.script.specs.Cards.{numbers}

-- what is left to read after the places ps: at most k places
abbrev onward : ℕ → List ℕ → Reader (List ℕ)
onward k ps = do
  ns ← numbers k
  give (ps ++ ns)

-- a number that is read is the next place
place-next : (k : ℕ) (ps : List ℕ) (p : Parsed ℕ)
    → after (after p (λ n ws. after (numbers k ws) (λ ns. give (n ∷ ns)))) (λ ns. give (ps ++ ns))
    ≡ after p (λ n. onward k (ps ++ (n ∷ [])))
place-next k ps None = refl
place-next k ps (Some (n, ws)) = one (numbers k ws)
  where
    one : (q : Parsed (List ℕ))
        → after (after q (λ ns. give (n ∷ ns))) (λ ns. give (ps ++ ns))
        ≡ after q (λ ns. give ((ps ++ (n ∷ [])) ++ ns))
    one None = refl
    one (Some (ns, ws)) = rw (append_assoc ps (n ∷ []) ns)

-- where words are left, a place follows
left-next : (k : ℕ) (ps : List ℕ) (ws : List (List ℕ)) → no_word ws ≡ false
    → onward (suc k) ps ws ≡ after (number ws) (λ n. onward k (ps ++ (n ∷ [])))
left-next k ps ws more = rw more (place-next k ps (number ws))

-- where none is left, the places are read
left-none : (k : ℕ) (ps : List ℕ) (ws : List (List ℕ)) → no_word ws ≡ true → onward k ps ws ≡ Some (ps, ws)
left-none zero ps ws e = rw (append-nil ps)
left-none (suc k) ps ws e = rw (e, append-nil ps)

-- the places ps were read, up to the words ws
abbrev pub Begun : List ℕ → List (List ℕ) → Parsed (List ℕ) → Type 0
Begun ps ws p = onward (64 - length ps) ps ws ≡ p

module _ (ps : List ℕ) (ws : List (List ℕ)) (p : Parsed (List ℕ)) (b : Begun ps ws p) where
  more-left : length ps < 64 → no_word ws ≡ false → after (number ws) (λ n. onward (64 - (length ps + 1)) (ps ++ (n ∷ []))) ≡ p
  more-left room more =
      let here : 64 - length ps ≡ suc (64 - (length ps + 1)) = omega arith in
      sym (left-next (64 - (length ps + 1)) ps ws more) ∙ (rw here at b)

  -- one place more
  pub next_place : (n : ℕ) (vs : List (List ℕ)) → length ps < 64 → no_word ws ≡ false → Some (n, vs) ≡ number ws → Begun (ps ++ (n ∷ [])) vs p
  next_place n vs room more h = rw (length-append ps (n ∷ [])) (rw (← h) at (more-left room more))

  -- no word is left
  pub last-place : no_word ws ≡ true → Some (ps, ws) ≡ p
  last-place none = sym (left-none (64 - length ps) ps ws none) ∙ b

  -- no more places are taken
  pub full : 64 ≤ length ps → Some (ps, ws) ≡ p
  full all =
      let here : 64 - length ps ≡ 0 = omega arith in
      let all-read : onward 0 ps ws ≡ p = rw here at b in
      (rw (append-nil ps) refl) ∙ all-read
