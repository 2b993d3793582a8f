-- The text of a card's line is the end of the line from one of its words on, and it begins with `SG`.
use Rattle.std.proofs.Common.{◌≡◌, refl, sym, ap, ◌∙◌, ℕ, zero, suc, ◌+◌, ◌-◌, ◌≤◌, Bool, true, false, List, [], ◌∷◌, length, drop, drop-drop, arith}
use Rattle.std.specs.Prelude.{Option, Some, None, ◌==◌, if◌then◌else◌}
use Rattle.std.proofs.lemmas.Bool.Decides.{nat_tests}
use Rattle.script.specs.Words.{blank, same, words_of}
use Rattle.script.specs.Numbers.{number_of}
use Rattle.script.specs.Runs.{ends_run, past_run, past_blanks, past_first}
use Rattle.script.specs.Readers.{Parsed, Reader, after, give, fail, or_else, first, rest, valued, no_word, whole}
use Rattle.script.specs.Commands.{configure, period, describe, hook, run}
use Rattle.script.specs.Cards.{CardLine, Add, On, Audit, Text, Tick, Group, target}
use Rattle.script.specs.Cards.{of_row, of_place, for_row, for_place, all, is_text, given, commit, other, placed, at_place, grouped, group, card_command, card_command_of}
use Rattle.script.specs.declared.Command.{Command}
use Rattle.script.specs.declared.Command.TheVariants.{Configure, Period, NoPeriod, Describe, OnHook, Run}
use Rattle.script.specs.declared.Giving.TheVariants.{Take, Ask, Commit}
use Rattle.script.specs.declared.Target.{Target}
use Rattle.script.proofs.WordLaws.{leading, first-leading, other_words}
use Rattle.printing.specs.Bytes.{bytes}

-- m is the end of l
record End (l m : List ℕ) : Type 0 where
  pub shorter : length m ≤ length l
  pub stands : drop (length l - length m) l ≡ m

end_self : (l : List ℕ) → End l l
end_self l = let z : length l - length l ≡ 0 = omega arith in record { shorter = omega arith; stands = rw z }

end_more : (b : ℕ) (l m : List ℕ) → End l m → End (b ∷ l) m
end_more b l m e =
    let h = e.shorter in
    let n : suc (length l) - length m ≡ suc (length l - length m) = omega arith in
    record { shorter = omega arith; stands = rw n e.stands }

end_run : (blanks : Bool) (l : List ℕ) → End l (past_run blanks l)
end_run blanks [] = end_self []
end_run blanks (b ∷ l) = one (ends_run blanks b) (end_run blanks l)
  where
    one : (t : Bool) → End l (past_run blanks l) → End (b ∷ l) (if t then b ∷ l else past_run blanks l)
    one true e = end_self (b ∷ l)
    one false e = end_more b l (past_run blanks l) e

end_then : (l m k : List ℕ) → End l m → End m k → End l k
end_then l m k a b =
    let p = a.shorter in
    let q = b.shorter in
    let n : length l - length k ≡ (length l - length m) + (length m - length k) = omega arith in
    record {
      shorter = omega arith;
      stands = rw n (sym (drop-drop (length m - length k) (length l - length m) l) ∙ ap (drop (length m - length k)) a.stands ∙ b.stands);
    }

end_first : (l m : List ℕ) → End l m → End l (past_first m)
end_first l m e =
    end_then l (past_blanks m) (past_first m) (end_then l m (past_blanks m) e (end_run true m)) (end_run false (past_blanks m))

-- past the first k words of a line
abbrev pub past_words : ℕ → List ℕ → List ℕ
past_words zero l = l
past_words (suc k) l = past_first (past_words k l)

end_words : (k : ℕ) (l : List ℕ) → End l (past_words k l)
end_words zero l = end_self l
end_words (suc k) l = end_first l (past_words k l) (end_words k l)

-- t is what stands in the line l from a word on that begins with `SG`, to the end of l
pub record TextOf (l t : List ℕ) : Type 0 where
  pub words : ℕ
  pub from : t ≡ past_blanks (past_words words l)
  pub stands : drop (length l - length t) l ≡ t
  pub begins : is_text t ≡ true
  pub shorter : length t ≤ length l

-- m is left of the line l past some words
record Left (l m : List ℕ) : Type 0 where
  pub words : ℕ
  pub past : m ≡ past_words words l

-- the text of a command is one of l, if it has one
abbrev Texts : List ℕ → CardLine → Type 0
Texts l (Add c) = Unit {0}
Texts l (On to c) = Unit {0}
Texts l (Audit place) = Unit {0}
Texts l (Text to t) = TextOf l t
Texts l (Tick t) = Unit {0}
Texts l (Group p ps) = Unit {0}

-- where there is one
abbrev TextsIn : List ℕ → Option CardLine → Type 0
TextsIn l None = Unit {0}
TextsIn l (Some c) = Texts l c

-- and that of what was read
abbrev Sound : List ℕ → Parsed CardLine → Type 0
Sound l None = Unit {0}
Sound l (Some (c, ws)) = Texts l c

whole-sound : (l : List ℕ) (p : Parsed CardLine) → Sound l p → TextsIn l (whole p)
whole-sound l None h = tt
whole-sound l (Some (c, ws)) h = one (no_word ws)
  where
    one : (t : Bool) → TextsIn l (if t then Some c else None)
    one true = h
    one false = tt

row-sound : (l : List ℕ) (c : Command) → TextsIn l (of_row c)
row-sound l (Configure c) = tt
row-sound l (Period n) = tt
row-sound l NoPeriod = tt
row-sound l (Describe t k u) = tt
row-sound l (OnHook h) = tt
row-sound l (Run t) = tt

-- what `meter` reads has no text, for the row
for_row-sound : (l : List ℕ) (r : Reader Command) (ws : List (List ℕ)) → Sound l (for_row r ws)
for_row-sound l r ws = at (r ws)
  where
    made : (o : Option CardLine) (vs : List (List ℕ)) → TextsIn l o → Sound l (valued o vs)
    made None vs z = tt
    made (Some c) vs z = z

    at : (p : Parsed Command) → Sound l (after p (λ c. valued (of_row c)))
    at None = tt
    at (Some (c, vs)) = made (of_row c) vs (row-sound l c)

-- and for the line at a place
for_place-sound : (l : List ℕ) (to : Target) (r : Reader Command) (ws : List (List ℕ)) → Sound l (for_place to r ws)
for_place-sound l to r ws = at (r ws)
  where
    at : (p : Parsed Command) → Sound l (after p (λ c. give (of_place to c)))
    at None = tt
    at (Some (c, vs)) = tt

either : (l : List ℕ) (t : Bool) (r s : Reader CardLine) (ws : List (List ℕ)) → (t ≡ true → Sound l (r ws)) → Sound l (s ws)
    → Sound l ((if t then r else s) ws)
either l true r s ws a b = a refl
either l false r s ws a b = b

or_sound : (l : List ℕ) (p q : Parsed CardLine) → Sound l p → Sound l q → Sound l (or_else p q)
or_sound l None q a b = b
or_sound l (Some r) q a b = a

-- bytes whose first word begins with `SG` begin with it
leading-text : (m : List ℕ) → is_text (leading m) ≡ true → is_text m ≡ true
leading-text [] h = h
leading-text (a ∷ []) h = one (a == blank) h
  where
    one : (t : Bool) → is_text (if t then [] else a ∷ []) ≡ true → is_text (a ∷ []) ≡ true
    one true h = cc
    one false h = h
leading-text (a ∷ b ∷ m) h = one (a == blank) (b == blank) h
  where
    one : (t u : Bool) → is_text (if t then [] else a ∷ (if u then [] else b ∷ leading m)) ≡ true → is_text (a ∷ b ∷ m) ≡ true
    one true u h = cc
    one false true h = grind (arith, nat_tests)
    one false false h = h

-- the rest m of the line l is left, and its words are read
module _ (l m : List ℕ) (e : Left l m) where
  end : End l (past_blanks m)
  end = end_then l m (past_blanks m) (rw e.past (end_words e.words l)) (end_run true m)

  text_at : is_text (first (words_of m)) ≡ true → TextOf l (past_blanks m)
  text_at h =
      record {
        words = e.words;
        from = ap past_blanks e.past;
        stands = end.stands;
        shorter = end.shorter;
        begins = leading-text (past_blanks m) (rw (← first-leading m) h);
      }

  given-sound : (to : Target) → Sound l (given to m (words_of m))
  given-sound to =
      let w = first (words_of m) in
      let vs = rest (words_of m) in
      either l (is_text w) (all (Text to (past_blanks m))) _ vs (λ h. text_at h)
      (either l (same w (bytes "sig")) (for_place to describe) fail vs (λ h. for_place-sound l to describe vs) tt)

  past : Left l (past_first m)
  past = record { words = suc e.words; past = ap past_first e.past }

  next : words_of (past_first m) ≡ rest (words_of m)
  next = other_words m refl

commit-sound : (l m : List ℕ) → Left l m → (place : ℕ) → Sound l (commit m place (words_of m))
commit-sound l m e place = one (number_of (first (words_of m)))
  where
    one : (n : Option ℕ) → Sound l (after (valued n (rest (words_of m))) (λ n. given (target place (Commit n)) (past_first m)))
    one (Some n) = rw (next l m e) at (given-sound l (past_first m) (past l m e) (target place (Commit n)))
    one None = tt

other-sound : (l m : List ℕ) → Left l m → (place : ℕ) → Sound l (other m place (words_of m))
other-sound l m e place =
    let w = first (words_of m) in
    let vs = rest (words_of m) in
    let k = past_first m in
    let asked : Sound l (given (target place Ask) k vs) = rw (next l m e) at (given-sound l k (past l m e) (target place Ask)) in
    let taking = target place Take in
    let committed : Sound l (commit k place vs) = rw (next l m e) at (commit-sound l k (past l m e) place) in
    either l (same w (bytes "audit")) (give (Audit place)) _ vs (λ h. tt)
    (either l (same w (bytes "rp")) (for_place taking period) _ vs (λ h. for_place-sound l taking period vs)
    (either l (same w (bytes "hook")) (for_place taking hook) _ vs (λ h. for_place-sound l taking hook vs)
    (either l (same w (bytes "ask")) (given (target place Ask) k) _ vs (λ h. asked)
    (either l (same w (bytes "commit")) (commit k place) fail vs (λ h. committed) tt))))

placed-sound : (l m : List ℕ) → Left l m → (place : ℕ) → Sound l (placed m place (words_of m))
placed-sound l m e place =
    or_sound l (given (target place Take) m (words_of m)) _ (given-sound l m e (target place Take)) (other-sound l m e place)

at-sound : (l m : List ℕ) → Left l m → Sound l (at_place m (words_of m))
at-sound l m e = one (number_of (first (words_of m)))
  where
    one : (n : Option ℕ) → Sound l (after (valued n (rest (words_of m))) (λ place. placed (past_first m) place))
    one (Some place) = rw (next l m e) at (placed-sound l (past_first m) (past l m e) place)
    one None = tt

-- a group has no text
group-sound : (l : List ℕ) (ws : List (List ℕ)) → Sound l (group ws)
group-sound l ws = one (grouped ws)
  where
    one : (p : Parsed (ℕ × List ℕ)) → Sound l (after p (λ g. give (Group g.0 g.1)))
    one None = tt
    one (Some (g, vs)) = tt

command-sound : (l : List ℕ) → Sound l (card_command l (words_of l))
command-sound l =
    let w = first (words_of l) in
    let vs = rest (words_of l) in
    let e : Left l l = record { words = 0; past = refl } in
    let placed : Sound l (at_place (past_first l) vs) = rw (next l l e) at (at-sound l (past_first l) (past l l e)) in
    either l (same w (bytes "cfg")) (for_row configure) _ vs (λ h. for_row-sound l configure vs)
    (either l (same w (bytes "tick")) (for_row run) _ vs (λ h. for_row-sound l run vs)
    (either l (same w (bytes "at")) (at_place (past_first l)) _ vs (λ h. placed)
    (either l (same w (bytes "group")) group fail vs (λ h. group-sound l vs) tt)))

module _ (l : List ℕ) (to : Target) (t : List ℕ) (e : card_command_of l ≡ Some (Text to t)) where
  -- a text is what stands from a word on that begins with `SG`
  pub text-stands : TextOf l t
  text-stands = rw e at (whole-sound l (card_command l (words_of l)) (command-sound l))

  -- and lies within its line
  pub text-within : length t ≤ length l
  text-within = let h = text-stands in h.shorter
