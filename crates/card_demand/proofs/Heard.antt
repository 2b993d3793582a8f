-- A line with something to tell is heard before the row has gone round.
use mathlib.Core.Path.{◌≡◌, refl, sym, ap, ◌∙◌}
use mathlib.Core.Bool.{Bool, true, false, true≢false}
use mathlib.Core.List.{List, [], ◌∷◌, ◌++◌}
use Prim.Native.Nat.{ℕ, ◌≤◌, ◌<◌}
use native.Mathlib.Decide.{dec_lt}
use native.Mathlib.Omega.{arith}
use borrow.Author.Tests.{eqb-true}
use lib.Dec.{eqb}
use lib.ListN.{length}
use Rattle.answers.specs.Fronts.{silent}
use Rattle.answers.specs.declared.Tick.{Tick}
use Rattle.dispatcher.specs.Dispatch.{tells, notice}
use Rattle.dispatcher.specs.declared.Waiting.{Waiting}
use Rattle.std.specs.Prelude.{Some, None}
use Rattle.demand.specs.Calls.{Entry}
use Rattle.card_demand.specs.Card.{CardCall, CardReply, done, sends, refuses, CardEntry, card_entry, Card, Making}
use Rattle.card_demand.specs.Reading.{is_tick, one_if, number, row_ticks, row_length, next_in, tariff_done, burst_done, reported, fell, fallen, since, left, due}
use Rattle.card_demand.specs.Claims.{HeardWithin}
use Rattle.card_demand.proofs.Round.{passed-few}
use Rattle.card_demand.proofs.Gather.{tells_more}
use Rattle.card_demand.proofs.Kept.{unheard, since-most, may-stay}
use Rattle.card_demand.proofs.Run.{Run, more, good}

-- where the line at place i has something to tell, an entry has its notice, or passes it over
data At (i : ℕ) (e : CardEntry) (h : List CardEntry) : Type 0 where
  hears : (w : Waiting) → e.reply ≡ sends (Some (notice i w)) → At i e h
  passes : tells (left (e ∷ h) i) ≡ true → unheard (e ∷ h) i ≡ one_if (is_tick e) (unheard h i) → At i e h

at-reply : (i : ℕ) (c : CardCall) (r : CardReply) (rows : List (List Entry)) (h : List CardEntry) → tells (due (card_entry c r rows) h i) ≡ true →
    At i (card_entry c r rows) h
unfolding since unheard
at-reply i c done rows h t = passes t refl
at-reply i c (refuses n) rows h t = passes t refl
at-reply i c (sends None) rows h t = passes t (rw t)
at-reply i c (sends (Some n)) rows h t = by (eqb i n.place) refl
  where
    by : (b : Bool) → eqb i n.place ≡ b → At i (card_entry c (sends (Some n)) rows) h
    by true x = hears n.told (ap (λ (y : ℕ). sends (Some (notice y n.told))) (sym (eqb-true i n.place x)))
    by false x = passes (rw x t) (rw (x, t))

at_entry : (i : ℕ) (e : CardEntry) (h : List CardEntry) → tells (due e h i) ≡ true → At i e h
at_entry i e h t = at-reply i e.call e.reply e.rows h t

still-due : (i : ℕ) (e : CardEntry) (h : List CardEntry) → tells (left h i) ≡ true → tells (due e h i) ≡ true
still-due i e h t = tells_more (λ f. since f h i) (λ f. one_if (fell f e i) (since f h i)) (λ f. grind arith) t

module _ (ms : List Making) (i : ℕ) (e₀ : CardEntry) (before : List CardEntry) where
  abbrev N : ℕ
  N = length ms

  -- the row has n lines
  abbrev n : ℕ
  n = row_length N (e₀ ∷ before)

  -- something fell only on a line of the row
  none-due : {k : Card} → Run ms (e₀ ∷ before) k → n ≤ i → (f : Tick → Bool) → f silent ≡ false → one_if (fell f e₀ i) (since f before i) ≡ 0
  unfolding number
  none-due r l f q = by ((good ms r).kept.outside f q i l)
    where
      by : one_if (fell f e₀ i) (fallen f before i) ≡ 0 → one_if (fell f e₀ i) (since f before i) ≡ 0
      by z = grind (arith, since-most f before i)

  inside : {k : Card} → Run ms (e₀ ∷ before) k → tells (due e₀ before i) ≡ true → i < n
  inside r t = by (dec_lt i n)
    where
      by : Dec (i < n) → i < n
      by (yes l) = l
      by (no l) =
          let z : n ≤ i = omega arith in
          absurd (true≢false (sym t ∙ rw (none-due r z tariff_done refl, none-due r z burst_done refl, none-due r z reported refl)))

  module _ (l : i < n) where
    -- so many ticks cannot have passed over it
    few : {k : Card} (rest : List CardEntry) → Run ms (rest ++ (e₀ ∷ before)) k → unheard (rest ++ (e₀ ∷ before)) i < n
    few rest r =
        let h = rest ++ (e₀ ∷ before) in
        passed-few n (next_in N h) i (unheard h i) l ((good ms r).kept.passed n i (may-stay N rest (e₀ ∷ before) (omega arith)) l)

    data Until (rest : List CardEntry) : Type 0 where
      heard_in : HeardWithin i n (rest ++ (e₀ ∷ [])) → Until rest
      not_yet : tells (left (rest ++ (e₀ ∷ before)) i) ≡ true → row_ticks (rest ++ (e₀ ∷ [])) ≤ unheard (rest ++ (e₀ ∷ before)) i → Until rest

    first : At i e₀ before → Until []
    unfolding number
    first (hears w q) = heard_in ([], [], e₀, w, refl, q, grind arith)
    first (passes t u) = not_yet t (grind (arith, u))

    next-entry : (x : CardEntry) (rest : List CardEntry) → At i x (rest ++ (e₀ ∷ before)) → row_ticks (rest ++ (e₀ ∷ [])) ≤ unheard (rest ++ (e₀ ∷ before)) i →
        unheard (rest ++ (e₀ ∷ before)) i < n → Until (x ∷ rest)
    unfolding number
    next-entry x rest (hears w q) u v = heard_in ([], rest ++ (e₀ ∷ []), x, w, refl, q, grind arith)
    next-entry x rest (passes t y) u v =
        not_yet t (grind (arith, y, u))

    next : (x : CardEntry) (rest : List CardEntry) → unheard (rest ++ (e₀ ∷ before)) i < n → Until rest → Until (x ∷ rest)
    next x rest v (heard_in y) = heard_in (x ∷ y.0, y.1, y.2, y.3, ap (λ (l : List CardEntry). x ∷ l) y.4, y.5, y.6)
    next x rest v (not_yet t u) = next-entry x rest (at_entry i x (rest ++ (e₀ ∷ before)) (still-due i x (rest ++ (e₀ ∷ before)) t)) u v

    until-of : {k : Card} (rest : List CardEntry) → tells (due e₀ before i) ≡ true → Run ms (rest ++ (e₀ ∷ before)) k → Until rest
    until-of [] t r = first (at_entry i e₀ before t)
    until-of (x ∷ rest) t (more {k = k} c r) = next x rest (few rest r) (until-of {k = k} rest t r)

    heard-by : {k : Card} (rest : List CardEntry) → Run ms (rest ++ (e₀ ∷ before)) k → n ≤ row_ticks (rest ++ (e₀ ∷ [])) → Until rest →
        HeardWithin i n (rest ++ (e₀ ∷ []))
    heard-by rest r g (heard_in y) = y
    heard-by rest r g (not_yet t u) = absurd (omega (arith, few rest r))

  pub heard-run : {k k' : Card} (rest : List CardEntry) → Run ms (rest ++ (e₀ ∷ before)) k → Run ms (e₀ ∷ before) k' → tells (due e₀ before i) ≡ true →
      n ≤ row_ticks (rest ++ (e₀ ∷ [])) → HeardWithin i n (rest ++ (e₀ ∷ []))
  heard-run rest r r' t g = let l = inside r' t in heard-by l rest r g (until-of l rest t r)
