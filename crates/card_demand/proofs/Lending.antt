-- What the contracts of dispatcher and group compute of a lent row is the step of the card: the row by lists, place by place no more.
use mathlib.Core.Path.{◌≡◌, refl, ap, ◌∙◌}
use mathlib.Core.Bool.{Bool, true, false, cond}
use mathlib.Core.List.{List, [], ◌∷◌, ◌++◌, map, map-map}
use Prim.Native.Nat.{ℕ, zero, suc, min, ◌<◌}
use native.Mathlib.Omega.{arith}
use borrow.Author.Tests.{lt-ltb, le-ltb}
use lib.Dec.{ltb, eqb, leb-suc-suc, eqb-zero-suc, eqb-suc-zero, eqb-suc-suc}
use Rattle.std.proofs.lemmas.List.{map-id, map-append, map-set}
use lib.ListN.{length, get_or, set, take, drop, length-take, take-append-drop}
use Rattle.answers.specs.Fronts.{silent}
use Rattle.answers.specs.declared.Tick.{Tick}
use Rattle.line.specs.Lines.{Verdict, blank_line}
use Rattle.line.specs.declared.Line.{Line}
use Rattle.std.specs.Prelude.{Ok, Err}
use Rattle.dispatcher.specs.Dispatch.{gathered, gather_all, wrong_row, ticked_row, told_row, dispatch_of}
use Rattle.dispatcher.proofs.RowLaws.{gather_none}
use Rattle.dispatcher.specs.declared.Waiting.{Waiting}
use Rattle.group.specs.Groups.{rate_of, named, verdict_of, rated_row, row_of as rated_by}
use Rattle.demand.specs.Calls.{Call, tick}
use Rattle.demand.specs.Machine.{step, Past, past, after_calls, entries, line_after}
use Rattle.card_demand.specs.Card.{on_line, tick_row, group, Card, calls_at, rate, row_after, told_in, card_step}
use Rattle.card_demand.specs.Lending.{called_on, lent_step, group_step, call_step, CardSteps}
use Rattle.card_demand.proofs.Gather.{gathered-silent}
use Rattle.card_demand.proofs.Group.{clear}

-- ---- lines that get no call
row_same : (f : ℕ → List Call) → ((i : ℕ) → f i ≡ []) → (ls : List Line) → row_after f ls ≡ map (past []) ls
unfolding row_after after_calls
row_same f e [] = refl
row_same f e (l ∷ ls) = rw (e 0) (ap (λ (ps : List Past). past [] l ∷ ps) (row_same (λ i. f (suc i)) (λ i. e (suc i)) ls))

lines_same : (ls : List Line) → map line_after (map (past []) ls) ≡ ls
lines_same ls = map-map line_after (past []) ls ∙ map-id ls

-- ---- the first m lines are ticked
abbrev Ticks : ℕ → (ℕ → List Call) → Type 0
Ticks m f = (i : ℕ) → f i ≡ cond (ltb i m) (tick ∷ []) []

row-ticked : (m : ℕ) (f : ℕ → List Call) → Ticks m f → (ls : List Line) → row_after f ls ≡ map (λ l. called_on l tick) (take m ls) ++ map (past []) (drop m ls)
unfolding row_after after_calls
row-ticked zero f t ls = row_same f (λ i. t i ∙ rw (le-ltb i 0 (omega arith))) ls
row-ticked (suc m) f t [] = refl
row-ticked (suc m) f t (l ∷ ls) =
    rw (t 0, lt-ltb 0 (suc m) (omega arith))
    (ap (λ (ps : List Past). called_on l tick ∷ ps) (row-ticked m (λ i. f (suc i)) (λ i. t (suc i) ∙ rw (leb-suc-suc (suc i) m)) ls))

-- what g makes of them
module _ {B : Type 0} (g : Past → B) where
  ticked-map : (row others : List Line) →
      map g (map (λ l. called_on l tick) row ++ map (past []) others) ≡ map (λ l. g (called_on l tick)) row ++ map (λ l. g (past [] l)) others
  ticked-map row others =
      map-append g (map (λ l. called_on l tick) row) (map (past []) others)
      ∙ rw (map-map g (λ l. called_on l tick) row, map-map g (past []) others) refl

  of_row_lem : (m : ℕ) (ls : List Line) →
      map g (row_after (calls_at (tick_row m)) ls) ≡ map (λ l. g (called_on l tick)) (take m ls) ++ map (λ l. g (past [] l)) (drop m ls)
  of_row_lem m ls = ap (map g) (row-ticked m (calls_at (tick_row m)) (λ i. refl) ls) ∙ ticked-map (take m ls) (drop m ls)

lines-ticked : (m : ℕ) (ls : List Line) → map line_after (row_after (calls_at (tick_row m)) ls) ≡ ticked_row (take m ls) ++ drop m ls
unfolding step
lines-ticked m ls = of_row_lem line_after m ls ∙ ap (λ (ks : List Line). ticked_row (take m ls) ++ ks) (map-id (drop m ls))

-- a line that got no tick tells nothing
gather-rest : (ws : List Waiting) (ts : List Tick) (others : List Line) → gather_all ws (ts ++ map (λ l. silent) others) ≡ gather_all ws ts
unfolding gather_all
gather-rest [] ts others = refl
gather-rest (w ∷ ws) [] [] = refl
gather-rest (w ∷ ws) [] (l ∷ others) = rw (gathered-silent w) (ap (λ (vs : List Waiting). w ∷ vs) (gather-rest ws [] others ∙ gather_none ws))
gather-rest (w ∷ ws) (t ∷ ts) others = ap (λ (vs : List Waiting). gathered w t ∷ vs) (gather-rest ws ts others)

gather-ticked : (ws : List Waiting) (m : ℕ) (ls : List Line) →
    gather_all ws (map told_in (map entries (row_after (calls_at (tick_row m)) ls))) ≡ gather_all ws (told_row (take m ls))
unfolding step
gather-ticked ws m ls =
    ap (gather_all ws) (map-map told_in entries (row_after (calls_at (tick_row m)) ls) ∙ of_row_lem (λ p. told_in (entries p)) m ls)
    ∙ gather-rest ws (told_row (take m ls)) (drop m ls)

tick-step : (k : Card) (m : ℕ) (b : Bool) → wrong_row k.dispatcher.length (min m (length k.lines)) ≡ b → card_step k (tick_row m) ≡ lent_step k m
unfolding dispatch_of
tick-step k m true e = rw (length-take m k.lines, e, take-append-drop m k.lines)
tick-step k m false e =
    rw (length-take m k.lines, e, gather-ticked k.dispatcher.waiting m k.lines, lines-ticked m k.lines, of_row_lem entries m k.lines)

-- ---- lines of the first m take a rate command
module _ (P : ℕ) where
  abbrev rated_at : (ℕ → Bool) → ℕ → List Call
  rated_at f i = cond (f i) (rate P ∷ []) []

  one-rated : (b : Bool) (l : Line) → line_after (after_calls (past [] l) (cond b (rate P ∷ []) [])) ≡ cond b (rate_of l P).line l
  unfolding after_calls step
  one-rated true l = refl
  one-rated false l = refl

  lines-rated : (m : ℕ) (f : ℕ → Bool) → ((i : ℕ) → f i ≡ true → i < m) → (ls : List Line) →
      map line_after (row_after (rated_at f) ls) ≡ rated_row f P (take m ls) ++ drop m ls
  unfolding row_after rated_row
  lines-rated zero f inside ls = rw (row_same (rated_at f) (λ i. none i (f i) refl) ls) (lines_same ls)
    where
      none : (i : ℕ) (b : Bool) → f i ≡ b → cond b (rate P ∷ []) [] ≡ []
      none i true e = let l = inside i e in absurd (omega arith)
      none i false e = refl
  lines-rated (suc m) f inside [] = refl
  lines-rated (suc m) f inside (l ∷ ls) =
      rw (one-rated (f 0) l) (ap (λ (ks : List Line). cond (f 0) (rate_of l P).line l ∷ ks) (lines-rated m (λ i. f (suc i)) (λ i e. let o = inside (suc i) e in omega arith) ls))

group-step : (k : Card) (m : ℕ) (ps : List ℕ) (P : ℕ) (v : Verdict) → verdict_of (take m k.lines) ps P ≡ v → card_step k (group m ps P) ≡ group_step k m ps P
unfolding rated_by
group-step k m ps P (Err r) e = rw (e, take-append-drop m k.lines)
group-step k m ps P (Ok n) e =
    let c = clear (take m k.lines) ps P (n, e) in
    rw (e, lines-rated P m (named ps) (λ i t. let l = c.places i t in omega (arith, length-take m k.lines)) k.lines)

-- ---- a call on one line
abbrev Calls : ℕ → Call → (ℕ → List Call) → Type 0
Calls p c f = (i : ℕ) → f i ≡ cond (eqb i p) (c ∷ []) []

row-set : (p : ℕ) (c : Call) (f : ℕ → List Call) → Calls p c f → (ls : List Line) → row_after f ls ≡ set (map (past []) ls) p (called_on (get_or ls p blank_line) c)
unfolding row_after after_calls
row-set p c f t [] = refl
row-set zero c f t (l ∷ ls) = rw (t 0, row_same (λ i. f (suc i)) (λ i. t (suc i) ∙ rw (eqb-suc-zero i)) ls)
row-set (suc p) c f t (l ∷ ls) =
    rw (t 0, eqb-zero-suc p) (ap (λ (ps : List Past). past [] l ∷ ps) (row-set p c (λ i. f (suc i)) (λ i. t (suc i) ∙ rw (eqb-suc-suc i p)) ls))

call_step_lem : (k : Card) (p : ℕ) (c : Call) → card_step k (on_line p c) ≡ call_step k p c
call_step_lem k p c =
    let l = get_or k.lines p blank_line in
    rw (
      row-set p c (calls_at (on_line p c)) (λ i. refl) k.lines,
      map-set entries (map (past []) k.lines) p (called_on l c),
      map-set line_after (map (past []) k.lines) p (called_on l c),
      map-map entries (past []) k.lines,
      lines_same k.lines,
    )

pub card_steps : CardSteps
card_steps = record {
  ticks = λ k m. tick-step k m (wrong_row k.dispatcher.length (min m (length k.lines))) refl;
  groups = λ k m ps P. group-step k m ps P (verdict_of (take m k.lines) ps P) refl;
  calls = call_step_lem;
}
