-- The lines of a row, place by place.
use mathlib.Core.Path.{◌≡◌, refl, sym, ap, ◌∙◌}
use mathlib.Core.List.{List, [], ◌∷◌, ◌++◌, map, append_assoc}
use Prim.Native.Nat.{ℕ, zero, suc, ◌≤◌, ◌<◌}
use native.Mathlib.Nat.{not-suc-le-zero, le_of_suc-le-suc}
use native.Mathlib.Omega.{arith}
use lib.ListN.{length, get_or, length-map, get_or-eq_default}
use Rattle.line.specs.Lines.{blank_line}
use Rattle.line.specs.declared.Line.{Line}
use Rattle.demand.specs.Calls.{Call, Entry}
use Rattle.demand.specs.Machine.{entry_for, Outcome, outcome, step, Past, past, noted, after_calls, entries, line_after}
use Rattle.card_demand.specs.Card.{row_after}

-- ---- calls on one line, on top of its history
abbrev pub on_top : List Entry → Past → Past
on_top h p = past (entries p ++ h) (line_after p)

on-top : (h g : List Entry) (p : Past) → on_top g (on_top h p) ≡ on_top (h ++ g) p
on-top h g p = ap (λ (x : List Entry). past x (line_after p)) (append_assoc (entries p) h g)

step-on-top : (h : List Entry) (c : Call) (cs : List Call) → ((k : List Entry) (l : Line) → after_calls (past k l) cs ≡ on_top k (after_calls (past [] l) cs)) →
    (o : Outcome) → after_calls (noted h c o) cs ≡ on_top h (after_calls (noted [] c o) cs)
step-on-top h c cs ih (outcome a l) =
    let e = entry_for c a l in
    ih (e ∷ h) l ∙ sym (on-top (e ∷ []) h (after_calls (past [] l) cs)) ∙ ap (λ (p : Past). on_top h p) (sym (ih (e ∷ []) l))

pub calls-on-top : (cs : List Call) (h : List Entry) (l : Line) → after_calls (past h l) cs ≡ on_top h (after_calls (past [] l) cs)
unfolding after_calls
calls-on-top [] h l = refl
calls-on-top (c ∷ cs) h l = step-on-top h c cs (calls-on-top cs) (step l c)

-- ---- the row
row-length : (f : ℕ → List Call) (ls : List Line) → length (row_after f ls) ≡ length ls
unfolding row_after
row-length f [] = refl
row-length f (l ∷ ls) = ap suc (row-length (λ i. f (suc i)) ls)

entries-length : (f : ℕ → List Call) (ls : List Line) → length (map entries (row_after f ls)) ≡ length ls
entries-length f ls = length-map (row_after f ls) entries ∙ row-length f ls

pub lines-length : (f : ℕ → List Call) (ls : List Line) → length (map line_after (row_after f ls)) ≡ length ls
lines-length f ls = length-map (row_after f ls) line_after ∙ row-length f ls

pub row_at : (f : ℕ → List Call) (ls : List Line) (i : ℕ) → i < length ls →
    past (get_or (map entries (row_after f ls)) i []) (get_or (map line_after (row_after f ls)) i blank_line) ≡ after_calls (past [] (get_or ls i blank_line)) (f i)
unfolding row_after
row_at f [] i h = absurd (not-suc-le-zero h)
row_at f (l ∷ ls) zero h = whole (after_calls (past [] l) (f 0))
  where
    whole : (p : Past) → past (entries p) (line_after p) ≡ p
    whole (past es k) = refl
row_at f (l ∷ ls) (suc i) h = row_at (λ j. f (suc j)) ls i (le_of_suc-le-suc h)

-- a place that gets no call has no entry, and nor has one outside the row
pub row-none : (f : ℕ → List Call) (ls : List Line) (i : ℕ) → f i ≡ [] → get_or (map entries (row_after f ls)) i [] ≡ []
unfolding row_after after_calls
row-none f [] i e = refl
row-none f (l ∷ ls) zero e = rw e
row-none f (l ∷ ls) (suc i) e = row-none (λ j. f (suc j)) ls i e

pub row-past : (f : ℕ → List Call) (ls : List Line) (i : ℕ) → length ls ≤ i → get_or (map entries (row_after f ls)) i [] ≡ []
row-past f ls i h = get_or-eq_default (map entries (row_after f ls)) [] (omega (arith, entries-length f ls))
