-- A rate command for a group of lines is taken by all of them or by none, and what each would answer is what the paper has it answer.
use mathlib.Core.Path.{◌≡◌, refl, sym, ap, ◌∙◌}
use mathlib.Core.Bool.{Bool, true, false, cond, ◌||◌, true≢false}
use mathlib.Core.List.{List, [], ◌∷◌, ◌++◌, map}
use mathlib.Mathlib.Data.Bool.Basic.{or-eq-false-eq-eq-false-and-eq-false as or-none}
use Prim.Native.Nat.{ℕ, min, ◌<◌}
use native.Mathlib.Omega.{arith}
use borrow.Author.Tests.{eqb-true, leb-false}
use lib.Dec.{leb, eqb}
use lib.ListN.{length, get_or, take, length-take}
use lib.Seq.{get_or-take}
use Rattle.descriptor.specs.Refusals.{refusal_number}
use Rattle.descriptor.specs.declared.Refusal.{Refusal}
use Rattle.descriptor.specs.declared.Refusal.TheVariants.{Row, Place}
use Rattle.line.specs.Lines.{Verdict, blank_line}
use Rattle.line.specs.declared.Line.{Line}
use Rattle.std.specs.Prelude.{Ok, Err}
use Rattle.std.specs.Result.{result_and}
use Rattle.dispatcher.specs.Dispatch.{bad_row}
use Rattle.group.specs.Groups.{rate_of, named, outside, first_refusal, verdict_of}
use Rattle.group.proofs.RateLaws.{rate-cancels}
use Rattle.demand.specs.Calls.{Answer, accepted, Entry}
use Rattle.demand.specs.Machine.{verdict_told, step, entry_for, Past, past, after_calls, entries, history}
use Rattle.demand.proofs.Demand.{demand3, calls_append}
use Rattle.card_demand.specs.Card.{group, CardReply, done, refuses, CardEntry, card_entry, calls_at, rate, row_after, Making, made}
use Rattle.card_demand.specs.Reading.{line_calls, line_history}
use Rattle.card_demand.specs.Claims.{no_making, AllSound, refusal_else, first_refused, rate_reply, TookRate, GotNone, answered_after, GroupDemand}
use Rattle.card_demand.specs.Lending.{group_reply}
use Rattle.card_demand.proofs.Rows.{row_at, row-none}

-- ---- places of a list
-- a place named is one of the list
module _ (A : ℕ → Type 0) (i : ℕ) where
  named_in : (p : ℕ) (ps : List ℕ) → A p → (named ps i ≡ true → A i) → named (p ∷ ps) i ≡ true → A i
  unfolding named
  named_in p ps a rest t = by (eqb i p) refl t
    where
      by : (b : Bool) → eqb i p ≡ b → (b || named ps i) ≡ true → A i
      by true q t = rw (eqb-true i p q) a
      by false q t = rest t

inside : (ps : List ℕ) (n : ℕ) → outside ps n ≡ false → (i : ℕ) → named ps i ≡ true → i < n
unfolding outside named
inside [] n e i t = absurd (true≢false (sym t))
inside (p ∷ ps) n e i t =
    let both = (or-none (leb n p) (outside ps n)).0 e in
    named_in (λ j. j < n) i p ps (leb-false n p both.0) (inside ps n both.1 i) t

-- ---- the first refusal
refused_or : (v w : Verdict) (r : CardReply) → group_reply w ≡ r → group_reply (result_and v w) ≡ refusal_else (verdict_told v) r
refused_or (Ok k) w r e = e
refused_or (Err x) w r e = refl

-- by verdicts and by answers, where no place is outside
first-same : (n : ℕ) (f : ℕ → Verdict) (g : ℕ → Answer) → ((p : ℕ) → p < n → verdict_told (f p) ≡ g p) → (ps : List ℕ) → outside ps n ≡ false →
    group_reply (first_refusal f ps) ≡ first_refused g ps
unfolding outside first_refusal first_refused
first-same n f g same [] e = refl
first-same n f g same (p ∷ ps) e =
    let both = (or-none (leb n p) (outside ps n)).0 e in
    refused_or (f p) (first_refusal f ps) (first_refused g ps) (first-same n f g same ps both.1)
    ∙ ap (λ (a : Answer). refusal_else a (first_refused g ps)) (same p (leb-false n p both.0))

abbrev pub Accepts : Verdict → Type 0
Accepts v = (k : ℕ) × (v ≡ Ok k)

accepted-both : (v w : Verdict) → Accepts (result_and v w) → Accepts v × Accepts w
accepted-both (Ok k) w a = ((k, refl), a)
accepted-both (Err r) w a = absurd (let q = a.1 in let o : ◌≡◌ {A = ℕ} 0 1 = cc in omega arith)

all_accept : (f : ℕ → Verdict) (ps : List ℕ) → Accepts (first_refusal f ps) → (i : ℕ) → named ps i ≡ true → Accepts (f i)
unfolding first_refusal named
all_accept f [] a i t = absurd (true≢false (sym t))
all_accept f (p ∷ ps) a i t =
    let both = accepted-both (f p) (first_refusal f ps) a in
    named_in (λ j. Accepts (f j)) i p ps both.0 (all_accept f ps both.1 i) t

-- ---- an accepted group
pub record Clear (ls : List Line) (ps : List ℕ) (P : ℕ) : Type 0 where
  pub places : (i : ℕ) → named ps i ≡ true → i < length ls
  pub lines : (i : ℕ) → named ps i ≡ true → Accepts (rate_of (get_or ls i blank_line) P).verdict

pub clear : (ls : List Line) (ps : List ℕ) (P : ℕ) → Accepts (verdict_of ls ps P) → Clear ls ps P
unfolding verdict_of
clear ls ps P = by (bad_row (length ls)) (outside ps (length ls)) refl
  where
    f : ℕ → Verdict
    f p = (rate_of (get_or ls p blank_line) P).verdict

    by : (a b : Bool) → outside ps (length ls) ≡ b → Accepts (cond a (Err Row) (cond b (Err Place) (first_refusal f ps))) → Clear ls ps P
    by true b e a = absurd (let q = a.1 in let o : ◌≡◌ {A = ℕ} 0 1 = cc in omega arith)
    by false true e a = absurd (let q = a.1 in let o : ◌≡◌ {A = ℕ} 0 1 = cc in omega arith)
    by false false e a = record { places = inside ps (length ls) e; lines = all_accept f ps a }

-- ---- on a card with the lines ls after the history h
module _ (ms : List Making) (sound : AllSound ms) (h : List CardEntry) (ls : List Line) (size : length ls ≡ length ms)
    (lines : (i : ℕ) → i < length ms → past (line_history h i) (get_or ls i blank_line) ≡ after_calls (past [] (made (get_or ms i no_making))) (line_calls h i)) where
  -- what a line would answer to a rate command is what the paper has it answer
  would : (P p : ℕ) → p < length ms → verdict_told (rate_of (get_or ls p blank_line) P).verdict ≡ answered_after ms h p (rate P)
  unfolding history after_calls step
  would P p l = ((demand3 m.D m.G m.clock (sound p l).0 (sound p l).1 (line_calls h p ++ (rate P ∷ []))).follows [] (line_history h p) x ended).answer
    where
      m : Making
      m = get_or ms p no_making

      x : Entry
      x = let a = rate_of (get_or ls p blank_line) P in entry_for (rate P) (verdict_told a.verdict) a.line

      ended : history m.D m.G m.clock (line_calls h p ++ (rate P ∷ [])) ≡ x ∷ line_history h p
      ended =
          ap entries (calls_append (past [] (made m)) (line_calls h p) (rate P ∷ []))
          ∙ ap (λ (q : Past). entries (after_calls q (rate P ∷ []))) (sym (lines p l))

  module _ (m : ℕ) (ps : List ℕ) (P : ℕ) where
    abbrev n : ℕ
    n = min m (length ms)

    abbrev row : List Line
    row = take m ls

    abbrev e : CardReply → List (List Entry) → CardEntry
    e r rows = card_entry (group m ps P) r rows

    row-size : length row ≡ n
    row-size = length-take m ls ∙ ap (min m) size

    -- what the line at place p would answer
    abbrev told : ℕ → Answer
    told p = answered_after ms h p (rate P)

    told_is : (p : ℕ) → p < n → verdict_told (rate_of (get_or row p blank_line) P).verdict ≡ told p
    told_is p l = ap (λ (k : Line). verdict_told (rate_of k P).verdict) (get_or-take m ls p blank_line (omega arith)) ∙ would P p (omega arith)

    same-reply : group_reply (verdict_of row ps P) ≡ rate_reply n ps told
    unfolding verdict_of
    same-reply = rw row-size (by (bad_row n) (outside ps n) refl refl)
      where
        f : ℕ → Verdict
        f p = (rate_of (get_or row p blank_line) P).verdict

        by : (a b : Bool) → bad_row n ≡ a → outside ps n ≡ b → group_reply (cond (bad_row n) (Err Row) (cond (outside ps n) (Err Place) (first_refusal f ps))) ≡ rate_reply n ps told
        by true b r o = rw r
        by false true r o = rw (r, o)
        by false false r o = rw (r, o) (first-same n f told told_is ps o)

    pub group-refused : (r : Refusal) → verdict_of row ps P ≡ Err r → GroupDemand ms h (e (refuses (refusal_number r)) []) n ps P
    group-refused r v = record {
      reply = ap group_reply (sym v) ∙ same-reply;
      all = λ q. absurd (let o : ◌≡◌ {A = ℕ} 0 1 = cc in omega arith);
      others = λ i q. refl;
      none = λ number q i. refl;
    }

    abbrev rows : List (List Entry)
    rows = map entries (row_after (calls_at (group m ps P)) ls)

    took : Accepts (verdict_of row ps P) → (i : ℕ) → named ps i ≡ true → TookRate (e done rows) i P
    unfolding after_calls step
    took a i t =
        let c = clear row ps P a in
        let l = c.places i t in
        let y = rw (get_or-take m ls i blank_line (omega (arith, row-size))) at (c.lines i t) in (
          entry_for (rate P) (accepted 0) (rate_of (get_or ls i blank_line) P).line,
          ap entries (row_at (calls_at (group m ps P)) ls i (omega (arith, row-size, size))) ∙ rw (t, rate-cancels (get_or ls i blank_line) P y.0 y.1),
          refl,
          refl,
        )

    unnamed : (i : ℕ) → named ps i ≡ false → GotNone (e done rows) i
    unnamed i t = row-none (calls_at (group m ps P)) ls i (rw t)

    pub group-taken : (k : ℕ) → verdict_of row ps P ≡ Ok k → GroupDemand ms h (e done rows) n ps P
    group-taken k v = record {
      reply = ap group_reply (sym v) ∙ same-reply;
      all = λ q. took (k, v);
      others = unnamed;
      none = λ number q i. absurd (let o : ◌≡◌ {A = ℕ} 0 1 = cc in omega arith);
    }
