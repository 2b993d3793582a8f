-- The values that are stored: each slot holds the first nine of those that were noted for it.
use Prim.Native.Nat.{ℕ, ◌+◌, ◌<◌, min}
use native.Mathlib.Omega.{arith}
use mathlib.Core.Bool.{Bool, true, false, cond, ◌||◌, true≢false as no, or-false, or_assoc}
use mathlib.Core.List.{List, [], ◌∷◌, ◌++◌, append-nil, append_assoc}
use mathlib.Core.Path.{◌≡◌, refl, sym, ap, subst, ◌∙◌}
use borrow.Author.Tests.{lt-ltb, ltb-true, ltb-false}
use Rattle.std.proofs.lemmas.Bool.{or_parts}
use lib.Dec.{ltb}
use lib.ListN.{length, set, take, length-set, length-append, length-take}
use lib.Seq.{get_or-set_same, get_or-set_other, take_all, take-append-le}
use Rattle.grammar.specs.Grammar.{Row, none, ◌▹◌}
use Rattle.grammar.specs.Meaning.{listed, any_too_large, values_by}
use Rattle.notes.specs.Noting.{no_values, pushed, values_at, has_in, stored_of, value_of, marked_of, item_slot, signal_slot}
use Rattle.notes.specs.declared.Notes.{Notes}
use Rattle.scanner.specs.Codes.{number_of, code_of}
use Rattle.sg.specs.Readings.{numbers_notes}

-- names by their codes, as the code has them
abbrev pub item_coded : ℕ → List ℕ → ℕ
item_coded s m = item_slot s (code_of m)

abbrev pub signal_coded : List ℕ → ℕ
signal_coded n = signal_slot (code_of n)

abbrev pub numbers : Row (List ℕ) → Row ℕ
numbers ds = values_by item_coded signal_coded number_of ds

-- what is noted of values, one after the other
abbrev pub values_notes : Notes → Row ℕ → Notes
values_notes n none = n
values_notes n (vs ▹ v) = value_of (values_notes n vs) v

pub numbers-noted : (n : Notes) (ds : Row (List ℕ)) → numbers_notes n ds ≡ values_notes n (numbers ds)
numbers-noted n none = refl
numbers-noted n (ds ▹ d) = rw (numbers-noted n ds)

-- m is n with values of its slot noted, of which w says whether one was wrong
pub record Noted (n m : Notes) (w : Bool) : Type 0 where
  pub bad-is : m.bad ≡ n.bad || w
  pub signal-is : m.signal ≡ n.signal
  pub slot_is : m.slot ≡ n.slot
  pub size : length m.values ≡ 18
  pub here : w ≡ false → has_in m.values n.slot ≡ true
  pub others : (s : ℕ) → (s ≡ n.slot → ⊥) → has_in m.values s ≡ has_in n.values s

-- other values at the slot
abbrev put_of : Notes → List ℕ → Notes
put_of n x = record { bad = n.bad; signal = n.signal; slot = n.slot; values = set n.values n.slot x }

pushed-some : (vs : List ℕ) (v : ℕ) → 0 < length (pushed vs v)
pushed-some vs v = at (ltb (length vs) 9) refl
  where
    at : (t : Bool) → ltb (length vs) 9 ≡ t → 0 < length (cond t (vs ++ (v ∷ [])) vs)
    at true e = let o : length (vs ++ (v ∷ [])) ≡ length vs + 1 = length-append vs (v ∷ []) in omega arith
    at false e = let h = ltb-false (length vs) 9 e in omega arith

module _ (n : Notes) (v : ℕ) (sized : length n.values ≡ 18) (low : n.slot < 18) where
  put_noted : (x : List ℕ) → 0 < length x → Noted n (put_of n x) false
  unfolding has_in
  put_noted x some =
      record {
        bad-is = sym (or-false n.bad);
        signal-is = refl;
        slot_is = refl;
        size = length-set n.values n.slot x ∙ sized;
        here = λ e. rw (lt-ltb n.slot 18 low, get_or-set_same n.values n.slot x no_values (omega arith)) (lt-ltb 0 (length x) some);
        others = λ s ne. rw (get_or-set_other n.values n.slot s x no_values (λ q. ne q));
      }

  stored-noted : Noted n (stored_of n v) false
  stored-noted =
      rw (lt-ltb n.slot 18 low) (put_noted (pushed (values_at n.values n.slot) v) (pushed-some (values_at n.values n.slot) v))

  wrong-noted : Noted n (marked_of n true) true
  wrong-noted =
      record {
        bad-is = refl;
        signal-is = refl;
        slot_is = refl;
        size = sized;
        here = λ e. absurd (no e);
        others = λ s ne. refl;
      }

  value-noted : Noted n (value_of n v) (ltb 4_294_967_295 v)
  value-noted = at (ltb 4_294_967_295 v)
    where
      at : (t : Bool) → Noted n (cond t (marked_of n true) (stored_of n v)) t
      at true = wrong-noted
      at false = stored-noted

-- more values
noted_more : {n m k : Notes} {w u : Bool} → Noted n m w → Noted m k u → Noted n k (w || u)
noted_more {n} {m} {k} {w} {u} a b =
    record {
      bad-is = b.bad-is ∙ ap (λ (t : Bool). t || u) a.bad-is ∙ or_assoc n.bad w u;
      signal-is = b.signal-is ∙ a.signal-is;
      slot_is = b.slot_is ∙ a.slot_is;
      size = b.size;
      here = λ e. rw (← a.slot_is) (b.here (or_parts w u e).1);
      others = λ s ne. b.others s (λ q. ne (q ∙ a.slot_is)) ∙ a.others s ne;
    }

pub values-noted : (n : Notes) (vs : Row ℕ) (v : ℕ) → length n.values ≡ 18 → n.slot < 18
    → Noted n (value_of (values_notes n vs) v) (any_too_large (vs ▹ v))
values-noted n none v sized low = value-noted n v sized low
values-noted n (vs ▹ u) v sized low =
    let a = values-noted n vs u sized low in
    let m = value_of (values_notes n vs) u in
    let e = a.slot_is in
    noted_more a (value-noted m v a.size (rw e low))

-- THE VALUES: each slot holds the first nine values of its name

pushed-keeps : (vs l : List ℕ) (v : ℕ) → vs ≡ take 9 l → pushed vs v ≡ take 9 (l ++ (v ∷ []))
pushed-keeps vs l v h = at (ltb (length vs) 9) refl
  where
    held : length vs ≡ min 9 (length l)
    held = ap (λ (x : List ℕ). length x) h ∙ length-take 9 l

    longer : length (l ++ (v ∷ [])) ≡ length l + 1
    longer = length-append l (v ∷ [])

    at : (t : Bool) → ltb (length vs) 9 ≡ t → cond t (vs ++ (v ∷ [])) vs ≡ take 9 (l ++ (v ∷ []))
    at true e =
        let less = ltb-true (length vs) 9 e in
        let c = held in
        let o = longer in
        ap (λ (x : List ℕ). x ++ (v ∷ [])) (h ∙ take_all 9 l (omega arith)) ∙ sym (take_all 9 (l ++ (v ∷ [])) (omega arith))
    at false e =
        let more = ltb-false (length vs) 9 e in
        let c = held in
        h ∙ sym (take-append-le 9 l (v ∷ []) (omega arith))

-- slot s holds the first nine of l
pub record Holds (n : Notes) (s : ℕ) (l : List ℕ) : Type 0 where
  pub rows : length n.values ≡ 18
  pub keeps : values_at n.values s ≡ take 9 l

module _ (n : Notes) (v : ℕ) (low : n.slot < 18) where
  stored-own : (l : List ℕ) → Holds n n.slot l → Holds (stored_of n v) n.slot (l ++ (v ∷ []))
  stored-own l h =
      let x = pushed (values_at n.values n.slot) v in
      let r = h.rows in
      rw (lt-ltb n.slot 18 low)
      (record {
        rows = length-set n.values n.slot x ∙ r;
        keeps = get_or-set_same n.values n.slot x no_values (omega arith) ∙ pushed-keeps (values_at n.values n.slot) l v h.keeps;
      })

  stored_other : (s : ℕ) (l : List ℕ) → Holds n s l → (s ≡ n.slot → ⊥) → Holds (stored_of n v) s l
  stored_other s l h ne =
      let x = pushed (values_at n.values n.slot) v in
      rw (lt-ltb n.slot 18 low)
      (record {
        rows = length-set n.values n.slot x ∙ h.rows;
        keeps = get_or-set_other n.values n.slot s x no_values (λ q. ne q) ∙ h.keeps;
      })

module _ (n : Notes) (v : ℕ) where
  value-slot : (value_of n v).slot ≡ n.slot
  value-slot = at (ltb 4_294_967_295 v) (ltb n.slot 18)
    where
      at : (a b : Bool) → (cond a (marked_of n true) (cond b (put_of n (pushed (values_at n.values n.slot) v)) n)).slot ≡ n.slot
      at true b = refl
      at false true = refl
      at false false = refl

  value-other : (s : ℕ) (l : List ℕ) → Holds n s l → n.slot < 18 → (s ≡ n.slot → ⊥) → Holds (value_of n v) s l
  value-other s l h low ne = at (ltb 4_294_967_295 v)
    where
      at : (t : Bool) → Holds (cond t (marked_of n true) (stored_of n v)) s l
      at true = record { rows = h.rows; keeps = h.keeps }
      at false = stored_other n v low s l h ne

values-slot : (n : Notes) (vs : Row ℕ) → (values_notes n vs).slot ≡ n.slot
values-slot n none = refl
values-slot n (vs ▹ v) = value-slot (values_notes n vs) v ∙ values-slot n vs

pub values_other : (n : Notes) (vs : Row ℕ) (s : ℕ) (l : List ℕ) → Holds n s l → n.slot < 18 → (s ≡ n.slot → ⊥) → Holds (values_notes n vs) s l
values_other n none s l h low ne = h
values_other n (vs ▹ v) s l h low ne =
    let e = values-slot n vs in
    value-other (values_notes n vs) v s l (values_other n vs s l h low ne) (rw e low) (λ q. ne (q ∙ e))

value-own : (n : Notes) (s : ℕ) (l : List ℕ) (v : ℕ) → n.slot ≡ s → s < 18 → ltb 4_294_967_295 v ≡ false → Holds n s l → Holds (value_of n v) s (l ++ (v ∷ []))
value-own n s l v e low fit h = at s e low h
  where
    at : (s : ℕ) → n.slot ≡ s → s < 18 → Holds n s l → Holds (value_of n v) s (l ++ (v ∷ []))
    at s e low h =
        rw (fit, ← e) (stored-own n v (subst (λ (k : ℕ). k < 18) (sym e) low) l (subst (λ (k : ℕ). Holds n k l) (sym e) h))

pub values-own : (n : Notes) (vs : Row ℕ) (s : ℕ) (l : List ℕ) → n.slot ≡ s → s < 18 → any_too_large vs ≡ false → Holds n s l
    → Holds (values_notes n vs) s (l ++ listed vs)
values-own n none s l e low fit h = rw append-nil h
values-own n (vs ▹ v) s l e low fit h =
    let fits = or_parts (any_too_large vs) (ltb 4_294_967_295 v) fit in
    let a = values-own n vs s l e low fits.0 h in
    rw (← append_assoc l (listed vs) (v ∷ [])) (value-own (values_notes n vs) s (l ++ listed vs) v (values-slot n vs ∙ e) low fits.1 a)
