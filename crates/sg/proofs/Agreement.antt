-- The reader answers what a text asks for: its refusal, or its parts, with the first nine values of each phase list.
use Rattle.std.specs.Prelude.{Result, Ok, Err}
use Prim.Native.Nat.{ℕ, ◌<◌}
use native.Mathlib.Omega.{arith}
use mathlib.Core.Bool.{Bool, true, false, cond, ◌||◌}
use mathlib.Core.List.{List, [], ◌∷◌}
use mathlib.Core.Path.{◌≡◌, refl, ap, ◌∙◌}
use lib.ListN.{take}
use Rattle.phase_lists.specs.Lists.{first_places}
use Rattle.descriptor.specs.declared.Refusal.TheVariants.{Grammar, Content}
use Rattle.descriptor.specs.declared.Refusal.{Refusal}
use Rattle.grammar.specs.Grammar.{Row}
use Rattle.grammar.specs.Reader.{Found, found, missing, text_of}
use Rattle.grammar.specs.Meaning.{Given, has, values_of, any_faulty, is_incomplete, is_senseless, first_or, tariff_by, burst_by, lists_by}
use Rattle.grammar.specs.Meaning.{Reading as Meant, unreadable, senseless, descriptor, meaning_of, reading_in, reading_of}
use Rattle.grammar.proofs.Readings.{found-says}
use Rattle.notes.specs.Noting.{has_in, values_at}
use Rattle.notes.specs.declared.Notes.{Notes}
use Rattle.sg.specs.Readings.{text_notes, read_in, read_of}
use Rattle.outcomes.specs.Outcomes.{lists_of_reading, outcome_of}
use Rattle.outcomes.specs.declared.Reading.{Reading}
use Rattle.sg.proofs.Told.{text_on, Tells, text-told}
use Rattle.sg.proofs.Words.{given-named}

-- what the reader answers is what was meant, with nine values at most of each list
abbrev pub Agrees : Meant → Result Reading Refusal → Type 0
Agrees unreadable r = r ≡ Err Grammar
Agrees senseless r = r ≡ Err Content
Agrees (descriptor t ls b) (Err e) = ⊥
Agrees (descriptor t ls b) (Ok r) = (r.tariff ≡ t) × (r.burst ≡ b) × (lists_of_reading r ≡ first_places ls 9)

first-kept : (d : ℕ) (l : List ℕ) → first_or d (take 9 l) ≡ first_or d l
first-kept d [] = refl
first-kept d (v ∷ l) = refl

module _ (gs : Row Given) (n : Notes) (h : Tells gs n) (sound : any_faulty gs ≡ false) where
  there : (s : ℕ) → s < 17 → has_in n.values s ≡ has gs s
  there s low = h.told-has sound s low

  kept : (s : ℕ) → s < 17 → values_at n.values s ≡ take 9 (values_of gs s)
  kept s low = (h.told-values sound s low).keeps

  first-told : (d s : ℕ) → s < 17 → first_or d (values_at n.values s) ≡ first_or d (values_of gs s)
  first-told d s low = ap (first_or d) (kept s low) ∙ first-kept d (values_of gs s)

  incomplete_told : is_incomplete (has_in n.values) ≡ is_incomplete (has gs)
  incomplete_told =
      rw (there 0 (omega arith), there 2 (omega arith), there 8 (omega arith), there 10 (omega arith), there 11 (omega arith), there 12 (omega arith), there 13 (omega arith), there 14 (omega arith), there 15 (omega arith), there 16 (omega arith))

  tariff-told : tariff_by (has_in n.values) (values_at n.values) ≡ tariff_by (has gs) (values_of gs)
  tariff-told =
      rw (there 0 (omega arith), there 1 (omega arith), there 8 (omega arith), there 9 (omega arith), first-told 0 2 (omega arith), first-told 0 3 (omega arith))

  burst-told : burst_by (has_in n.values) (values_at n.values) ≡ burst_by (has gs) (values_of gs)
  burst-told = rw (there 4 (omega arith), there 5 (omega arith), first-told 1 6 (omega arith), first-told 1 7 (omega arith))

  lists_told : lists_by (values_at n.values) ≡ first_places (lists_by (values_of gs)) 9
  lists_told =
      rw (kept 10 (omega arith), kept 11 (omega arith), kept 12 (omega arith), kept 13 (omega arith), kept 14 (omega arith), kept 15 (omega arith), kept 16 (omega arith))

agrees-told : (gs : Row Given) (n : Notes) → Tells gs n
    → Agrees (cond (is_senseless gs) senseless (descriptor (tariff_by (has gs) (values_of gs)) (lists_by (values_of gs)) (burst_by (has gs) (values_of gs)))) (outcome_of n)
unfolding outcome_of is_senseless
agrees-told gs n h = rw h.told-bad (faulty (any_faulty gs) refl)
  where
    meant : Meant
    meant = descriptor (tariff_by (has gs) (values_of gs)) (lists_by (values_of gs)) (burst_by (has gs) (values_of gs))

    answer : Result Reading Refusal
    answer =
        Ok (record {
          tariff = tariff_by (has_in n.values) (values_at n.values);
          burst = burst_by (has_in n.values) (values_at n.values);
          values = n.values;
        })

    complete : any_faulty gs ≡ false → (w : Bool) → Agrees (cond w senseless meant) (cond w (Err Content) answer)
    complete e true = refl
    complete e false = (tariff-told gs n h e, burst-told gs n h e, lists_told gs n h e)

    faulty : (w : Bool) → any_faulty gs ≡ w
        → Agrees (cond (w || is_incomplete (has gs)) senseless meant) (cond (w || is_incomplete (has_in n.values)) (Err Content) answer)
    faulty true e = refl
    faulty false e = rw (incomplete_told gs n h e) (complete e (is_incomplete (has gs)))

-- THE THEOREM
pub agrees : (l : List ℕ) → Agrees (reading_of l) (read_of l)
unfolding reading_of read_of meaning_of
agrees l = at (text_of l) refl
  where
    at : (f : Found) → text_of l ≡ f → Agrees (reading_in f) (read_in f)
    at missing e = refl
    at (found t) e =
        rw (← given-named t (found-says t e)) (agrees-told (text_on t) (text_notes t) (text-told t))
