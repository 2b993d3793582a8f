-- What bytes read as, by the grammar.
use Prim.Native.Nat.{ℕ}
use mathlib.Core.Bool.{Bool, true, false, cond, true≢false as no}
use mathlib.Core.List.{List}
use mathlib.Core.Path.{◌≡◌, refl, sym, ap, ◌∙◌}
use Rattle.grammar.specs.Grammar.{Text, Says}
use Rattle.grammar.specs.Reader.{Scan, fresh, gap, in_sg, in_ka, in_name, in_number, scans, Found, found, missing, text_in, text_of}
use Rattle.grammar.specs.Reader.{nothing, begun, to_signal, to_name, named, to_item, item_named, to_value, item_read, to_number, number_read, signal_read, whole, wrong}
use Rattle.grammar.specs.Meaning.{Reading, unreadable, senseless, descriptor, meaning_of, reading_in, reading_of, is_senseless, given_by, has, values_of, tariff_by, lists_by, burst_by}
use Rattle.phase_lists.specs.Lists.{Lists}
use Rattle.descriptor.specs.declared.TariffPart.{TariffPart}
use Rattle.descriptor.specs.declared.BurstPart.{BurstPart}
use Rattle.grammar.specs.Claims.{Reads}
use Rattle.grammar.proofs.Complete.{complete, unique}
use Rattle.grammar.proofs.Sound.{sound}

-- a text is found
pub says-found : {l : List ℕ} (t : Text) → Says l t → text_of l ≡ found t
unfolding text_of
says-found t h = rw (complete t h)

not_found : {t : Text} → missing ≡ found t → ⊥
not_found e = no (ap (λ (f : Found). elim f [ found v ↦ false | missing ↦ true ]) e)

found-scan : (s : Scan) (t : Text) → text_in s ≡ found t → s ≡ gap (whole t)
found-scan (gap (whole u)) t e = ap (λ (f : Found). elim f [ found v ↦ gap (whole v) | missing ↦ fresh ]) e
found-scan fresh t e = absurd (not_found e)
found-scan (in_sg r) t e = absurd (not_found e)
found-scan (in_ka r) t e = absurd (not_found e)
found-scan (in_name w r) t e = absurd (not_found e)
found-scan (in_number n w r) t e = absurd (not_found e)
found-scan (gap nothing) t e = absurd (not_found e)
found-scan (gap begun) t e = absurd (not_found e)
found-scan (gap (to_signal ss)) t e = absurd (not_found e)
found-scan (gap (to_name ss)) t e = absurd (not_found e)
found-scan (gap (named ss n)) t e = absurd (not_found e)
found-scan (gap (to_item ss n is)) t e = absurd (not_found e)
found-scan (gap (item_named ss n is m)) t e = absurd (not_found e)
found-scan (gap (to_value ss n is m)) t e = absurd (not_found e)
found-scan (gap (item_read ss n is i)) t e = absurd (not_found e)
found-scan (gap (to_number ss n is m ds)) t e = absurd (not_found e)
found-scan (gap (number_read ss n is m ds d)) t e = absurd (not_found e)
found-scan (gap (signal_read ss s)) t e = absurd (not_found e)
found-scan (gap wrong) t e = absurd (not_found e)

-- what is found is a text
pub found-says : {l : List ℕ} (t : Text) → text_of l ≡ found t → Says l t
unfolding text_of
found-says {l} t e = sound t l (found-scan (scans fresh l) t e)

-- bytes that say t read as what t asks for
pub reads-text : {l : List ℕ} (t : Text) → Says l t → reading_of l ≡ meaning_of t
unfolding reading_of
reads-text t h = ap reading_in (says-found t h)

-- bytes that are no text are unreadable
pub reads_none : (l : List ℕ) → ((t : Text) → Says l t → ⊥) → reading_of l ≡ unreadable
unfolding reading_of
reads_none l h = at (text_of l) (λ t e. h t (found-says t e))
  where
    at : (f : Found) → ((t : Text) → f ≡ found t → ⊥) → reading_in f ≡ unreadable
    at (found t) k = absurd (k t refl)
    at missing k = refl

abbrev is_unreadable : Reading → Bool
is_unreadable unreadable = true
is_unreadable senseless = false
is_unreadable (descriptor t ls b) = false

reads_something : (t : Text) → is_unreadable (meaning_of t) ≡ false
unfolding meaning_of
reads_something t =
    let gs = given_by t in
    at (is_senseless gs) (tariff_by (has gs) (values_of gs)) (lists_by (values_of gs)) (burst_by (has gs) (values_of gs))
  where
    at : (w : Bool) (t : TariffPart) (ls : Lists) (b : BurstPart) → is_unreadable (cond w senseless (descriptor t ls b)) ≡ false
    at true t ls b = refl
    at false t ls b = refl

-- and only those
pub unreadable-none : (l : List ℕ) → reading_of l ≡ unreadable → (t : Text) → Says l t → ⊥
unreadable-none l e t h = no (ap is_unreadable (sym e ∙ reads-text t h) ∙ reads_something t)

-- THE CLAIM
pub reads : (bytes : List ℕ) → Reads bytes
reads bytes =
    record {
      unique = λ t u h k. unique h k;
      told = λ t h. reads-text t h;
      refused = reads_none bytes;
      only = unreadable-none bytes;
    }
