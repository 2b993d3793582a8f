-- Laws of the rate command on one line, and on the lines of a row.
use mathlib.Core.Path.{◌≡◌, refl, sym, ap, ◌∙◌}
use mathlib.Core.Bool.{Bool, true, false}
use mathlib.Core.List.{List, [], ◌∷◌}
use mathlib.Core.Logic.{◌≢◌}
use Prim.Native.Nat.{ℕ, zero, suc, ◌<◌}
use native.Mathlib.Nat.{not-suc-le-zero, le_of_suc-le-suc}
use native.Mathlib.Omega.{arith}
use lib.ListN.{length, get_or, set}
use Rattle.phase_lists.specs.Lists.{no_lists}
use Rattle.phase_lists.specs.Tables.{no_table}
use Rattle.descriptor.specs.Rulings.{descriptor_ruling}
use Rattle.descriptor.specs.Names.{Ruling}
use Rattle.std.specs.Prelude.{Ok, Err, is_ok, if◌then◌else◌}
use Rattle.descriptor.specs.declared.TariffPart.TheVariants.{Rate}
use Rattle.descriptor.specs.declared.BurstPart.TheVariants.{Keep}
use Rattle.tariff.specs.Tariffs.{is_endless}
use Rattle.burst.specs.Bursts.{is_running}
use Rattle.state.specs.Rules.{one_more}
use Rattle.state.specs.States.{with_rate}
use Rattle.std.specs.Result.{result_and}
use Rattle.line.specs.Lines.{Verdict, with_serial, with_state, tariff_changed, burst_changed, answered_by}
use Rattle.line.specs.declared.Line.{Line}
use Rattle.line.specs.declared.Answered.{Answered}
use Rattle.line.proofs.Described.{describe-is}
use Rattle.group.specs.Groups.{rate_of, rated_row}

-- ---- one line
module _ (l : Line) (P : ℕ) where
  abbrev ruled : Ruling
  ruled = descriptor_ruling l.spacing (is_endless l.state.timed.tariff) (is_running l.state.burst) (Rate P) no_table Keep

  abbrev rated : Line
  rated = with_state l (with_rate l.state P)

  rate-is : rate_of l P ≡ answered_by ruled l rated 0
  unfolding tariff_changed burst_changed
  rate-is = sym (describe-is l (Rate P) no_lists Keep)

  -- what it answers is what the table of refusals makes of it
  pub rate-verdict : result_and ruled (Ok 0) ≡ (rate_of l P).verdict
  rate-verdict = by ruled ∙ sym (ap (λ (a : Answered). a.verdict) rate-is)
    where
      by : (u : Ruling) → result_and u (Ok 0) ≡ (answered_by u l rated 0).verdict
      by (Ok tt) = refl
      by (Err r) = refl

  -- where it accepts, the line after it has the rate, and its serial is one more
  pub rate-taken : is_ok (rate_of l P).verdict ≡ true → (rate_of l P).line ≡ with_serial rated (one_more l.serial)
  rate-taken e = ap (λ (a : Answered). a.line) rate-is ∙ by ruled (sym (ap (λ (a : Answered). is_ok a.verdict) rate-is) ∙ e)
    where
      by : (u : Ruling) → is_ok (answered_by u l rated 0).verdict ≡ true → (answered_by u l rated 0).line ≡ with_serial rated (one_more l.serial)
      by (Ok tt) q = refl
      by (Err r) q = absurd cc

  -- where it refuses, the line is as it was
  pub rate-kept : is_ok (rate_of l P).verdict ≡ false → (rate_of l P).line ≡ l
  rate-kept e = ap (λ (a : Answered). a.line) rate-is ∙ by ruled (sym (ap (λ (a : Answered). is_ok a.verdict) rate-is) ∙ e)
    where
      by : (u : Ruling) → is_ok (answered_by u l rated 0).verdict ≡ false → (answered_by u l rated 0).line ≡ l
      by (Ok tt) q = absurd cc
      by (Err r) q = refl

  -- where it accepts, no burst pulse is cancelled
  pub rate-cancels : (k : ℕ) → (rate_of l P).verdict ≡ Ok k → (rate_of l P).verdict ≡ Ok 0
  rate-cancels k e = ap (λ (a : Answered). a.verdict) rate-is ∙ by ruled (sym (ap (λ (a : Answered). a.verdict) rate-is) ∙ e)
    where
      by : (u : Ruling) → (answered_by u l rated 0).verdict ≡ Ok k → (answered_by u l rated 0).verdict ≡ Ok 0
      by (Ok tt) q = refl
      by (Err r) q = absurd (let o : ◌≡◌ {A = ℕ} 0 1 = cc in omega arith)

  pub rate-plain : result_and (rate_of l P).verdict (Ok 0) ≡ (rate_of l P).verdict
  rate-plain = by (rate_of l P).verdict refl
    where
      by : (v : Verdict) → (rate_of l P).verdict ≡ v → result_and v (Ok 0) ≡ v
      by (Ok k) e = sym (sym e ∙ rate-cancels k e)
      by (Err r) e = refl

-- ---- the row: the lines have the rate where f holds of their places
pub rated_none : (f : ℕ → Bool) (P : ℕ) (ls : List Line) → ((i : ℕ) → f i ≡ false) → rated_row f P ls ≡ ls
unfolding rated_row
rated_none f P [] e = refl
rated_none f P (k ∷ ls) e = rw (e 0) (ap (λ (zs : List Line). k ∷ zs) (rated_none (λ i. f (suc i)) P ls (λ i. e (suc i))))

-- only the places of the row count
pub rated_alike : (f g : ℕ → Bool) (P : ℕ) (ls : List Line) → ((i : ℕ) → i < length ls → f i ≡ g i) → rated_row f P ls ≡ rated_row g P ls
unfolding rated_row
rated_alike f g P [] e = refl
rated_alike f g P (k ∷ ls) e =
    rw (e 0 (omega arith)) (ap (λ (zs : List Line). (if g 0 then (rate_of k P).line else k) ∷ zs) (rated_alike (λ i. f (suc i)) (λ i. g (suc i)) P ls (λ i l. e (suc i) (omega (arith, l)))))

-- one line more, where o stands for what is read past the end
pub rated_more : (f g : ℕ → Bool) (P p : ℕ) (ls : List Line) (o : Line) → f p ≡ false → g p ≡ true → ((i : ℕ) → i ≢ p → g i ≡ f i) → p < length ls →
    set (rated_row f P ls) p (rate_of (get_or (rated_row f P ls) p o) P).line ≡ rated_row g P ls
unfolding rated_row
rated_more f g P p [] o a b e l = absurd (not-suc-le-zero l)
rated_more f g P zero (k ∷ ls) o a b e l =
    rw (a, b) (ap (λ (zs : List Line). (rate_of k P).line ∷ zs) (rated_alike (λ i. f (suc i)) (λ i. g (suc i)) P ls (λ i m. sym (e (suc i) (λ q. omega (arith, q))))))
rated_more f g P (suc p) (k ∷ ls) o a b e l =
    rw (e 0 (λ q. omega (arith, q)))
    (ap (λ (zs : List Line). (if f 0 then (rate_of k P).line else k) ∷ zs)
    (rated_more (λ i. f (suc i)) (λ i. g (suc i)) P p ls o a b (λ i n. e (suc i) (λ q. n (omega (arith, q)))) (le_of_suc-le-suc l)))
