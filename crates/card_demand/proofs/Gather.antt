-- What waits, place by place, as ticks are gathered and a notice goes.
use mathlib.Core.Path.{◌≡◌, refl, sym, ap}
use mathlib.Core.Bool.{Bool, true, cond, ◌||◌, or-false}
use mathlib.Core.List.{List, [], ◌∷◌}
use mathlib.Core.Logic.{⊎_elim}
use Prim.Native.Nat.{ℕ, zero, suc, ◌+◌, ◌≤◌, ◌<◌}
use native.Mathlib.Omega.{arith}
use lib.Dec.{eqb}
use Rattle.std.proofs.lemmas.Bool.{cases_lt}
use lib.ListN.{length, get_or, set, replicate, length-replicate, get_or-replicate, get_or-eq_default}
use lib.Seq.{get_or-set_same, get_or-set_other}
use Rattle.answers.specs.Fronts.{silent}
use Rattle.answers.specs.declared.Tick.{Tick}
use Rattle.state.specs.Rules.{one_more}
use Rattle.dispatcher.specs.Dispatch.{nothing, tells, gathered, gather_all, waits_in}
use Rattle.dispatcher.specs.declared.Waiting.{Waiting}
use Rattle.card_demand.specs.Reading.{one_if, tariff_done, burst_done, reported, marked, telling_of}

pub gathered-silent : (w : Waiting) → gathered w silent ≡ w
gathered-silent w = rw (or-false w.tariff, or-false w.burst)

pub gather-length : (ws : List Waiting) (ts : List Tick) → length (gather_all ws ts) ≡ length ws
unfolding gather_all
gather-length [] ts = refl
gather-length (w ∷ ws) [] = refl
gather-length (w ∷ ws) (t ∷ ts) = ap suc (gather-length ws ts)

pub gather-at : (ws : List Waiting) (ts : List Tick) (i : ℕ) → (length ws ≤ i → get_or ts i silent ≡ silent) →
    waits_in (gather_all ws ts) i ≡ gathered (waits_in ws i) (get_or ts i silent)
unfolding gather_all
gather-at [] ts i h = rw (h (omega arith))
gather-at (w ∷ ws) [] i h = sym (gathered-silent (waits_in (w ∷ ws) i))
gather-at (w ∷ ws) (t ∷ ts) zero h = refl
gather-at (w ∷ ws) (t ∷ ts) (suc i) h = gather-at ws ts i (λ l. h (omega arith))

pub cleared_at : (ws : List Waiting) (i j : ℕ) → j < length ws → waits_in (set ws j nothing) i ≡ cond (eqb i j) nothing (waits_in ws i)
cleared_at ws i j l = grind (arith, get_or-set_same, get_or-set_other)

pub fresh_at : (n i : ℕ) → waits_in (replicate n nothing) i ≡ nothing
fresh_at n i = ⊎_elim (get_or-replicate n i nothing nothing) (λ l. get_or-eq_default (replicate n nothing) nothing (omega (arith, length-replicate n nothing))) (cases_lt i n)

-- ---- marks and counts
mark : (a : ℕ) (x : Bool) → (marked a || x) ≡ marked (one_if x a)
mark a x = grind arith

count : (x : Bool) (r : ℕ) → (x ≡ true → r < 4294967295) → cond x (one_more r) r ≡ one_if x r
count x r h = grind arith

pub gathered-telling : (n : (Tick → Bool) → ℕ) (t : Tick) → (t.report ≡ true → n reported < 4294967295) →
    gathered (telling_of n) t ≡ telling_of (λ f. one_if (f t) (n f))
gathered-telling n t h =
    λ i. record { tariff = mark (n tariff_done) t.tariff i; burst = mark (n burst_done) t.burst i; reports = count t.report (n reported) h i }

-- ---- something to tell: more of each leaves something to tell
pub tells_more : (n m : (Tick → Bool) → ℕ) → ((f : Tick → Bool) → n f ≤ m f) → tells (telling_of n) ≡ true → tells (telling_of m) ≡ true
tells_more n m h t = grind (arith, h tariff_done, h burst_done, h reported)

-- a report in each tick at most, and none left where there is nothing to tell
pub few-step : (w : Waiting) (b : Bool) → tells w ≡ b → (u : ℕ) → w.reports ≤ u + 1 → w.reports ≤ cond b (u + 1) 0
few-step w b e u h = grind arith
