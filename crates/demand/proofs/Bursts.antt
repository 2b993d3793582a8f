-- A burst one tick on keeps the coupling: its completion, whether a pulse of it may start, and its next front.
use Rattle.std.specs.Prelude.{Option, Some}
use Rattle.std.specs.Option.{option_map}
use mathlib.Core.Path.{◌≡◌, refl, sym}
use mathlib.Core.Bool.{Bool, true, false, ◌&&◌, and-eq-true_iff, and-false}
use Prim.Native.Nat.{ℕ, zero, suc, ◌+◌, ◌-◌, min, max, ◌≤◌, ◌<◌}
use native.Mathlib.Decide.{ℕ_discrete}
use native.Mathlib.Omega.{arith}
use borrow.Author.Tests.{ltb-true, le-leb, lt-leb, lt-ltb, le-ltb, eq-eqb, ne_eqb}
use lib.Dec.{leb, ltb, eqb}
use Rattle.burst.specs.Bursts.{burst_with, held_more, completes_of, aged_of, any_due, begun_of, is_running, burst_owed}
use Rattle.burst.specs.declared.Burst.{Burst}
use Rattle.burst.specs.declared.Aged.{Aged}
use Rattle.demand.specs.History.{Last, never, at, passed, Started, started, one_begun, burst_completes, burst_ready, burst_runs, owed_of}
use Rattle.demand.proofs.Held.{held_since, Before, before_more, held_more_lem, held-passed, same_le}
use Rattle.demand.proofs.Coupled.{Config, BurstAt, none, runs, over}

module _ (D S : ℕ) (cfg : Config D S) (i : ℕ) where
  -- ---- a tick older
  abbrev AgedAt : Started → Aged → Type 0
  AgedAt b x = (x.complete ≡ burst_completes D b (i + 1)) × BurstAt D S (i + 1) b x.burst

  -- pulses are owed, so nothing completes
  still-owed : (n P k m : ℕ) (last : Last) → suc m + k ≡ n → burst_completes D (started n P k last) (i + 1) ≡ false
  still-owed n P k m never e = refl
  still-owed n P k m (at u) e = rw (lt-leb n k (omega arith))

  -- the last pulse is on: it ends now, or stays on
  last-pulse : (n P k u : ℕ) → k ≡ n → u ≤ i → i < u + D → (x : Dec (i + 1 ≡ u + D)) →
      AgedAt (started n P k (at u)) (aged_of D (Some (burst_with 0 (max P S) (min (max P S) (i - u)))))
  unfolding aged_of completes_of
  last-pulse n P k u e b l (yes p) =
      rw (lt-ltb 0 (max P S) (omega arith), eq-eqb (held_more (max P S) (min (max P S) (i - u))) D (omega arith), le-leb n k (omega arith), eq-eqb (i + 1) (u + D) p) (refl, over {n = n} {P = P} {k = k} {u = u} (omega arith) (omega arith))
  last-pulse n P k u e b l (no p) =
      rw (lt-ltb 0 (max P S) (omega arith), ne_eqb (held_more (max P S) (min (max P S) (i - u))) D (λ z. p (omega arith)), le-leb n k (omega arith), ne_eqb (i + 1) (u + D) p)
      (refl, runs {n = n} {P = P} {k = k} {m = 0} {last = at u} (omega arith) (held_more_lem (max P S) i (at u) b) (omega arith) (λ z. lt-ltb (i + 1) (u + D) (omega arith)))

  pub burst-aged : (b : Started) (u : Option Burst) → BurstAt D S i b u → AgedAt b (aged_of D u)
  unfolding aged_of completes_of
  burst-aged b u none = (refl, none)
  burst-aged b u (over {n = n} {P = P} {k = k} {u = v} p q) = (sym (over_false n k v p q), over {n = n} {P = P} {k = k} {u = v} p (omega arith))
    where
      over_false : (n k v : ℕ) → n ≤ k → v + D ≤ i → (leb n k && eqb (i + 1) (v + D)) ≡ false
      over_false n k v p q = rw (le-leb n k p, ne_eqb (i + 1) (v + D) (λ z. omega arith))
  burst-aged b u (runs {n = n} {P = P} {k = k} {m = zero} {last = never} e s x on) = absurd (let z : ◌≡◌ {A = Bool} false true = on refl in let o : ◌≡◌ {A = ℕ} 0 1 = cc in omega arith)
  burst-aged b u (runs {n = n} {P = P} {k = k} {m = zero} {last = at v} e s x on) =
      rw s (last-pulse n P k v (omega arith) x (ltb-true i (v + D) (on refl)) (ℕ_discrete (i + 1) (v + D)))
  burst-aged b u (runs {n = n} {P = P} {k = k} {m = suc m} {last = last} e s x on) =
      rw (ne_eqb (suc m) 0 (λ z. omega arith), and-false (ltb 0 (max P S)), s)
      (sym (still-owed n P k m last e), runs {n = n} {P = P} {k = k} {m = suc m} {last = last} e (held_more_lem (max P S) i last x) (before_more last i x) (λ z. absurd (omega arith)))

  -- ---- what the table and the answers ask of it
  pub owed-is : (b : Started) (u : Option Burst) → BurstAt D S i b u → burst_owed u ≡ owed_of b
  owed-is b u none = refl
  owed-is b u (runs {n = n} {k = k} {m = m} e s x on) = omega arith
  owed-is b u (over {n = n} {k = k} p q) = omega arith

  pub runs-is : (b : Started) (u : Option Burst) → BurstAt D S i b u → is_running u ≡ burst_runs D b i
  runs-is b u none = refl
  runs-is b u (runs {n = n} {P = P} {k = k} {m = zero} {last = last} e s x on) = rw (lt-ltb 0 (max P S) (omega arith), le-ltb k n (omega arith)) (sym (on refl))
  runs-is b u (runs {n = n} {P = P} {k = k} {m = suc m} e s x on) = rw (lt-ltb 0 (max P S) (omega arith), lt-ltb k n (omega arith))
  runs-is b u (over {n = n} {k = k} {u = v} p q) = rw (le-ltb k n p, le-ltb i (v + D) q)

  -- ---- a pulse of it may start now, where f is whether other distances allow it
  pub burst-ready : (b : Started) (u : Option Burst) → BurstAt D S i b u → (last : Last) → Before last i → (since : ℕ) → since ≡ held_since S last i → (room : Bool) →
      (any_due u && (leb S since && room)) ≡ (burst_ready S b i && (passed S last i && room))
  burst-ready b u none last y since w t = refl
  burst-ready b u (runs {n = n} {P = P} {k = k} {m = m} {s = s} {last = own} e q x on) last y since w t =
      rw (w, q, held-passed (max P S) i own x, held-passed S i last y, same_le 1 m (suc k) n (λ z. omega arith) (λ z. omega arith))
  burst-ready b u (over {n = n} {k = k} p q) last y since w t = rw (le-ltb k n p)

  -- a front of it
  pub burst-begun : (b : Started) (u : Option Burst) → BurstAt D S i b u → burst_ready S b i ≡ true → BurstAt D S i (one_begun i b) (option_map begun_of u)
  burst-begun b u none h = absurd (let o : ◌≡◌ {A = ℕ} 0 1 = cc in omega arith)
  burst-begun b u (runs {n = n} {P = P} {k = k} {m = m} e s x on) h =
      let l = ltb-true k n ((and-eq-true_iff (ltb k n) _).0 h).0 in
      runs {n = n} {P = P} {k = k + 1} {m = m - 1} {s = 0} {last = at i} (omega arith) (omega arith) (omega arith) (λ z. lt-ltb i (i + D) (omega arith))
  burst-begun b u (over {n = n} {k = k} p q) h = absurd (let l = ltb-true k n ((and-eq-true_iff (ltb k n) _).0 h).0 in omega arith)
