-- The last pulse of a burst begins in time.
use Rattle.std.specs.Prelude.{Option, None, Some}
use mathlib.Core.Path.{◌≡◌, refl, sym, ap, ◌∙◌}
use mathlib.Core.Bool.{cond}
use mathlib.Core.List.{List, [], ◌∷◌, ◌++◌, append_assoc}
use Prim.Native.Nat.{ℕ, zero, suc, ◌+◌, ◌-◌, ◌*◌, ◌^◌, min, max, ◌≤◌, ◌<◌}
use native.Mathlib.Decide.{dec_le}
use native.Mathlib.Nat.{mul-le-mul_right}
use native.Mathlib.Omega.{arith}
use borrow.Author.Tests.{lt-ltb, le-ltb}
use Rattle.answers.specs.Fronts.{is_burst_front}
use Rattle.answers.specs.declared.Front.{Front}
use Rattle.answers.specs.declared.Front.TheVariants.{Tariff as TariffFront, Burst as BurstFront}
use Rattle.descriptor.specs.declared.BurstPart.TheVariants.{Start}
use Rattle.burst.specs.declared.Burst.{Burst}
use Rattle.burst.specs.Bursts.{burst_with}
use Rattle.line.specs.declared.Line.{Line}
use Rattle.demand.specs.Calls.{Call, Answer, Entry}
use Rattle.demand.specs.History.{granted, front_of, sum, ticks, begun, burst_in, Started, started, never}
use Rattle.demand.specs.Machine.{entry_for, outcome, step}
use Rattle.demand.specs.Demand.{is_fresh, before_last, fresh_before, cancels_before, deadline, LastBegins}
use Rattle.slots.proofs.Ahead.{next_of}
use Rattle.demand.proofs.Coupled.{Config, BurstAt, runs, line_at, Coupled}
use Rattle.demand.proofs.Potential.{Within, late, positive, replaced, stopped, pulse-slot, empty-slot, waits}
use Rattle.demand.proofs.Effects.{is_none, Effect, cancels, stays, stops, begins, waiting, empty-due, pulse-due, burst-due, effect}
use Rattle.demand.proofs.Run.{Run, more, coupled, cut}

-- after j ticks and r fresh tariffs, with done of n pulses begun: the next begins within `first` ticks, and a pulse after
-- another within distance + 2S
pub record Left (S : ℕ) (l : Line) (n K j r done : ℕ) : Type 0 where
  pub others : ℕ
  pub distance : ℕ
  pub own : ℕ
  pub first : ℕ
  pub owing : l.state.burst ≡ Some (burst_with (suc others) distance own)
  pub wide : S ≤ distance
  pub count : suc others + done ≡ n
  pub within : Within S l.state.since distance own (next_of l.state.timed.tariff l.state.timed.wait) first
  pub low : first + others * (distance + 2 * S) + j ≤ K + r * (2 * S)

one_fewer : (m G : ℕ) → 1 ≤ m → m * G ≡ (m - 1) * G + G
one_fewer zero G l = absurd (omega arith)
one_fewer (suc m) G l = let e : suc m - 1 ≡ m = omega arith in rw e (omega arith)

module _ (S : ℕ) (z : 1 ≤ S) (n K j r done : ℕ) (l l' : Line) (e : Entry) where
  kept : (x : Left S l n K j r done) → Effect S l.state.since (next_of l.state.timed.tariff l.state.timed.wait) x.others x.distance x.own e l' → is_none (granted e).burst ≡ 0 → is_burst_front (front_of e) + done < n →
      Left S l' n K (cond (granted e).tick (j + 1) j) (is_fresh (granted e).tariff + r) (is_burst_front (front_of e) + done)
  kept x (cancels c) a b = absurd (omega arith)
  kept x (stays t f w v u) a b =
      record { others = x.others; distance = x.distance; own = x.own; first = x.first; wide = x.wide; owing = u; count = rw f (omega (arith, x.count)); within = rw (w, v) x.within; low = rw t (omega (arith, x.low)) }
  kept x (stops t f w v u) a b =
      record {
        others = x.others;
        distance = x.distance;
        own = x.own;
        first = x.first;
        wide = x.wide;
        owing = u;
        count = rw f (omega (arith, x.count));
        within = rw (w, v) (stopped S z l.state.since x.distance x.own (next_of l.state.timed.tariff l.state.timed.wait) x.first x.within);
        low = rw t (omega (arith, x.low));
      }
  kept x (begins t f fresh w u) a b =
      record {
        others = x.others;
        distance = x.distance;
        own = x.own;
        first = x.first + 2 * S;
        wide = x.wide;
        owing = u;
        count = rw f (omega (arith, x.count));
        within = rw w (replaced S z l.state.since x.distance x.own (next_of l.state.timed.tariff l.state.timed.wait) x.first (next_of l'.state.timed.tariff l'.state.timed.wait) x.within);
        low = rw (t, fresh) (omega (arith, x.low));
      }
  kept x (waiting t f o y w v u) a b =
      let some = positive S z l.state.since x.distance x.own (next_of l.state.timed.tariff l.state.timed.wait) x.first x.within in
      record {
        others = x.others;
        distance = x.distance;
        own = min x.distance (x.own + 1);
        first = x.first - 1;
        wide = x.wide;
        owing = u;
        count = rw f (omega (arith, x.count));
        within = rw (w, v) (waits S z l.state.since x.distance x.own (next_of l.state.timed.tariff l.state.timed.wait) x.first o y x.within);
        low = rw t (omega (arith, x.low));
      }
  kept x (empty-due t f d far w u) a b =
      let some = positive S z l.state.since x.distance x.own (next_of l.state.timed.tariff l.state.timed.wait) x.first x.within in
      record {
        others = x.others;
        distance = x.distance;
        own = min x.distance (x.own + 1);
        first = x.first - 1;
        wide = x.wide;
        owing = u;
        count = rw f (omega (arith, x.count));
        within = rw w (empty-slot S z l.state.since x.distance x.own (next_of l.state.timed.tariff l.state.timed.wait) x.first (next_of l'.state.timed.tariff l'.state.timed.wait) far d x.within);
        low = rw t (omega (arith, x.low));
      }
  kept x (pulse-due t f d far w u) a b =
      let some = positive S z l.state.since x.distance x.own (next_of l.state.timed.tariff l.state.timed.wait) x.first x.within in
      record {
        others = x.others;
        distance = x.distance;
        own = min x.distance (x.own + 1);
        first = x.first - 1;
        wide = x.wide;
        owing = u;
        count = rw f (omega (arith, x.count));
        within = rw w (pulse-slot S z l.state.since x.distance x.own (next_of l.state.timed.tariff l.state.timed.wait) x.first (next_of l'.state.timed.tariff l'.state.timed.wait) far d x.within);
        low = rw t (omega (arith, x.low));
      }
  kept x (burst-due t f w u) a b =
      let some = positive S z l.state.since x.distance x.own (next_of l.state.timed.tariff l.state.timed.wait) x.first x.within in
      let more = burst-more f b x.count in
      record {
        others = x.others - 1;
        distance = x.distance;
        own = 0;
        first = x.distance + 2 * S;
        wide = x.wide;
        owing = u ∙ ap (λ (m : ℕ). Some (burst_with m x.distance 0)) (omega arith);
        count = rw f (omega arith);
        within = rw w (late x.distance (omega (arith, x.wide)) (omega arith));
        low = rw t (omega (arith, x.low, one_fewer x.others (x.distance + 2 * S) more));
      }
    where
      burst-more : {m : ℕ} → front_of e ≡ Some BurstFront → is_burst_front (front_of e) + done < n → suc m + done ≡ n → 1 ≤ m
      burst-more f b c = let d = rw f at b in omega arith

-- an accepted start of n pulses leaves them all owed
burst-started : (D S i n P : ℕ) (b : Started) (u : Option Burst) → b ≡ started n P 0 never → BurstAt D S i b u → u ≡ Some (burst_with n (max P S) (max P S))
burst-started D S i n P b u e x = by u (rw e at x)
  where
    by : (u : Option Burst) → BurstAt D S i (started n P 0 never) u → u ≡ Some (burst_with n (max P S) (max P S))
    by u (runs {m = m} {s = s} p q y on) =
        let k : m ≡ n = omega arith in
        rw (k, q)

module _ (D S clock : ℕ) (cfg : Config D S) (small : clock < 2 ^ 32) where
  some : 1 ≤ S
  some = omega arith

  -- one call
  keeps : (h : List Entry) {l : Line} → Coupled D S clock h l → (n K j r done : ℕ) (c : Call) (a : Answer) (l' : Line) → step l c ≡ outcome a l' → is_none (granted (entry_for c a l')).burst ≡ 0 →
      is_burst_front (front_of (entry_for c a l')) + done < n → Left S l n K j r done →
      Left S l' n K (cond (granted (entry_for c a l')).tick (j + 1) j) (is_fresh (granted (entry_for c a l')).tariff + r) (is_burst_front (front_of (entry_for c a l')) + done)
  keeps h {l} (line_at e before ag g x y) n K j r done c a l' q kept_on few left =
      kept S some n K j r done l l' (entry_for c a l') left (rw q at (effect l cfg g left.others left.distance left.own left.owing left.wide c)) kept_on few

  -- the start itself
  begun-line : {l : Line} (n P : ℕ) (before : List Entry) (e : Entry) → Coupled D S clock (e ∷ before) l → (granted e).burst ≡ Start (suc n) P → Left S l (suc n) (3 * S + n * (max P S + 2 * S)) 0 0 0
  unfolding burst_in
  begun-line {l} n P before e x is = by e l x is
    where
      by : (e : Entry) (l : Line) → Coupled D S clock (e ∷ before) l → (granted e).burst ≡ Start (suc n) P → Left S l (suc n) (3 * S + n * (max P S + 2 * S)) 0 0 0
      by e l (line_at {u = u} q b ag g x y) is =
          record { others = n; distance = max P S; own = max P S; first = 3 * S; wide = omega arith; owing = burst-started D S (ticks (e ∷ before)) (suc n) P (burst_in (e ∷ before)) u (rw is refl) x; count = omega arith; within = late S (omega arith) (omega arith); low = omega arith }

  -- every call after the start, while a pulse is owed
  left : {l : Line} (n P : ℕ) (rest before : List Entry) (e : Entry) → Run D S clock cfg (rest ++ (e ∷ before)) l → (granted e).burst ≡ Start (suc n) P →
      sum (λ e. is_none (granted e).burst) rest ≡ 0 → begun rest < suc n →
      Left S l (suc n) (3 * S + n * (max P S + 2 * S)) (ticks rest) (sum (λ e. is_fresh (granted e).tariff) rest) (begun rest)
  unfolding sum ticks
  left n P [] before e r is kept_on few = begun-line n P before e (coupled D S clock cfg small r) is
  left n P (x ∷ rest) before e (more {h = h} {l = l} {l' = l'} {c = c} {a = a} r q) is kept_on few =
      keeps (rest ++ (e ∷ before)) (coupled D S clock cfg small r) (suc n) (3 * S + n * (max P S + 2 * S)) (ticks rest) (sum (λ e. is_fresh (granted e).tariff) rest) (begun rest) c a l' q (omega arith) (omega arith)
      (left n P rest before e r is (omega arith) (omega arith))

  sizes : (n x : ℕ) → 3 * S + n * (x + 2 * S) ≡ (2 * suc n + 1) * S + (suc n - 1) * x
  sizes n x = let e : suc n - 1 ≡ n = omega arith in rw e (omega arith)

  -- while the last pulse has not begun, fewer ticks than the deadline have gone
  not_late : {l : Line} (n P : ℕ) (rest before : List Entry) (e : Entry) → Run D S clock cfg (rest ++ (e ∷ before)) l → (granted e).burst ≡ Start n P →
      sum (λ e. is_none (granted e).burst) rest ≡ 0 → begun rest < n → ticks rest < deadline S n P (sum (λ e. is_fresh (granted e).tariff) rest)
  not_late zero P rest before e r is kept_on few = absurd (omega arith)
  not_late {l} (suc n) P rest before e r is kept_on few =
      let x = left n P rest before e r is kept_on few in
      omega (arith, x.low, positive S some l.state.since x.distance x.own (next_of l.state.timed.tariff l.state.timed.wait) x.first x.within, sizes n (max P S))

-- ---- the last pulse in the list
-- until it begins, all entries count
before-all : (f : Entry → ℕ) (n : ℕ) (rest : List Entry) → begun rest < n → before_last f n rest ≡ sum f rest
unfolding before_last sum
before-all f n [] h = refl
before-all f n (e ∷ rest) h = rw (lt-ltb (begun rest) n (omega arith)) (omega (arith, before-all f n rest (omega arith)))

burst-front : (f : Option Front) → 1 ≤ is_burst_front f → f ≡ Some BurstFront
burst-front None h = absurd (omega arith)
burst-front (Some TariffFront) h = absurd (omega arith)
burst-front (Some BurstFront) h = refl

-- the n-th burst front of rest, and what stands before it
pub record Found (n : ℕ) (rest : List Entry) : Type 0 where
  pub after : List Entry
  pub front : Entry
  pub until : List Entry
  pub split : rest ≡ after ++ (front ∷ until)
  pub burst : front_of front ≡ Some BurstFront
  pub last : begun until + 1 ≡ n
  pub asked : (f : Entry → ℕ) → sum f until ≤ before_last f n rest

find : (n : ℕ) (rest : List Entry) → 1 ≤ n → n ≤ begun rest → Found n rest
unfolding before_last sum
find n [] o h = absurd (omega arith)
find n (e ∷ rest) o h = by (dec_le n (begun rest)) (λ p. find n rest o p)
  where
    by : Dec (n ≤ begun rest) → (n ≤ begun rest → Found n rest) → Found n (e ∷ rest)
    by (yes p) earlier =
        let x = earlier p in
        record {
          after = e ∷ x.after;
          front = x.front;
          until = x.until;
          split = ap (λ (l : List Entry). e ∷ l) x.split;
          burst = x.burst;
          last = x.last;
          asked = λ f. rw (le-ltb (begun rest) n p) (omega (arith, x.asked f));
        }
    by (no p) earlier =
        let b : front_of e ≡ Some BurstFront = burst-front (front_of e) (omega arith) in
        let one : is_burst_front (front_of e) ≡ 1 = ap is_burst_front b in
        record {
          after = [];
          front = e;
          until = rest;
          split = refl;
          burst = b;
          last = omega arith;
          asked = λ f. rw (lt-ltb (begun rest) n (omega arith)) (omega (arith, before-all f n rest (omega arith)));
        }

-- an accepted start asks for a pulse at least
started-some : (D S i n P : ℕ) (u : Option Burst) → BurstAt D S i (started n P 0 never) u → 1 ≤ n
started-some D S i n P u (runs {m = zero} p q y on) = absurd (let f = on refl in let o : ◌≡◌ {A = ℕ} 0 1 = cc in omega arith)
started-some D S i n P u (runs {m = suc m} p q y on) = omega arith

module _ (D S clock : ℕ) (cfg : Config D S) (small : clock < 2 ^ 32) where
  some-pulse : {l : Line} (n P : ℕ) (before : List Entry) (e : Entry) → Coupled D S clock (e ∷ before) l → (granted e).burst ≡ Start n P → 1 ≤ n
  unfolding burst_in
  some-pulse {l} n P before e x is = by e l x is
    where
      by : (e : Entry) (l : Line) → Coupled D S clock (e ∷ before) l → (granted e).burst ≡ Start n P → 1 ≤ n
      by e l (line_at {u = u} q b ag g x y) is = started-some D S (ticks (e ∷ before)) n P u (rw is at x)

  -- the positive form: if so many ticks follow, the last pulse begins within them
  pub bound : {l : Line} (n P : ℕ) (rest before : List Entry) (e : Entry) → Run D S clock cfg (rest ++ (e ∷ before)) l → (granted e).burst ≡ Start n P → cancels_before n rest ≡ 0 →
      deadline S n P (fresh_before n rest) ≤ ticks rest → LastBegins n (deadline S n P (fresh_before n rest)) rest
  unfolding ticks
  bound {l} n P rest before e r is kept_on long = by (dec_le n (begun rest))
    where
      in_time : (x : Found n rest) → ticks x.until < deadline S n P (fresh_before n rest)
      in_time x =
          let whole : rest ++ (e ∷ before) ≡ x.after ++ (x.front ∷ (x.until ++ (e ∷ before))) = rw x.split (append_assoc x.after (x.front ∷ x.until) (e ∷ before)) in
          let part = cut D S clock cfg (x.after ++ (x.front ∷ [])) (x.until ++ (e ∷ before)) (rw (whole, ← append_assoc x.after (x.front ∷ []) (x.until ++ (e ∷ before))) at r) in
          let early = not_late D S clock cfg small n P x.until before e part.1 is (omega (arith, x.asked (λ e. is_none (granted e).burst))) (omega (arith, x.last)) in
          omega (arith, early, mul-le-mul_right (2 * S) (x.asked (λ e. is_fresh (granted e).tariff)))

      by : Dec (n ≤ begun rest) → LastBegins n (deadline S n P (fresh_before n rest)) rest
      by (no p) =
          let all = before-all (λ e. is_fresh (granted e).tariff) n rest (omega arith) in
          let early = not_late D S clock cfg small n P rest before e r is (sym (before-all (λ e. is_none (granted e).burst) n rest (omega arith)) ∙ kept_on) (omega arith) in
          absurd (omega (arith, rw (← all) at early))
      by (yes p) =
          let x = find n rest (some-pulse n P before e (coupled D S clock cfg small (cut D S clock cfg rest (e ∷ before) r).1) is) p in
          (x.after, x.until, x.front, x.split, x.burst, x.last, soon_by x)
        where
          soon_by : (x : Found n rest) → ticks (x.front ∷ x.until) ≤ deadline S n P (fresh_before n rest)
          soon_by x = grind (arith, in_time x)
