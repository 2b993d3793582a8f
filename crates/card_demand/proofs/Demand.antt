-- The theorem about every list of calls on a card of fresh lines with a fresh dispatcher.
use mathlib.Core.Path.{◌≡◌, refl, ap, subst}
use mathlib.Core.Bool.{true}
use mathlib.Core.List.{List, [], ◌∷◌, ◌++◌}
use Prim.Native.Nat.{ℕ, ◌≤◌, ◌<◌}
use native.Mathlib.Decide.{dec_lt}
use native.Mathlib.Omega.{arith}
use lib.ListN.{length, get_or}
use Rattle.dispatcher.specs.Dispatch.{tells}
use Rattle.demand.specs.Machine.{entries, history}
use Rattle.demand.proofs.Demand.{demand3}
use Rattle.demand.proofs.Tickets.{tickets}
use Rattle.card_demand.specs.Card.{CardCall, CardEntry, Card, Making, card_past, card_history}
use Rattle.card_demand.specs.Reading.{line_calls, line_history, row_ticks, row_in, row_length, next_in, reported, since, left, due}
use Rattle.card_demand.specs.Claims.{no_making, AllSound, HeardWithin, CardDemand}
use Rattle.card_demand.proofs.Round.{passed-few}
use Rattle.card_demand.proofs.Kept.{Kept, unheard, since-most, may-own}
use Rattle.card_demand.proofs.Run.{Run, Replied, good, replied, cut, run-history}
use Rattle.card_demand.proofs.Heard.{heard-run}

module _ (ms : List Making) (cs : List CardCall) where
  abbrev N : ℕ
  N = length ms

  abbrev h : List CardEntry
  h = card_history ms cs

  abbrev making : ℕ → Making
  making i = get_or ms i no_making

  run-part : (after part : List CardEntry) → h ≡ after ++ part → (k : Card) × Run ms part k
  run-part after part q = cut ms after part (rw q at (run-history ms cs))

  alone : (i : ℕ) → i < N → line_history h i ≡ history (making i).D (making i).G (making i).clock (line_calls h i)
  unfolding history
  alone i l = ap entries ((good ms (run-history ms cs)).lines i l)

  kept : Kept N h (card_past ms cs).card.dispatcher
  kept = (good ms (run-history ms cs)).kept

  module _ (rest before : List CardEntry) (e : CardEntry) (i : ℕ) (q : h ≡ rest ++ (e ∷ before)) (t : tells (due e before i) ≡ true) where
    heard : row_length N (e ∷ before) ≤ row_ticks (rest ++ (e ∷ [])) → HeardWithin i (row_length N (e ∷ before)) (rest ++ (e ∷ []))
    heard = heard-run ms i e before rest (rw q at (run-history ms cs)) (run-part rest (e ∷ before) q).1 t

    -- the row has at most 64 lines
    heard_in_64 : 64 ≤ row_ticks (rest ++ (e ∷ [])) → HeardWithin i 64 (rest ++ (e ∷ []))
    heard_in_64 g =
        let most = (good ms (run-part rest (e ∷ before) q).1).kept.fits in
        let y = heard (omega arith) in
        (y.0, y.1, y.2, y.3, y.4, y.5, omega (arith, y.6))

  -- fewer wait than ticks can have passed over the line
  few : (i : ℕ) → (left h i).reports < 64
  few i = by (dec_lt i (row_length N h))
    where
      by : Dec (i < row_length N h) → since reported h i < 64
      by (yes l) = omega (arith, kept.few i, kept.fits, passed-few (row_length N h) (next_in N h) i (unheard h i) l (kept.passed (row_length N h) i (may-own (row_in N h)) l))
      by (no l) = omega (arith, since-most reported h i, kept.outside reported refl i (omega arith))

pub card_demand : (ms : List Making) → AllSound ms → (cs : List CardCall) → CardDemand ms cs
card_demand ms sound cs = record {
  alone = alone ms cs;
  demand3 = λ i l.
      let m = get_or ms i no_making in
      demand3 m.D m.G m.clock (sound i l).0 (sound i l).1 (line_calls (card_history ms cs) i);
  tickets = λ i l.
      let m = get_or ms i no_making in
      tickets m.D m.G m.clock (sound i l).0 (sound i l).1 (line_calls (card_history ms cs) i);
  reply = λ after before e m q c. subst (Replied ms before e) c (replied ms (run-part ms cs after (e ∷ before) q).1);
  group = λ after before e m ps P q c. subst (Replied ms before e) c (replied ms (run-part ms cs after (e ∷ before) q).1) sound;
  heard = heard ms cs;
  fits = (kept ms cs).fits;
  heard_in_64 = heard_in_64 ms cs;
  holds = ((kept ms cs).row, (kept ms cs).next, (kept ms cs).waits);
  conserved = (kept ms cs).sum;
  few = λ i. omega (arith, few ms cs i);
}
