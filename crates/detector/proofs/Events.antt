-- Every event is of one of the three kinds, with its numbers.
use mathlib.Core.Path.{◌≡◌, refl, ap}
use mathlib.Core.Bool.{Bool, true, false, cond}
use mathlib.Core.List.{List}
use mathlib.Core.Logic.{inl, inr}
use Prim.Native.Nat.{ℕ, zero, suc, ◌+◌}
use native.Mathlib.Omega.{arith}
use borrow.Author.Tests.{eqb-true, lt-ltb}
use lib.Dec.{eqb}
use lib.IntN.{ℤ, pos, negsuc, ◌-ℤ◌}
use lib.Signed.{lt_z, lt_z_yes}
use Rattle.detector.specs.declared.request.Request.{Request}
use Rattle.detector.specs.declared.request.Request.TheVariants.{Off, Pr, Ric}
use Rattle.detector.specs.Notice.{nothing, event, notice_at}
use Rattle.detector.specs.History.{Entry, request_in, lri_in, elapsed_in, counted_in, notice_after, Measurable, EventAfter, first, measured, silence}
use Rattle.detector.proofs.Lri.{IsLri, lri-value, not-event, event_ric}

module _ (h : List Entry) (rit : ℕ) {interval count : ℕ} where
  first-pulse : (n : ℕ) → lri_in h ≡ negsuc n → IsLri (negsuc n) → event interval count ≡ event 0 (counted_in h true) → EventAfter h rit true interval count
  first-pulse n l z e =
      let p : interval ≡ 0 = cc in
      let q : count ≡ counted_in h true = cc in
      rw (p, q) (first (rw z at l))

  interval-measured : Measurable h rit → event interval count ≡ event (elapsed_in h) (counted_in h true) → EventAfter h rit true interval count
  interval-measured m e =
      let p : interval ≡ elapsed_in h = cc in
      let q : count ≡ counted_in h true = cc in
      rw (p, q) (measured m)

  shortened : (n : ℕ) (t : Bool) → lt_z (pos (elapsed_in h)) (pos (suc n) -ℤ pos rit) ≡ t → lri_in h ≡ pos (suc n) →
      event interval count ≡ cond t (event (elapsed_in h) (counted_in h true)) nothing → EventAfter h rit true interval count
  shortened n true t l e = interval-measured (inr (rw l (lt_z_yes (rw (lt-ltb 0 (suc n) (omega arith)) tt), lt_z_yes (rw t tt)))) e
  shortened n false t l e = absurd (not-event false e)

  pulse-event : (lri : ℤ) → lri_in h ≡ lri → IsLri lri → event interval count ≡ notice_at (Ric rit) true lri (elapsed_in h) (counted_in h true) → EventAfter h rit true interval count
  pulse-event (negsuc n) l z e = first-pulse n l z e
  pulse-event (pos zero) l z e = interval-measured (inl l) e
  pulse-event (pos (suc n)) l z e = shortened n (lt_z (pos (elapsed_in h)) (pos (suc n) -ℤ pos rit)) refl l e

  silent : (n : ℕ) (t : Bool) → eqb (elapsed_in h) (suc n + rit) ≡ t → lri_in h ≡ pos (suc n) →
      event interval count ≡ cond t (event 0 (counted_in h false)) nothing → EventAfter h rit false interval count
  silent n true t l e =
      let p : interval ≡ 0 = cc in
      let q : count ≡ counted_in h false = cc in
      rw (p, q) (silence (rw l (lt_z_yes (rw (lt-ltb 0 (suc n) (omega arith)) tt))) (rw l (ap pos (eqb-true (elapsed_in h) (suc n + rit) t))))
  silent n false t l e = absurd (not-event false e)

  silence-event : (lri : ℤ) → lri_in h ≡ lri → event interval count ≡ notice_at (Ric rit) false lri (elapsed_in h) (counted_in h false) → EventAfter h rit false interval count
  silence-event (negsuc n) l e = absurd (not-event false e)
  silence-event (pos zero) l e = absurd (not-event false e)
  silence-event (pos (suc n)) l e = silent n (eqb (elapsed_in h) (suc n + rit)) refl l e

  ric_event_lem : (pulse : Bool) → event interval count ≡ notice_at (Ric rit) pulse (lri_in h) (elapsed_in h) (counted_in h pulse) → EventAfter h rit pulse interval count
  ric_event_lem true e = pulse-event (lri_in h) refl (lri-value h) e
  ric_event_lem false e = silence-event (lri_in h) refl e

event-by : (h : List Entry) (on : Request) (pulse : Bool) {interval count : ℕ} → request_in h ≡ on →
    event interval count ≡ notice_at on pulse (lri_in h) (elapsed_in h) (counted_in h pulse) →
    (rit : ℕ) × (request_in h ≡ Ric rit) × EventAfter h rit pulse interval count
event-by h Off pulse r e = absurd (event_ric Off pulse (lri_in h) (elapsed_in h) (counted_in h pulse) e)
event-by h (Pr rp) pulse r e = absurd (event_ric (Pr rp) pulse (lri_in h) (elapsed_in h) (counted_in h pulse) e)
event-by h (Ric rit) pulse r e = (rit, r, ric_event_lem h rit pulse e)

pub event-kind : (h : List Entry) (pulse : Bool) {interval count : ℕ} → event interval count ≡ notice_after h pulse →
    (rit : ℕ) × (request_in h ≡ Ric rit) × EventAfter h rit pulse interval count
event-kind h pulse e = event-by h (request_in h) pulse refl e
