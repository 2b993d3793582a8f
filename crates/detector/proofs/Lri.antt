-- lri is −1, 0 or an interval, and leaves −1 only under ric.
use mathlib.Core.Path.{◌≡◌, refl}
use mathlib.Core.Bool.{Bool, true, false, cond, not}
use mathlib.Core.List.{List, [], ◌∷◌}
use Prim.Native.Nat.{ℕ}
use native.Mathlib.Omega.{arith}
use borrow.Table.Steps.{cases}
use lib.Dec.{eqb}
use lib.IntN.{ℤ, pos, negsuc}
use Rattle.detector.specs.declared.request.Request.{Request}
use Rattle.detector.specs.declared.request.Request.TheVariants.{Off, Pr, Ric}
use Rattle.detector.specs.Request.{same_as, requested_by, ok, no}
use Rattle.detector.specs.Notice.{nothing, report, event, notice_at}
use Rattle.detector.specs.History.{Entry, asked, ticked, audited, request_in, lri_in, changes, RicOn}
use Rattle.detector.proofs.Same.{same_equal}
use Rattle.detector.proofs.Coupling.{AllAnswered}

-- A value of lri: −1, 0 or an interval.
abbrev pub IsLri : ℤ → Type 0
IsLri (pos n) = Unit {0}
IsLri (negsuc n) = n ≡ 0

pub lri-value : (h : List Entry) → IsLri (lri_in h)
unfolding lri_in
lri-value [] = refl
lri-value (asked events reply ∷ h) = cases (changes events reply (request_in h)) (λ e. rw e refl) (λ e. rw e (lri-value h))
lri-value (ticked pulse nothing ∷ h) = lri-value h
lri-value (ticked pulse report ∷ h) = lri-value h
lri-value (ticked pulse (event interval count) ∷ h) = tt
lri-value (audited lri cpc pcslr ∷ h) = lri-value h

pub lri_negative : (h : List Entry) (n : ℕ) → lri_in h ≡ negsuc n → n ≡ 0
lri_negative h n e = rw e at (lri-value h)

-- A report and nothing are no event.
pub not-event : {interval count : ℕ} (t : Bool) → event interval count ≡ cond t report nothing → ⊥
not-event true e = let z : ◌≡◌ {A = ℕ} 0 1 = cc in omega arith
not-event false e = let z : ◌≡◌ {A = ℕ} 0 1 = cc in omega arith

-- An event comes under ric.
pub event_ric : (on : Request) (pulse : Bool) (lri : ℤ) (e pcslr : ℕ) {interval count : ℕ} → event interval count ≡ notice_at on pulse lri e pcslr → RicOn on
event_ric Off pulse lri e pcslr h = not-event false h
event_ric (Pr rp) true lri e pcslr h = not-event (eqb pcslr rp) h
event_ric (Pr rp) false lri e pcslr h = not-event false h
event_ric (Ric rit) pulse lri e pcslr h = tt

-- The same request leaves lri as it was; another sets it to −1.
asked-lri : (q on : Request) (lri : ℤ) (same : Bool) → (same ≡ true → q ≡ on) → (¬ RicOn on → lri ≡ negsuc 0) → ¬ RicOn q → cond (not same) (negsuc 0) lri ≡ negsuc 0
asked-lri q on lri true e f r = f (rw (e refl) at r)
asked-lri q on lri false e f r = refl

-- lri is −1 unless ric is on.
pub unless_ric_lem : (h : List Entry) → AllAnswered h → ¬ RicOn (request_in h) → lri_in h ≡ negsuc 0
unfolding request_in lri_in
unless_ric_lem [] a r = refl
unless_ric_lem (asked events ok ∷ h) a r =
    let q = requested_by events in
    asked-lri q (request_in h) (lri_in h) (same_as q (request_in h)) (same_equal q (request_in h)) (unless_ric_lem h a.1) r
unless_ric_lem (asked events (no number) ∷ h) a r = unless_ric_lem h a.1 r
unless_ric_lem (ticked pulse nothing ∷ h) a r = unless_ric_lem h a.1 r
unless_ric_lem (ticked pulse report ∷ h) a r = unless_ric_lem h a.1 r
unless_ric_lem (ticked pulse (event interval count) ∷ h) a r = absurd (r (event_ric (request_in h) pulse (lri_in h) _ _ a.0))
unless_ric_lem (audited lri cpc pcslr ∷ h) a r = unless_ric_lem h a.1 r
