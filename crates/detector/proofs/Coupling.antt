-- The detector after a list of calls is what the list's history says.
use mathlib.Core.Path.{◌≡◌, refl, ap}
use mathlib.Core.Bool.{Bool, true, false, cond, not, ◌&&◌}
use mathlib.Core.List.{List, [], ◌∷◌}
use Prim.Native.Nat.{ℕ, ◌+◌}
use native.Mathlib.Omega.{arith}
use lib.IntN.{ℤ, negsuc}
use Rattle.detector.specs.declared.Detector.{Detector}
use Rattle.detector.specs.declared.request.Request.{Request}
use Rattle.detector.specs.declared.request.Request.TheVariants.{Off, Pr, Ric}
use Rattle.detector.specs.declared.request.Events.{Events}
use Rattle.detector.specs.Values.{held_count, held_ticks, elapsed}
use Rattle.detector.specs.Request.{enabled, same_as, requested_by, Reply, ok, no, reply_to}
use Rattle.detector.specs.Notice.{Notice, nothing, report, event, notice_at}
use Rattle.detector.specs.State.{fresh, changed_by, request_by, counted_of, notified, tick_of}
use Rattle.detector.specs.History.{Entry, asked, ticked, request_after, request_in, pulses_at, pulses_after, pulses_in, unreported_after, unreported_in, since_after, since_in, lri_after, lri_in, Answered}
use Rattle.detector.specs.Run.{Call, ask, tick, audit, call, Past, next, from, run}
use Rattle.detector.proofs.Same.{same_equal}

-- A detector with these readings of a history: each number is held.
abbrev holding : Request → ℤ → (pulses unreported since : ℕ) → Detector
holding on lri pulses unreported since =
    record { request = on; lri = lri; cpc = held_count pulses; pcslr = held_count unreported; since = held_ticks since }

-- The detector that a history tells.
abbrev pub detector_in : List Entry → Detector
detector_in h = holding (request_in h) (lri_in h) (pulses_in h) (unreported_in h) (since_in h)

-- Two detectors that differ in their numbers at most.
numbers_equal : (on : Request) (lri : ℤ) {c c' u u' s s' : ℕ} → c ≡ c' → u ≡ u' → s ≡ s' →
    ◌≡◌ {A = Detector} (record { request = on; lri = lri; cpc = c; pcslr = u; since = s }) (record { request = on; lri = lri; cpc = c'; pcslr = u'; since = s' })
numbers_equal on lri p q r = rw (p, q, r)

-- A tick counts, where the detector is enabled.
counted : (on : Request) (lri : ℤ) (pulses unreported since : ℕ) (pulse : Bool) (notice : Notice) →
    counted_of pulse (holding on lri pulses unreported since) ≡
    holding on lri (pulses + pulses_at on pulse) (unreported + pulses_at on pulse) (since_after (ticked pulse notice) on since)
counted Off lri pulses unreported since true notice = numbers_equal Off lri (omega arith) (omega arith) refl
counted Off lri pulses unreported since false notice = numbers_equal Off lri (omega arith) (omega arith) refl
counted (Pr rp) lri pulses unreported since true notice = numbers_equal (Pr rp) lri (omega arith) (omega arith) refl
counted (Pr rp) lri pulses unreported since false notice = numbers_equal (Pr rp) lri (omega arith) (omega arith) (omega arith)
counted (Ric rit) lri pulses unreported since true notice = numbers_equal (Ric rit) lri (omega arith) (omega arith) refl
counted (Ric rit) lri pulses unreported since false notice = numbers_equal (Ric rit) lri (omega arith) (omega arith) (omega arith)

module _ (on : Request) (lri : ℤ) (pulses unreported since : ℕ) where
  -- The detector before a call.
  abbrev before : Detector
  before = holding on lri pulses unreported since

  -- The detector after one more entry.
  abbrev left : Entry → Detector
  left e = holding (request_after e on) (lri_after e on lri) (pulses_after e on pulses) (unreported_after e on unreported) (since_after e on since)

  -- A request that is the same, another, or off.
  changed-by : (q : Request) (same enables : Bool) → (same ≡ true → q ≡ on) →
      changed_by same enables q before ≡
      holding q (cond (not same) (negsuc 0) lri) (cond (not same && enables) 0 pulses) (cond (not same && enables) 0 unreported) since
  changed-by q true enables e = rw (e refl)
  changed-by q false true e = refl
  changed-by q false false e = refl

  -- An answered request leaves what its entry says.
  ask-left : (events : Events) (reply : Reply) → (request_by before events reply).detector ≡ left (asked events (request_by before events reply).answer)
  ask-left events ok =
      let q = requested_by events in
      changed-by q (same_as q on) (enabled q) (same_equal q on)
  ask-left events (no number) = refl

  -- The answer is that of the descriptor.
  ask-answered : (events : Events) (reply : Reply) → (request_by before events reply).answer ≡ reply
  ask-answered events ok = refl
  ask-answered events (no number) = refl

  -- A tick leaves what its entry says.
  tick-left : (pulse : Bool) (notice : Notice) → notified (counted_of pulse before) notice ≡ left (ticked pulse notice)
  tick-left pulse nothing = counted on lri pulses unreported since pulse nothing
  tick-left pulse report = ap (λ (k : Detector). notified k report) (counted on lri pulses unreported since pulse report)
  tick-left pulse (event interval count) = ap (λ (k : Detector). notified k (event interval count)) (counted on lri pulses unreported since pulse (event interval count))

  -- e is the same from the ticks as held.
  held-elapsed : elapsed (held_ticks since) ≡ elapsed since
  held-elapsed = omega arith

  -- The notice is the one by the readings.
  tick-answered : (pulse : Bool) → (tick_of before pulse).answer ≡ notice_at on pulse lri (elapsed since) (held_count (unreported + pulses_at on pulse))
  tick-answered pulse = rw (held-elapsed, ap (λ (k : Detector). k.pcslr) (counted on lri pulses unreported since pulse nothing))

-- A call on the detector that a history tells leaves the one that the longer history tells.
call-left : (h : List Entry) (c : Call) → (call (detector_in h) c).detector ≡ detector_in ((call (detector_in h) c).answer ∷ h)
unfolding request_in lri_in pulses_in unreported_in since_in
call-left h (ask events) = ask-left (request_in h) (lri_in h) (pulses_in h) (unreported_in h) (since_in h) events (reply_to events)
call-left h (tick pulse) = tick-left (request_in h) (lri_in h) (pulses_in h) (unreported_in h) (since_in h) pulse (tick_of (detector_in h) pulse).answer
call-left h audit = refl

-- It has the paper's answer.
call-answered : (h : List Entry) (c : Call) → Answered h (call (detector_in h) c).answer
call-answered h (ask events) = ask-answered (request_in h) (lri_in h) (pulses_in h) (unreported_in h) (since_in h) events (reply_to events)
call-answered h (tick pulse) = tick-answered (request_in h) (lri_in h) (pulses_in h) (unreported_in h) (since_in h) pulse
call-answered h audit = (refl, refl, refl)

-- Every entry of a history has the paper's answer.
abbrev pub AllAnswered : List Entry → Type 0
AllAnswered [] = Unit {0}
AllAnswered (e ∷ h) = Answered h e × AllAnswered h

-- The detector is the one that the history tells, and the history is answered.
pub record Coupled (p : Past) : Type 0 where
  pub detector : p.detector ≡ detector_in p.entries
  pub answered : AllAnswered p.entries

-- One call more.
coupled-next : (p : Past) (c : Call) → Coupled p → Coupled (next p c)
coupled-next p c s = record {
  detector = rw s.detector (call-left p.entries c);
  answered = (rw s.detector (call-answered p.entries c), s.answered);
}

-- More calls.
coupled-from : (p : Past) (cs : List Call) → Coupled p → Coupled (from p cs)
unfolding from
coupled-from p [] s = s
coupled-from p (c ∷ cs) s = coupled-from (next p c) cs (coupled-next p c s)

-- Every list of calls from a fresh detector.
pub coupled : (cs : List Call) → Coupled (run cs)
unfolding request_in lri_in pulses_in unreported_in since_in
coupled cs = coupled-from (record { entries = []; detector = fresh }) cs (record { detector = refl; answered = tt })
