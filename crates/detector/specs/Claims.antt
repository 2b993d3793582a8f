-- What is claimed of every list of calls from a fresh detector.
use Rattle.std.specs.Prelude.{◌≡◌, Bool, List, ◌∷◌, ◌++◌, ℕ, negsuc}
use Rattle.detector.specs.declared.request.Request.TheVariants.{Ric}
use Rattle.detector.specs.Values.{held_count, held_ticks}
use Rattle.detector.specs.Notice.{event}
use Rattle.detector.specs.History.{Entry, ticked, request_in, pulses_in, unreported_in, since_in, lri_in}
use Rattle.detector.specs.History.{Answered, RicOn, EventAfter}
use Rattle.detector.specs.Run.{Call, after, history}

pub record Claims (cs : List Call) : Type 0 where
  -- The request that is on is the last that was accepted.
  pub request : (after cs).request ≡ request_in (history cs)
  -- lri is the interval of the last event since that request was made, −1 if there is none.
  pub lri : (after cs).lri ≡ lri_in (history cs)
  -- It is −1, 0 or an interval.
  pub lri_value : (n : ℕ) → (after cs).lri ≡ negsuc n → n ≡ 0
  -- It leaves −1 only under ric.
  pub unless_ric : ¬ RicOn (request_in (history cs)) → (after cs).lri ≡ negsuc 0
  -- cpc is the pulses since the last request that changed to a non-off one, held.
  pub cpc : (after cs).cpc ≡ held_count (pulses_in (history cs))
  -- pcslr is the pulses since the last event or report, or since the counters were zeroed, held.
  pub pcslr : (after cs).pcslr ≡ held_count (unreported_in (history cs))
  -- The ticks since the last pulse that an enabled detector saw, held.
  pub since : (after cs).since ≡ held_ticks (since_in (history cs))
  -- Every call has the paper's answer.
  pub answered : (later earlier : List Entry) (e : Entry) → history cs ≡ later ++ (e ∷ earlier) → Answered earlier e
  -- Every event comes under ric, and is of one of the three kinds, with its numbers.
  pub events : (later earlier : List Entry) (pulse : Bool) (interval count : ℕ) →
      history cs ≡ later ++ (ticked pulse (event interval count) ∷ earlier) →
      (rit : ℕ) × (request_in earlier ≡ Ric rit) × EventAfter earlier rit pulse interval count
