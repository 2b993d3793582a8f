-- What a detector is asked for, and the answer.
use Rattle.std.specs.Prelude.{ℕ, Bool, true, false, if◌then◌else◌, ◌&&◌, ◌||◌, nat_lt, ◌==◌, is_some, Result, Ok, Err}
use Rattle.std.specs.Option.{option_map_or}
use Rattle.detector.specs.declared.request.Request.{Request}
use Rattle.detector.specs.declared.request.Request.TheVariants.{Off, Pr, Ric}
use Rattle.detector.specs.declared.request.Events.{Events}
use Rattle.detector.specs.declared.request.Refusal.{Refusal}
use Rattle.detector.specs.declared.request.Refusal.TheVariants.{OutOfRange, InvalidCombination}

-- Request: off, pr with rp, or ric with rit. One that is not off enables the detector.
abbrev pub enabled : Request → Bool
enabled Off = false
enabled (Pr rp) = true
enabled (Ric rit) = true

-- The event of a request: 0 none, 1 pr, 2 ric (0x0001 and 0x0002 of 7.2).
abbrev pub event_of : Request → ℕ
event_of Off = 0
event_of (Pr rp) = 1
event_of (Ric rit) = 2

-- The event's parameter, rp or rit.
abbrev pub parameter_of : Request → ℕ
parameter_of Off = 0
parameter_of (Pr rp) = rp
parameter_of (Ric rit) = rit

-- The same request: the same event with the same parameter (7.6.1).
abbrev pub same_as : Request → Request → Bool
same_as a b = event_of a == event_of b && parameter_of a == parameter_of b

-- pr and ric together.
abbrev pub together : Events → Bool
together events = is_some events.pr && is_some events.ric

-- Detector rp = 0, or rit over 60,000.
abbrev pub out_of_range : Events → Bool
out_of_range events =
    option_map_or (λ rp. rp == 0) events.pr false || option_map_or (λ rit. nat_lt 60000 rit) events.ric false

-- The request that an events descriptor makes: pr with rp, ric with rit, or off; one with both events is refused, and
-- makes none.
abbrev pub requested_by : Events → Request
requested_by events = if together events then Off else option_map_or Pr events.pr (option_map_or Ric events.ric Off)

-- What a request is answered: ok, or no and the number of the cause.
pub data Reply : Type 0 where
  ok : Reply
  no : (number : ℕ) → Reply

-- The number of a refusal in the paper's table.
abbrev pub detector_number : Refusal → ℕ
detector_number OutOfRange = 10
detector_number InvalidCombination = 459

-- The answer's meaning.
abbrev pub reply_of : Result Unit Refusal → Reply
reply_of (Ok u) = ok
reply_of (Err r) = no (detector_number r)

-- 459 comes before 10.
abbrev pub reply_to : Events → Reply
reply_to events = if together events then no 459 else if out_of_range events then no 10 else ok
