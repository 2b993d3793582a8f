-- What the paper says of a list of calls, read from the calls and their answers alone. A history is held newest first.
use Rattle.std.specs.Prelude.{◌≡◌, Bool, true, false, if◌then◌else◌, not, ◌&&◌, List, [], ◌∷◌, ◌⊎◌, ℕ, suc, ◌+◌, ℤ, pos}
use Rattle.std.specs.Prelude.{negsuc, ◌+ℤ◌, ◌-ℤ◌, ◌<ℤ◌}
use Rattle.detector.specs.declared.request.Request.{Request}
use Rattle.detector.specs.declared.request.Request.TheVariants.{Off, Pr, Ric}
use Rattle.detector.specs.declared.request.Events.{Events}
use Rattle.detector.specs.Values.{held_count, top_ticks, elapsed}
use Rattle.detector.specs.Request.{enabled, same_as, requested_by, Reply, ok, no, reply_to}
use Rattle.detector.specs.Notice.{Notice, nothing, report, event, notice_at}

-- A call with its answer.
pub data Entry : Type 0 where
  asked : (events : Events) (reply : Reply) → Entry
  ticked : (pulse : Bool) (notice : Notice) → Entry
  audited : (lri : ℤ) (cpc pcslr : ℕ) → Entry

-- The request that is on: the last that was accepted.
abbrev pub request_after : Entry → Request → Request
request_after (asked events ok) on = requested_by events
request_after (asked events (no number)) on = on
request_after (ticked pulse notice) on = on
request_after (audited lri cpc pcslr) on = on

-- A fresh one is off.
unfoldable pub request_in : List Entry → Request
request_in [] = Off
request_in (e ∷ h) = request_after e (request_in h)

-- An accepted request is another one than is on.
abbrev pub changes : Events → Reply → Request → Bool
changes events ok on = not (same_as (requested_by events) on)
changes events (no number) on = false

-- It is another one, and not off: the counters are zeroed.
abbrev pub restarts : Events → Reply → Request → Bool
restarts events reply on = changes events reply on && enabled (requested_by events)

-- The pulses that a tick adds: 1 where it has a pulse and the detector is enabled.
abbrev pub pulses_at : Request → Bool → ℕ
pulses_at on pulse = if enabled on && pulse then 1 else 0

-- The pulses since the last request that changed to a non-off one.
abbrev pub pulses_after : Entry → Request → ℕ → ℕ
pulses_after (asked events reply) on n = if restarts events reply on then 0 else n
pulses_after (ticked pulse notice) on n = n + pulses_at on pulse
pulses_after (audited lri cpc pcslr) on n = n

-- None before the first.
unfoldable pub pulses_in : List Entry → ℕ
pulses_in [] = 0
pulses_in (e ∷ h) = pulses_after e (request_in h) (pulses_in h)

-- The pulses since the last event or report, or since the counters were zeroed.
abbrev pub unreported_after : Entry → Request → ℕ → ℕ
unreported_after (asked events reply) on n = if restarts events reply on then 0 else n
unreported_after (ticked pulse nothing) on n = n + pulses_at on pulse
unreported_after (ticked pulse report) on n = 0
unreported_after (ticked pulse (event interval count)) on n = 0
unreported_after (audited lri cpc pcslr) on n = n

-- None before the first.
unfoldable pub unreported_in : List Entry → ℕ
unreported_in [] = 0
unreported_in (e ∷ h) = unreported_after e (request_in h) (unreported_in h)

-- The ticks since the last pulse that an enabled detector saw; ticks while it is off are not counted.
abbrev pub since_after : Entry → Request → ℕ → ℕ
since_after (asked events reply) on n = n
since_after (ticked true notice) on n = if enabled on then 0 else n
since_after (ticked false notice) on n = if enabled on then suc n else n
since_after (audited lri cpc pcslr) on n = n

-- Before the first pulse, as if one lay 1,000,000,000 ticks before the list.
unfoldable pub since_in : List Entry → ℕ
since_in [] = top_ticks
since_in (e ∷ h) = since_after e (request_in h) (since_in h)

-- lri: the interval of the last event since the request that is on was made, −1 if there is none.
abbrev pub lri_after : Entry → Request → ℤ → ℤ
lri_after (asked events reply) on lri = if changes events reply on then negsuc 0 else lri
lri_after (ticked pulse nothing) on lri = lri
lri_after (ticked pulse report) on lri = lri
lri_after (ticked pulse (event interval count)) on lri = pos interval
lri_after (audited lri₀ cpc pcslr) on lri = lri

-- A fresh one has lri −1.
unfoldable pub lri_in : List Entry → ℤ
lri_in [] = negsuc 0
lri_in (e ∷ h) = lri_after e (request_in h) (lri_in h)

-- e at the tick after h.
abbrev pub elapsed_in : List Entry → ℕ
elapsed_in h = elapsed (since_in h)

-- pcslr at the tick after h, once its pulse is counted.
abbrev pub counted_in : List Entry → Bool → ℕ
counted_in h pulse = held_count (unreported_in h + pulses_at (request_in h) pulse)

-- What a tick after h gives.
abbrev pub notice_after : List Entry → Bool → Notice
notice_after h pulse = notice_at (request_in h) pulse (lri_in h) (elapsed_in h) (counted_in h pulse)

-- An entry after h has the paper's answer.
abbrev pub Answered : List Entry → Entry → Type 0
Answered h (asked events reply) = reply ≡ reply_to events
Answered h (ticked pulse notice) = notice ≡ notice_after h pulse
Answered h (audited lri cpc pcslr) =
    (lri ≡ lri_in h) × (cpc ≡ held_count (pulses_in h)) × (pcslr ≡ held_count (unreported_in h))

-- ric is on.
abbrev pub RicOn : Request → Type 0
RicOn Off = ⊥
RicOn (Pr rp) = ⊥
RicOn (Ric rit) = Unit {0}

-- An interval is measured at lri 0, and at lri above 0 where e < lri − rit.
abbrev pub Measurable : List Entry → ℕ → Type 0
Measurable h rit = (lri_in h ≡ pos 0) ⊎ ((pos 0 <ℤ lri_in h) × (pos (elapsed_in h) <ℤ (lri_in h -ℤ pos rit)))

-- The events of a tick after h under ric with rit, with their numbers: of the first pulse, of an interval measured, of
-- silence.
pub data EventAfter (h : List Entry) (rit : ℕ) : Bool → ℕ → ℕ → Type 0 where
  first : lri_in h ≡ negsuc 0 → EventAfter h rit true 0 (counted_in h true)
  measured : Measurable h rit → EventAfter h rit true (elapsed_in h) (counted_in h true)
  silence : pos 0 <ℤ lri_in h → pos (elapsed_in h) ≡ lri_in h +ℤ pos rit → EventAfter h rit false 0 (counted_in h false)
