-- What a tick gives: the rules of pr and of ric, on plain numbers.
use Rattle.std.specs.Prelude.{ℕ, zero, suc, ◌+◌, Bool, true, false, if◌then◌else◌, ◌==◌, ℤ, pos, negsuc, Option, Some}
use Rattle.std.specs.Prelude.{None}
use Rattle.std.specs.Prelude.{◌-ℤ◌}
use Rattle.std.specs.Int.Signed.{lt_z}
use Rattle.detector.specs.declared.request.Request.{Request}
use Rattle.detector.specs.declared.request.Request.TheVariants.{Off, Pr, Ric}
use Rattle.detector.specs.declared.notification.Notification.{Notification}
use Rattle.detector.specs.declared.notification.Notification.TheVariants.{Report, Event}

-- What a tick gives: nothing, a report, or event (interval, count).
pub data Notice : Type 0 where
  nothing : Notice
  report : Notice
  event : (interval count : ℕ) → Notice

-- The values of a notification.
abbrev pub notice_of : Option Notification → Notice
notice_of None = nothing
notice_of (Some Report) = report
notice_of (Some (Event interval count)) = event interval count

-- The interval of an event; a report and nothing have none, and are taken as 0.
abbrev pub interval_of : Notice → ℕ
interval_of nothing = 0
interval_of report = 0
interval_of (event interval count) = interval

-- Under pr: if pcslr after the pulse equals rp, a report is given.
abbrev pub pr_notice : Bool → ℕ → ℕ → Notice
pr_notice true rp pcslr = if pcslr == rp then report else nothing
pr_notice false rp pcslr = nothing

-- Under ric a pulse at lri −1 gives event (0, pcslr); at lri 0, event (e, pcslr); at lri above 0, only if
-- e < lri − rit, event (e, pcslr).
abbrev pub pulse_notice : (lri : ℤ) (rit e pcslr : ℕ) → Notice
pulse_notice (negsuc n) rit e pcslr = event 0 pcslr
pulse_notice (pos zero) rit e pcslr = event e pcslr
pulse_notice (pos (suc n)) rit e pcslr = if lt_z (pos e) (pos (suc n) -ℤ pos rit) then event e pcslr else nothing

-- A tick without a pulse where lri > 0 and e = lri + rit gives event (0, pcslr).
abbrev pub silence_notice : (lri : ℤ) (rit e pcslr : ℕ) → Notice
silence_notice (negsuc n) rit e pcslr = nothing
silence_notice (pos zero) rit e pcslr = nothing
silence_notice (pos (suc n)) rit e pcslr = if e == suc n + rit then event 0 pcslr else nothing

-- Under ric, with or without a pulse.
abbrev pub ric_notice : Bool → (lri : ℤ) (rit e pcslr : ℕ) → Notice
ric_notice true = pulse_notice
ric_notice false = silence_notice

-- By the request that is on; pcslr is taken after the pulse was counted.
abbrev pub notice_at : Request → Bool → (lri : ℤ) (e pcslr : ℕ) → Notice
notice_at Off pulse lri e pcslr = nothing
notice_at (Pr rp) pulse lri e pcslr = pr_notice pulse rp pcslr
notice_at (Ric rit) pulse lri e pcslr = ric_notice pulse lri rit e pcslr
