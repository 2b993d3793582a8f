-- What each call on a detector answers and leaves, for every value of it.
use Rattle.std.specs.Prelude.{suc, Bool, true, false, if◌then◌else◌, pos, negsuc}
use Rattle.detector.specs.Values.{held_count, top_ticks, elapsed}
use Rattle.detector.specs.Request.{enabled, same_as, requested_by, Reply, ok, no, reply_of, reply_to}
use Rattle.detector.specs.Notice.{Notice, nothing, report, event, notice_of, notice_at}
use Rattle.detector.specs.declared.request.Request.{Request}
use Rattle.detector.specs.declared.request.Request.TheVariants.{Off}
use Rattle.detector.specs.declared.request.Events.{Events}
use Rattle.detector.specs.declared.Detector.{Detector}
use Rattle.detector.specs.declared.Requested.{Requested}
use Rattle.detector.specs.declared.Ticked.{Ticked}
use Rattle.detector.specs.declared.Audited.{Audited}

-- What a call hands back: the detector, and what it says.
pub record Outcome (A : Type 0) : Type 0 where
  pub detector : Detector
  pub answer : A

-- A fresh one is off, lri −1, its counters 0. Before the first pulse its ticks since the last stand at their top.
abbrev pub fresh : Detector
fresh = record { request = Off; lri = negsuc 0; cpc = 0; pcslr = 0; since = top_ticks }

-- The same request again changes nothing; another non-off one zeroes the counters and sets lri to −1; off sets lri
-- to −1 and leaves the counters.
abbrev pub changed_by : (same enables : Bool) → Request → Detector → Detector
changed_by true enables q d = d
changed_by false true q d = record { request = q; lri = negsuc 0; cpc = 0; pcslr = 0; since = d.since }
changed_by false false q d = record { request = q; lri = negsuc 0; cpc = d.cpc; pcslr = d.pcslr; since = d.since }

-- A request that is accepted, against the one that is on.
abbrev pub changed_to : Request → Detector → Detector
changed_to q d = changed_by (same_as q d.request) (enabled q) q d

-- A refused request leaves the detector as it was.
abbrev pub request_by : Detector → Events → Reply → Outcome Reply
request_by d events ok = record { detector = changed_to (requested_by events) d; answer = ok }
request_by d events (no number) = record { detector = d; answer = no number }

-- An events descriptor, accepted or refused.
abbrev pub request_of : Detector → Events → Outcome Reply
request_of d events = request_by d events (reply_to events)

-- What `request` hands back, in these terms.
abbrev pub requested_as : Requested → Outcome Reply
requested_as r = record { detector = r.detector; answer = reply_of r.answer }

-- Each pulse adds 1 to both counters, held.
abbrev pub pulsed : Bool → Detector → Detector
pulsed true d =
    record {
      request = d.request;
      lri = d.lri;
      cpc = held_count (suc d.cpc);
      pcslr = held_count (suc d.pcslr);
      since = 0;
    }
pulsed false d =
    record { request = d.request; lri = d.lri; cpc = d.cpc; pcslr = d.pcslr; since = elapsed d.since }

-- While it is off, ticks change nothing.
abbrev pub counted_of : Bool → Detector → Detector
counted_of pulse d = if enabled d.request then pulsed pulse d else d

-- A report zeroes pcslr. Each event zeroes pcslr, and its interval is the new lri.
abbrev pub notified : Detector → Notice → Detector
notified d nothing = d
notified d report = record { request = d.request; lri = d.lri; cpc = d.cpc; pcslr = 0; since = d.since }
notified d (event interval count) =
    record { request = d.request; lri = pos interval; cpc = d.cpc; pcslr = 0; since = d.since }

-- The detector after a notice, with the notice.
abbrev pub settled : Detector → Notice → Outcome Notice
settled d n = record { detector = notified d n; answer = n }

-- One tick, with or without a pulse.
abbrev pub tick_of : Detector → Bool → Outcome Notice
tick_of d pulse =
    settled (counted_of pulse d)
    (notice_at d.request pulse d.lri (elapsed d.since) (counted_of pulse d).pcslr)

-- What `tick` hands back, in these terms.
abbrev pub ticked_as : Ticked → Outcome Notice
ticked_as r = record { detector = r.detector; answer = notice_of r.notification }

-- Audit answers lri and both counters, and changes nothing.
abbrev pub audit_of : Detector → Audited
audit_of d = record { detector = d; lri = d.lri; cpc = d.cpc; pcslr = d.pcslr }
