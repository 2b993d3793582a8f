-- The claims hold of every list of calls from a fresh detector.
use mathlib.Core.Path.{sym, ap, ◌∙◌}
use mathlib.Core.List.{List, [], ◌∷◌, ◌++◌}
use Rattle.detector.specs.declared.Detector.{Detector}
use Rattle.detector.specs.Notice.{event}
use Rattle.detector.specs.History.{Entry, ticked, Answered}
use Rattle.detector.specs.Run.{Call, history}
use Rattle.detector.specs.Claims.{Claims}
use Rattle.detector.proofs.Coupling.{AllAnswered, coupled}
use Rattle.detector.proofs.Lri.{lri_negative, unless_ric_lem}
use Rattle.detector.proofs.Events.{event-kind}

-- What every entry has, the entry at a split has.
answered-at : (later earlier : List Entry) (e : Entry) → AllAnswered (later ++ (e ∷ earlier)) → Answered earlier e
answered-at [] earlier e a = a.0
answered-at (x ∷ later) earlier e a = answered-at later earlier e a.1

pub claims : (cs : List Call) → Claims cs
claims cs =
    let c = coupled cs in
    let lri = ap (λ (d : Detector). d.lri) c.detector in
    record {
      request = ap (λ (d : Detector). d.request) c.detector;
      lri = lri;
      lri_value = λ n e. lri_negative (history cs) n (sym lri ∙ e);
      unless_ric = λ r. lri ∙ unless_ric_lem (history cs) c.answered r;
      cpc = ap (λ (d : Detector). d.cpc) c.detector;
      pcslr = ap (λ (d : Detector). d.pcslr) c.detector;
      since = ap (λ (d : Detector). d.since) c.detector;
      answered = λ later earlier e s. answered-at later earlier e (rw s at c.answered);
      events = λ later earlier pulse interval count s. event-kind earlier pulse (answered-at later earlier (ticked pulse (event interval count)) (rw s at c.answered));
    }
