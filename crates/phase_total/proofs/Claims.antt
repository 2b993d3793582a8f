-- What is claimed of charging by the count of the phase holds.
use Rattle.phase_total.specs.Claims.{Claims}
use Rattle.phase_total.proofs.Counted.{counted}
use Rattle.phase_total.proofs.Taken.{written, taken}

pub claims : Claims
claims = record { counted = counted; written = written; taken = taken }
