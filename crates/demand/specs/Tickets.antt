-- Ask first, commit later: one claim about the history of every list of calls.
use Rattle.std.specs.Prelude.{◌≡◌, Bool, true, false, if◌then◌else◌, ◌&&◌, List, [], ◌∷◌, ◌++◌, ℕ, ◌+◌, ◌≤◌, ◌<◌, ◌==◌}
use Rattle.std.specs.Prelude.{None}
use Rattle.demand.specs.Names.{Reading}
use Rattle.demand.specs.Calls.{Call, describe, ask, hook, period, no_period, audit, tick}
use Rattle.demand.specs.Calls.{Answer, accepted, refused, asked, Entry}
use Rattle.demand.specs.Serials.{changes, serial_in}
use Rattle.demand.specs.Answers.{answer_after}
use Rattle.demand.specs.Machine.{commit, history}

-- a tick or an audit
abbrev pub is_quiet : Call → Bool
is_quiet (describe ticket d) = false
is_quiet (ask d) = false
is_quiet (hook event) = false
is_quiet (period rp) = false
is_quiet no_period = false
is_quiet audit = true
is_quiet tick = true

-- only ticks and audits
unfoldable pub only_quiet : List Entry → Bool
only_quiet [] = true
only_quiet (e ∷ h) = is_quiet e.call && only_quiet h

-- a serial at its top is refused with 17; else the answer is a
abbrev pub unless_top : ℕ → Answer → Answer
unless_top serial a = if serial == 4294967295 then refused 17 else a

-- a list of calls on a line of pulse length D and gap G
module _ (D G clock : ℕ) (cs : List Call) where
  abbrev h : List Entry
  h = history D G clock cs

  -- what the descriptor d gets after a history
  abbrev gets : List Entry → Reading → Answer
  gets before d = answer_after D (D + G) before (describe None d)

  -- the history has an ask a for d, later a commit c of d with the ticket n, and these entries between them
  pub record Committed (between : List Entry) (a c : Entry) (d : Reading) (n : ℕ) : Type 0 where
    pub after : List Entry
    pub before : List Entry
    pub split : h ≡ after ++ (c ∷ (between ++ (a ∷ before)))
    pub asks : a.call ≡ ask d
    pub commits : c.call ≡ commit n d

  pub record Tickets : Type 0 where
    -- asking answers what the descriptor would get, unless the serial is at its top, and the serial as the ticket
    pub asking : (after before : List Entry) (e : Entry) (d : Reading) → h ≡ after ++ (e ∷ before) → e.call ≡ ask d →
        e.answer ≡ asked (unless_top (serial_in before) (gets before d)) (serial_in before)
    -- committing refuses a ticket that differs from the serial with 16; else it is answered so too
    pub committing : (after before : List Entry) (e : Entry) (d : Reading) (n : ℕ) → h ≡ after ++ (e ∷ before) →
        e.call ≡ commit n d →
        e.answer ≡ (if n == serial_in before then unless_top (serial_in before) (gets before d) else refused 16)
    -- if asking was favourable and only ticks and audits have passed, committing is accepted
    pub favoured : (between : List Entry) (a c : Entry) (d : Reading) (n k : ℕ) → Committed between a c d n →
        a.answer ≡ asked (accepted k) n → only_quiet between ≡ true → (j : ℕ) × (c.answer ≡ accepted j)
    -- and so it is if no call was accepted in between
    pub unchanged : (between : List Entry) (a c : Entry) (d : Reading) (n k : ℕ) → Committed between a c d n →
        a.answer ≡ asked (accepted k) n → changes between ≡ 0 → (j : ℕ) × (c.answer ≡ accepted j)
    -- a call accepted in between makes the ticket a wrong one
    pub stale : (between : List Entry) (a c : Entry) (d : Reading) (n : ℕ) (would : Answer) →
        Committed between a c d n → a.answer ≡ asked would n → n < 4294967295 → 1 ≤ changes between →
        c.answer ≡ refused 16
