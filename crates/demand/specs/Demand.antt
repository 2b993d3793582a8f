-- Demand 3: one claim about the history of every list of calls.
use Rattle.std.specs.Prelude.{◌≡◌, true, if◌then◌else◌, ◌↔◌, List, [], ◌∷◌, ◌++◌, ℕ, ◌+◌, ◌-◌, ◌*◌, ◌%◌, ◌^◌, min}
use Rattle.std.specs.Prelude.{max, ◌≤◌}
use Rattle.std.specs.Prelude.{nat_lt, Some}
use Rattle.demand.specs.Names.{TariffFront, BurstFront, Pulse, Stop, NoBurst, KeepBurst, Start}
use Rattle.demand.specs.Names.{TariffPart, NoTariff, KeepTariff, Rate, Em, Phased, is_front, slot_at}
use Rattle.demand.specs.Calls.{Call, hook, audit, Answer, accepted, counters, Entry}
use Rattle.demand.specs.History.{granted, front_of, ticks, accepted_pulses, begun, cancelled, owed, last_front}
use Rattle.demand.specs.History.{pulse_on, running, fronts_since_em, since_report}
use Rattle.demand.specs.Answers.{answer_after}
use Rattle.demand.specs.Machine.{history}

-- em and phased are fresh tariffs
abbrev pub is_fresh : TariffPart → ℕ
is_fresh t = elim t [ NoTariff ↦ 0 | KeepTariff ↦ 0 | Rate P ↦ 0 | Em m ↦ 1 | Phased ↦ 1 ]

-- of the entries after the start of a burst of n pulses, rest, those before its last pulse, or all if it has not begun
unfoldable pub before_last : (Entry → ℕ) → ℕ → List Entry → ℕ
before_last f n [] = 0
before_last f n (e ∷ rest) = (if nat_lt (begun rest) n then f e else 0) + before_last f n rest

-- R: the fresh tariffs accepted there
abbrev pub fresh_before : ℕ → List Entry → ℕ
fresh_before n rest = before_last (λ e. is_fresh (granted e).tariff) n rest

-- burst parts none and hook stops accepted there: the burst is cancelled before its last pulse if there is one
abbrev pub cancels_before : ℕ → List Entry → ℕ
cancels_before n rest = before_last (λ e. elim (granted e).burst [ NoBurst ↦ 1 | KeepBurst ↦ 0 | Start m P ↦ 0 ]) n rest

-- (2n + 1) S + (n − 1) B + R × 2S, B the larger of P and S
abbrev pub deadline : ℕ → ℕ → ℕ → ℕ → ℕ
deadline S n P R = (2 * n + 1) * S + (n - 1) * max P S + R * (2 * S)

-- the burst's last pulse, its n-th, begins within k ticks
abbrev pub LastBegins : ℕ → ℕ → List Entry → Type 0
LastBegins n k rest =
    (after until : List Entry) × (e : Entry) × (rest ≡ after ++ (e ∷ until)) × (front_of e ≡ Some BurstFront) ×
    (begun until + 1 ≡ n) × (ticks (e ∷ until) ≤ k)

-- a list of calls on a line of pulse length D and gap G
module _ (D G clock : ℕ) (cs : List Call) where
  abbrev S : ℕ
  S = D + G

  abbrev h : List Entry
  h = history D G clock cs

  -- a call put at the end of the list gets the answer a
  abbrev pub EndAnswers : Call → Answer → Type 0
  EndAnswers c a = (e : Entry) × (history D G clock (cs ++ (c ∷ [])) ≡ e ∷ h) × (e.answer ≡ a)

  -- an entry after those before it: its answer is the paper's, and the clock counts ticks modulo 2^32
  pub record Follows (e : Entry) (before : List Entry) : Type 0 where
    pub answer : e.answer ≡ answer_after D S before e.call
    pub clock-reads : e.clock ≡ (clock + ticks (e ∷ before)) % 2 ^ 32

  pub record Demand3 : Type 0 where
    -- every call is answered as the paper has it: it is accepted exactly when no cause to refuse it applies
    pub follows : (after before : List Entry) (e : Entry) → h ≡ after ++ (e ∷ before) → Follows e before
    -- every burst pulse accepted was begun, was reported cancelled, or is owed
    pub sum : accepted_pulses h ≡ begun h + cancelled h + owed h
    -- a hook stop at the end answers what is owed
    pub stop : EndAnswers (hook Stop) (accepted (owed h))
    -- a burst that is not cancelled before its last pulse begins it in time, if so many ticks follow
    pub bound : (rest before : List Entry) (e : Entry) (n P : ℕ) → h ≡ rest ++ (e ∷ before) →
        (granted e).burst ≡ Start n P → cancels_before n rest ≡ 0 →
        deadline S n P (fresh_before n rest) ≤ ticks rest → LastBegins n (deadline S n P (fresh_before n rest)) rest
    -- a tariff pulse begins at a tick exactly when what runs has a pulse slot there
    pub slots : (after before : List Entry) (e : Entry) → h ≡ after ++ (e ∷ before) → (granted e).tick ≡ true →
        (front_of e ≡ Some TariffFront) ↔ (slot_at (running D S before) (ticks before + 1) ≡ Some Pulse)
    -- any two fronts are at least S apart
    pub spacing : (after between before : List Entry) (f e : Entry) → h ≡ after ++ (f ∷ (between ++ (e ∷ before))) →
        is_front (front_of f) ≡ 1 → is_front (front_of e) ≡ 1 → S ≤ ticks (f ∷ between)
    -- a pulse is on in the line that a call hands back or leaves exactly when the last front is fewer than D ticks back
    pub on : (after before : List Entry) (e : Entry) → h ≡ after ++ (e ∷ before) →
        e.on ≡ pulse_on D (last_front (e ∷ before)) (ticks (e ∷ before))
    -- the total counter is the fronts since the last fresh em, held
    pub total : EndAnswers audit (counters (min 4294967295 (fronts_since_em h)) (since_report h))
