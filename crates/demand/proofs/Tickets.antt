-- Ask first, commit later: what asking and committing answer after every list of calls, and when a ticket still holds.
use Rattle.std.specs.Prelude.{None, Some}
use mathlib.Core.Path.{◌≡◌, refl, sym, ap, ◌∙◌}
use mathlib.Core.Bool.{Bool, true, false, cond, not, and-eq-true_iff, true≢false}
use mathlib.Core.List.{List, [], ◌∷◌, ◌++◌}
use Prim.Native.Nat.{ℕ, ◌+◌, ◌^◌, min, ◌≤◌, ◌<◌}
use native.Mathlib.Omega.{arith}
use borrow.Author.Tests.{eq-eqb, ne_eqb}
use lib.Dec.{eqb}
use Rattle.descriptor.specs.Refusals.{ruling, sound_configuration}
use Rattle.descriptor.specs.Cancelled.{cancelled_by}
use Rattle.descriptor.specs.declared.Refusal.TheVariants.{Ticket, Serial}
use Rattle.line.specs.declared.Line.{Line}
use Rattle.demand.specs.Names.{Ruling, Ok, Err, Reading}
use Rattle.demand.specs.Calls.{Call, describe, ask, hook, period, no_period, audit, tick, Answer, accepted, refused, asked, Entry, asks}
use Rattle.demand.specs.History.{sum, owed}
use Rattle.demand.specs.Serials.{is_change, changes, serial_in}
use Rattle.demand.specs.Answers.{ruling_after, answer_after}
use Rattle.demand.specs.Machine.{history}
use Rattle.demand.specs.Tickets.{is_quiet, only_quiet, unless_top, Tickets}
use Rattle.demand.proofs.Counts.{sum_append}
use Rattle.demand.proofs.Coupled.{Config}
use Rattle.demand.proofs.AnswerKinds.{ruled_answer, ruled}
use Rattle.demand.proofs.Favour.{keeps}
use Rattle.demand.proofs.Run.{Run, more, cut, coupled, serial-is, rulings_agree, answer-right}
use Rattle.demand.proofs.Demand.{config, run-part}

-- ---- what the paper has them answer
by-ticket : (same top : Bool) (u : Ruling) (k : ℕ) → ruled_answer (cond (not same) (Err Ticket) (cond top (Err Serial) u)) k ≡ cond same (cond top (refused 17) (ruled_answer u k)) (refused 16)
by-ticket true true u k = refl
by-ticket true false u k = refl
by-ticket false top u k = refl

module _ (D S : ℕ) (h : List Entry) (d : Reading) where
  abbrev gets : Answer
  gets = answer_after D S h (describe None d)

  commit-answer : (n : ℕ) → answer_after D S h (describe (Some n) d) ≡ cond (eqb n (serial_in h)) (unless_top (serial_in h) gets) (refused 16)
  unfolding answer_after ruling
  commit-answer n = by-ticket (eqb n (serial_in h)) (eqb (serial_in h) 4294967295) (ruling_after D S h (describe None d)) (cancelled_by (asks (describe None d)).burst (owed h))

  -- asking is committing with the serial
  ask-answer : answer_after D S h (ask d) ≡ asked (unless_top (serial_in h) gets) (serial_in h)
  unfolding answer_after
  ask-answer =
      let same = eq-eqb (serial_in h) (serial_in h) refl in
      ap (λ (a : Answer). asked a (serial_in h)) (rw same at (commit-answer (serial_in h)))

  -- an answer that accepts shows that the table allows it, and that the serial is not at its top
  allowed-by : (u : Ruling) (k j : ℕ) → ruled_answer u k ≡ accepted j → u ≡ Ok tt
  allowed-by (Ok tt) k j e = refl
  allowed-by (Err r) k j e = absurd (let o : ◌≡◌ {A = ℕ} 0 1 = cc in omega arith)

  below_top : (top : Bool) (a : Answer) (j : ℕ) → cond top (refused 17) a ≡ accepted j → (top ≡ false) × (a ≡ accepted j)
  below_top true a j e = absurd (let o : ◌≡◌ {A = ℕ} 0 1 = cc in omega arith)
  below_top false a j e = (refl, e)

  gets-allowed : (j : ℕ) → gets ≡ accepted j → ruling_after D S h (describe None d) ≡ Ok tt
  unfolding answer_after
  gets-allowed j e = allowed-by (ruling_after D S h (describe None d)) _ j e

  allowed-gets : ruling_after D S h (describe None d) ≡ Ok tt → (j : ℕ) × (gets ≡ accepted j)
  unfolding answer_after
  allowed-gets e = (cancelled_by (asks (describe None d)).burst (owed h), sym (ruled D S h (describe None d) e))

-- a commit with the right ticket, below the top, gets what the descriptor gets
commit-gets : (D S : ℕ) (h : List Entry) (d : Reading) (n : ℕ) → n ≡ serial_in h → eqb (serial_in h) 4294967295 ≡ false →
    answer_after D S h (describe (Some n) d) ≡ answer_after D S h (describe None d)
commit-gets D S h d n same low = commit-answer D S h d n ∙ rw (eq-eqb n (serial_in h) same, low)

-- what an ask's answer holds
asked-parts : (v w : Answer) (m n : ℕ) → asked v m ≡ asked w n → (v ≡ w) × (m ≡ n)
asked-parts v w m n e = (cc, cc)

-- ---- from the ask to the commit
module _ (D S clock : ℕ) (cfg : Config D S) (small : clock < 2 ^ 32) where
  -- the entries in between, none of them accepted, leave what the line would accept
  between_keeps : {l : Line} (d : Reading) (between h : List Entry) → Run D S clock cfg (between ++ h) l → changes between ≡ 0 →
      ruling_after D S h (describe None d) ≡ Ok tt → ruling_after D S (between ++ h) (describe None d) ≡ Ok tt
  unfolding sum
  between_keeps d [] h r z e = e
  between_keeps d (x ∷ between) h (more {l = l} {l' = l'} {c = c} {a = a} r q) z e =
      let before = between_keeps d between h r (omega arith) e in
      let here = rulings_agree D S clock cfg (between ++ h) (coupled D S clock cfg small r) (serial-is D S clock cfg r) (describe None d) ∙ before in
      let there = keeps d l l' c a q (omega arith) here in
      sym (rulings_agree D S clock cfg (x ∷ (between ++ h)) (coupled D S clock cfg small (more r q)) (serial-is D S clock cfg (more r q)) (describe None d)) ∙ there

  -- ticks and audits are answered as such, so that none of them is accepted
  quiet-answer : (h : List Entry) (c : Call) → is_quiet c ≡ true → is_change (answer_after D S h c) ≡ 0
  unfolding answer_after
  quiet-answer h (describe k d) e = absurd (true≢false (sym e))
  quiet-answer h (ask d) e = absurd (true≢false (sym e))
  quiet-answer h (hook event) e = absurd (true≢false (sym e))
  quiet-answer h (period n) e = absurd (true≢false (sym e))
  quiet-answer h no_period e = absurd (true≢false (sym e))
  quiet-answer h audit e = refl
  quiet-answer h tick e = refl

  quiet-unchanged : {l : Line} (between h : List Entry) → Run D S clock cfg (between ++ h) l → only_quiet between ≡ true → changes between ≡ 0
  unfolding sum only_quiet
  quiet-unchanged [] h r e = refl
  quiet-unchanged (x ∷ between) h (more {c = c} {a = a} r q) e =
      let both = (and-eq-true_iff (is_quiet c) (only_quiet between)).0 e in
      let here : is_change a ≡ 0 = rw (answer-right D S clock cfg small (more r q)) (quiet-answer (between ++ h) c both.0) in
      omega (arith, here, quiet-unchanged between h r both.1)

  -- what the ask a told of the history before it
  pub record Told (a : Entry) (before : List Entry) (d : Reading) (would : Answer) (n : ℕ) : Type 0 where
    pub ticket : n ≡ serial_in before
    pub gets : unless_top (serial_in before) (answer_after D S before (describe None d)) ≡ would
    pub silent : is_change a.answer ≡ 0

  told-by : {l : Line} (a : Entry) (before : List Entry) (d : Reading) (would : Answer) (n : ℕ) → Run D S clock cfg (a ∷ before) l → a.call ≡ ask d → a.answer ≡ asked would n → Told a before d would n
  told-by a before d would n r c e =
      let right = answer-right D S clock cfg small r ∙ ap (answer_after D S before) c ∙ ask-answer D S before d in
      let parts = asked-parts _ _ _ _ (sym right ∙ e) in
      record { ticket = sym parts.1; gets = parts.0; silent = rw e refl }

  -- the serial at the commit: the accepted calls in between are added
  serial_between : (a : Entry) (between before : List Entry) → is_change a.answer ≡ 0 → changes (between ++ (a ∷ before)) ≡ changes between + changes before
  unfolding sum
  serial_between a between before z = sum_append _ between (a ∷ before) ∙ omega arith

  commit-right : {l : Line} (c : Entry) (h : List Entry) (d : Reading) (n : ℕ) → Run D S clock cfg (c ∷ h) l → c.call ≡ describe (Some n) d → c.answer ≡ answer_after D S h (describe (Some n) d)
  commit-right c h d n r e = answer-right D S clock cfg small r ∙ ap (answer_after D S h) e

  kept : {l : Line} (a c : Entry) (between before : List Entry) (d : Reading) (n k : ℕ) → Run D S clock cfg (c ∷ (between ++ (a ∷ before))) l → a.call ≡ ask d → c.call ≡ describe (Some n) d →
      a.answer ≡ asked (accepted k) n → changes between ≡ 0 → (j : ℕ) × (c.answer ≡ accepted j)
  unfolding sum
  kept a c between before d n k r ca cc' e z =
      let h = between ++ (a ∷ before) in
      let rh = (cut D S clock cfg (c ∷ []) h r).1 in
      let ra = (cut D S clock cfg between (a ∷ before) rh).1 in
      let told = told-by a before d (accepted k) n ra ca e in
      let low = below_top D S before d (eqb (serial_in before) 4294967295) _ k told.gets in
      let same : serial_in before ≡ serial_in h = ap (min 4294967295) (sym (serial_between a between before told.silent ∙ omega (arith, z))) in
      let allowed = between_keeps d (a ∷ []) before ra (omega (arith, told.silent)) (gets-allowed D S before d k low.1) in
      let got = allowed-gets D S h d (between_keeps d between (a ∷ before) rh z allowed) in
      (got.0, commit-right c h d n r cc' ∙ commit-gets D S h d n (told.ticket ∙ same) (rw (← same) low.0) ∙ got.1)

  staled : {l : Line} (a c : Entry) (between before : List Entry) (d : Reading) (n : ℕ) (would : Answer) → Run D S clock cfg (c ∷ (between ++ (a ∷ before))) l → a.call ≡ ask d → c.call ≡ describe (Some n) d →
      a.answer ≡ asked would n → n < 4294967295 → 1 ≤ changes between → c.answer ≡ refused 16
  staled a c between before d n would r ca cc' e low one =
      let h = between ++ (a ∷ before) in
      let rh = (cut D S clock cfg (c ∷ []) h r).1 in
      let told = told-by a before d would n (cut D S clock cfg between (a ∷ before) rh).1 ca e in
      let count = serial_between a between before told.silent in
      commit-right c h d n r cc' ∙ commit-answer D S h d n ∙ rw (ne_eqb n (serial_in h) (λ z. omega (arith, told.ticket, count, z)))

-- ---- of every list of calls
module _ (D G clock : ℕ) (sound : sound_configuration D G ≡ true) (small : clock < 2 ^ 32) (cs : List Call) where
  abbrev S : ℕ
  S = D + G

  abbrev cfg : Config D S
  cfg = config D G sound

  abbrev runs : (a h : List Entry) → history D G clock cs ≡ a ++ h → (l : Line) × Run D S clock cfg h l
  runs a h e = run-part D G clock sound small cs a h e

  pub tickets : Tickets D G clock cs
  tickets = record {
    asking = λ after before e d q c. answer-right D S clock cfg small (runs after (e ∷ before) q).1 ∙ ap (answer_after D S before) c ∙ ask-answer D S before d;
    committing = λ after before e d n q c. commit-right D S clock cfg small e before d n (runs after (e ∷ before) q).1 c ∙ commit-answer D S before d n;
    favoured = λ between a c d n k x e quiet.
        let r = (runs x.after (c ∷ (between ++ (a ∷ x.before))) x.split).1 in
        let z = quiet-unchanged D S clock cfg small between (a ∷ x.before) (cut D S clock cfg (c ∷ []) (between ++ (a ∷ x.before)) r).1 quiet in
        kept D S clock cfg small a c between x.before d n k r x.asks x.commits e z;
    unchanged = λ between a c d n k x e z. kept D S clock cfg small a c between x.before d n k (runs x.after (c ∷ (between ++ (a ∷ x.before))) x.split).1 x.asks x.commits e z;
    stale = λ between a c d n would x e low one. staled D S clock cfg small a c between x.before d n would (runs x.after (c ∷ (between ++ (a ∷ x.before))) x.split).1 x.asks x.commits e low one;
  }
