-- A descriptor that a line would accept is one that it would accept after a call that is not accepted, a tick say.
use Rattle.std.specs.Prelude.{Option, Some, None}
use mathlib.Core.Path.{◌≡◌, refl, sym}
use mathlib.Core.Bool.{Bool, true, false, not, true≢false}
use mathlib.Core.List.{List, [], ◌∷◌, ◌++◌}
use Prim.Native.Nat.{ℕ}
use native.Mathlib.Omega.{arith}
use borrow.Table.Steps.{cases}
use lib.Dec.{ltb}
use Rattle.tariff.specs.Tariffs.{is_endless, timed}
use Rattle.tariff.specs.declared.Schedule.{Schedule}
use Rattle.tariff.specs.declared.Tariff.{Tariff}
use Rattle.tariff.specs.declared.Tariff.TheVariants.{Idle, Endless, Counted, Phased as PhasedRuns, Ending}
use Rattle.steps.specs.Steps.{due_of, step_of}
use Rattle.phase_lists.specs.Lists.{Lists}
use Rattle.descriptor.specs.Refusals.{Cause, cause, ruling, descriptor_causes, tariff_causes, sound_burst}
use Rattle.descriptor.specs.declared.Refusal.TheVariants.{Burst, BurstRuns}
use Rattle.burst.specs.Bursts.{is_running, completes_of, aged_of}
use Rattle.burst.specs.declared.Burst.{Burst as Bursting}
use Rattle.ticking.specs.Moves.{burst_after, moved_by}
use Rattle.line.specs.Lines.{hook_of, period_of, no_period_of, audit_of, ask_of, tick_of, answered_by}
use Rattle.line.specs.declared.Line.{Line}
use Rattle.demand.specs.Names.{Front, TariffFront, BurstFront, TariffPart, NoTariff, KeepTariff, Rate, Em, Phased, BurstPart, NoBurst, KeepBurst, Start, KeepHook, Stop, Ruling, Ok, Err, Reading, unreadable, senseless, descriptor}
use Rattle.demand.specs.Calls.{Call, describe, ask, hook, period, no_period, audit, tick, Answer}
use Rattle.demand.specs.Serials.{is_change}
use Rattle.demand.specs.Machine.{ruling_of, Outcome, outcome, answered, step}
use Rattle.demand.proofs.Described.{change_of, describe-step}

-- ---- the table: an endless em more, or a burst less, turns nothing down
module _ (S : ℕ) (t : TariffPart) (ls : Lists) (b : BurstPart) where
  abbrev Allows : Bool → Bool → Type 0
  Allows e r = ruling (descriptor_causes S e r t ls b) ≡ Ok tt

more-endless : (S : ℕ) (t : TariffPart) (ls : Lists) (b : BurstPart) (r : Bool) → Allows S t ls b false r → Allows S t ls b true r
unfolding ruling
more-endless S NoTariff ls b r x = x
more-endless S KeepTariff ls b r x = x
more-endless S (Rate P) ls b r x = absurd (let o : ◌≡◌ {A = ℕ} 0 1 = cc in omega arith)
more-endless S (Em m) ls b r x = x
more-endless S Phased ls b r x = x

runs_last : (a : Bool) (cs : List Cause) → ruling (cs ++ (cause Burst a ∷ cause BurstRuns true ∷ [])) ≡ Ok tt → ⊥
unfolding ruling
runs_last true [] x = let o : ◌≡◌ {A = ℕ} 0 1 = cc in omega arith
runs_last false [] x = let o : ◌≡◌ {A = ℕ} 0 1 = cc in omega arith
runs_last a (cause r true ∷ cs) x = let o : ◌≡◌ {A = ℕ} 0 1 = cc in omega arith
runs_last a (cause r false ∷ cs) x = runs_last a cs x

less-burst : (S : ℕ) (t : TariffPart) (ls : Lists) (b : BurstPart) (e : Bool) → Allows S t ls b e true → Allows S t ls b e false
less-burst S t ls NoBurst e x = x
less-burst S t ls KeepBurst e x = x
less-burst S t ls (Start n P) e x = absurd (runs_last (not (sound_burst n P)) (tariff_causes S e true t ls) x)

allows-more : (S : ℕ) (t : TariffPart) (ls : Lists) (b : BurstPart) (e e' r r' : Bool) → (e ≡ true → e' ≡ true) → (r' ≡ true → r ≡ true) → Allows S t ls b e r → Allows S t ls b e' r'
allows-more S t ls b true true true true f g x = x
allows-more S t ls b true true true false f g x = less-burst S t ls b true x
allows-more S t ls b true true false true f g x = absurd (true≢false (sym (g refl)))
allows-more S t ls b true true false false f g x = x
allows-more S t ls b true false r r' f g x = absurd (true≢false (sym (f refl)))
allows-more S t ls b false true true true f g x = more-endless S t ls b true x
allows-more S t ls b false true true false f g x = less-burst S t ls b true (more-endless S t ls b true x)
allows-more S t ls b false true false true f g x = absurd (true≢false (sym (g refl)))
allows-more S t ls b false true false false f g x = more-endless S t ls b false x
allows-more S t ls b false false true true f g x = x
allows-more S t ls b false false true false f g x = less-burst S t ls b false x
allows-more S t ls b false false false true f g x = absurd (true≢false (sym (g refl)))
allows-more S t ls b false false false false f g x = x

-- ---- a tick: an em with C = 0 goes on, and no burst begins to run
due-endless : (D : ℕ) (ps : Schedule) (t : Tariff) → is_endless t ≡ true → is_endless (due_of D ps t).timed.tariff ≡ true
unfolding due_of
due-endless D ps Idle e = absurd (true≢false (sym e))
due-endless D ps (Endless P) e = refl
due-endless D ps (Counted m k) e = absurd (true≢false (sym e))
due-endless D ps (PhasedRuns q) e = absurd (true≢false (sym e))
due-endless D ps Ending e = absurd (true≢false (sym e))

endless-on : (D : ℕ) (ps : Schedule) (t : Tariff) (w : ℕ) → is_endless t ≡ true → is_endless (step_of D ps (timed t w)).timed.tariff ≡ true
unfolding step_of
endless-on D ps t w e = cases (ltb 1 w) (λ h. rw h e) (λ h. rw h (due-endless D ps t e))

burst-on : (f : Option Front) (b : Option Bursting) → is_running (burst_after f b) ≡ true → is_running b ≡ true
unfolding burst_after
burst-on None b e = e
burst-on (Some TariffFront) b e = e
burst-on (Some BurstFront) None e = e
burst-on (Some BurstFront) (Some b) e = e

aged-on : (D : ℕ) (b : Option Bursting) → is_running (aged_of D b).burst ≡ true → is_running b ≡ true
unfolding aged_of
aged-on D None e = e
aged-on D (Some b) e = cases (completes_of D b) (λ h. absurd (true≢false (sym (rw h at e)))) (λ h. rw h at e)

-- ---- each call
abbrev pub Favours : Reading → Line → Type 0
Favours d l = ruling_of l (describe None d) ≡ Ok tt

tick_favours : (d : Reading) (l : Line) → Favours d l → Favours d (tick_of l).line
unfolding tick_of moved_by
tick_favours unreadable l x = x
tick_favours senseless l x = x
tick_favours (descriptor t ls b) l x =
    let s = l.state in
    allows-more l.spacing t ls b _ _ _ _ (endless-on l.pulse l.schedule s.timed.tariff s.timed.wait) (λ e. aged-on l.pulse s.burst (burst-on _ (aged_of l.pulse s.burst).burst e)) x

-- a call that is not accepted
abbrev Keeps : Reading → Line → Outcome → Type 0
Keeps d l (outcome a l') = is_change a ≡ 0 → Favours d l → Favours d l'

ruled : (d : Reading) (u : Ruling) (l changed : Line) (k : ℕ) → Keeps d l (answered (answered_by u l changed k))
ruled d (Ok tt) l changed k = λ no x. absurd (omega arith)
ruled d (Err r) l changed k = λ no x. x

step_keeps : (d : Reading) (l : Line) (c : Call) → Keeps d l (step l c)
unfolding step ask_of hook_of period_of no_period_of audit_of
step_keeps d l (describe k e) = rw (describe-step l k e) (ruled d (ruling_of l (describe k e)) l (change_of e l) _)
step_keeps d l (ask e) = λ no x. x
step_keeps d l (hook KeepHook) = λ no x. absurd (omega arith)
step_keeps d l (hook Stop) = λ no x. absurd (omega arith)
step_keeps d l (period n) = ruled d (ruling_of l (period n)) l _ 0
step_keeps d l no_period = λ no x. absurd (omega arith)
step_keeps d l audit = λ no x. x
step_keeps d l tick = λ no x. tick_favours d l x

pub keeps : (d : Reading) (l l' : Line) (c : Call) (a : Answer) → step l c ≡ outcome a l' → is_change a ≡ 0 → Favours d l → Favours d l'
keeps d l l' c a e = rw e at (step_keeps d l c)
