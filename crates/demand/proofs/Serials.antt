-- The serial of a line after each call: an accepted call adds 1 to it, held at its top.
use mathlib.Core.Path.{◌≡◌, refl, ap}
use Prim.Native.Nat.{ℕ, ◌+◌, min}
use native.Mathlib.Omega.{arith}
use Rattle.state.specs.Rules.{one_more}
use Rattle.tariff.specs.declared.Schedule.{Schedule}
use Rattle.line.specs.Lines.{hook_of, period_of, no_period_of, audit_of, ask_of, tick_of, answered_by, tariff_changed, burst_changed}
use Rattle.line.specs.declared.Line.{Line}
use Rattle.grammar.specs.Meaning.{Reading, unreadable, senseless, descriptor}
use Rattle.demand.specs.Names.{TariffPart, NoTariff, KeepTariff, Rate, Em, Phased, BurstPart, NoBurst, KeepBurst, Start, KeepHook, Stop, Ruling, Ok, Err}
use Rattle.demand.specs.Calls.{Call, describe, ask, hook, period, no_period, audit, tick, Answer, accepted, refused, asked, counters, ticked}
use Rattle.demand.specs.Serials.{is_change}
use Rattle.demand.specs.Machine.{ruling_of, Outcome, outcome, answered, step}
use Rattle.demand.proofs.Described.{change_of, describe-step}

abbrev pub serial_by : Answer → ℕ → ℕ
serial_by a n = elim a [ accepted k ↦ one_more n | refused m ↦ n | asked w m ↦ n | counters c m ↦ n | ticked t ↦ n ]

-- as the history counts them
pub serial-held : (a : Answer) (n : ℕ) → serial_by a (min 4294967295 n) ≡ min 4294967295 (is_change a + n)
serial-held (accepted k) n = omega arith
serial-held (refused m) n = omega arith
serial-held (asked w m) n = omega arith
serial-held (counters c m) n = omega arith
serial-held (ticked t) n = omega arith

-- the parts of a descriptor leave it
tariff-serial : (t : TariffPart) (ps : Schedule) (l : Line) → (tariff_changed t ps l).serial ≡ l.serial
unfolding tariff_changed
tariff-serial NoTariff ps l = refl
tariff-serial KeepTariff ps l = refl
tariff-serial (Rate P) ps l = refl
tariff-serial (Em m) ps l = refl
tariff-serial Phased ps l = refl

burst-serial : (b : BurstPart) (l : Line) → (burst_changed b l).serial ≡ l.serial
unfolding burst_changed
burst-serial NoBurst l = refl
burst-serial KeepBurst l = refl
burst-serial (Start n P) l = refl

change_serial : (d : Reading) (l : Line) → (change_of d l).serial ≡ l.serial
change_serial unreadable l = refl
change_serial senseless l = refl
change_serial (descriptor t ls b) l = rw (burst-serial b (tariff_changed t _ l), tariff-serial t _ l)

abbrev SerialOf : Line → Outcome → Type 0
SerialOf l (outcome a l') = l'.serial ≡ serial_by a l.serial

ruled : (u : Ruling) (l changed : Line) (k : ℕ) → changed.serial ≡ l.serial → SerialOf l (answered (answered_by u l changed k))
ruled (Ok tt) l changed k e = ap one_more e
ruled (Err r) l changed k e = refl

serial-step : (l : Line) (c : Call) → SerialOf l (step l c)
unfolding step hook_of period_of no_period_of audit_of ask_of tick_of
serial-step l (describe k d) = rw (describe-step l k d) (ruled (ruling_of l (describe k d)) l (change_of d l) _ (change_serial d l))
serial-step l (ask d) = refl
serial-step l (hook KeepHook) = refl
serial-step l (hook Stop) = refl
serial-step l (period n) = ruled (ruling_of l (period n)) l _ 0 refl
serial-step l no_period = refl
serial-step l audit = refl
serial-step l tick = refl

-- after a call that was answered a
pub serial-after : (l l' : Line) (c : Call) (a : Answer) → step l c ≡ outcome a l' → l'.serial ≡ serial_by a l.serial
serial-after l l' c a e = rw e at (serial-step l c)
