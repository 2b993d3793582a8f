-- A descriptor by its table of phases: its ruling and its change of the tariff are those of its lists.
use mathlib.Core.Path.{◌≡◌, refl, ap, ◌∙◌}
use mathlib.Core.Bool.{Bool, not}
use mathlib.Core.List.{List}
use Prim.Native.Nat.{ℕ}
use borrow.Author.Tests.{not-false}
use borrow.Table.Steps.{cases}
use Rattle.tariff.specs.Tariffs.{is_endless}
use Rattle.phase_lists.specs.Lists.{Lists, phases_of, sound_lists, first_places}
use Rattle.phase_lists.specs.Tables.{schedule_in}
use Rattle.phase_lists.proofs.PhaseTables.{sound-table}
use Rattle.descriptor.specs.Refusals.{ruling, tariff_causes, burst_causes, descriptor_causes}
use Rattle.descriptor.specs.Rulings.{table_for}
use Rattle.descriptor.specs.Names.{Ruling}
use Rattle.std.specs.Prelude.{Result, Ok, Err}
use Rattle.descriptor.specs.declared.Refusal.{Refusal}
use Rattle.descriptor.specs.declared.TariffPart.{TariffPart}
use Rattle.descriptor.specs.declared.TariffPart.TheVariants.{None as NoTariff, Keep as KeepTariff, Rate, Em, Phased}
use Rattle.descriptor.specs.declared.BurstPart.{BurstPart}
use Rattle.burst.specs.Bursts.{is_running, burst_owed}
use Rattle.descriptor.specs.Cancelled.{cancelled_by}
use Rattle.line.specs.Lines.{scheduled, tariff_changed, refusing, answered_by, described_by, describe_of, read_answer, describe_text_of}
use Rattle.line.specs.declared.Answered.{Answered}
use Rattle.line.specs.declared.Line.{Line}
use Rattle.grammar.specs.Meaning.{Reading as Meant, unreadable, senseless, descriptor, reading_of}
use Rattle.outcomes.specs.Outcomes.{lists_of_reading}
use Rattle.outcomes.specs.declared.Reading.{Reading}
use Rattle.sg.specs.Readings.{read_of}
use Rattle.sg.proofs.Agreement.{Agrees, agrees}
use Rattle.sg.proofs.Nine.{sound_nine, nine_whole}
use Rattle.descriptor.proofs.Causes.{none_first, none_after}
use Rattle.descriptor.proofs.Rulings.{descriptor-ruling-is}

-- where the tariff part is allowed, the table holds the phases of its lists
tariff-changed-is : (S : ℕ) (e b : Bool) (t : TariffPart) (ls : Lists) (l : Line) → ruling (tariff_causes S e b t ls) ≡ Ok tt → tariff_changed t (schedule_in (table_for S t ls)) l ≡ tariff_changed t (scheduled (phases_of ls)) l
unfolding tariff_changed
tariff-changed-is S e b NoTariff ls l h = refl
tariff-changed-is S e b KeepTariff ls l h = refl
tariff-changed-is S e b (Rate P) ls l h = refl
tariff-changed-is S e b (Em m) ls l h = refl
tariff-changed-is S e b Phased ls l h =
    let sound = not-false (sound_lists ls) (none_first _ (not (sound_lists ls)) _ h).0 in
    let t = sound-table S ls sound in rw (t.0, t.1)

-- the changed line counts only where the descriptor is allowed
same_answer : (r : Ruling) (l : Line) {x y : Line} (k : ℕ) → (r ≡ Ok tt → x ≡ y) → answered_by r l x k ≡ answered_by r l y k
same_answer (Ok tt) l k h = rw (h refl)
same_answer (Err r) l k h = refl

-- a descriptor's answer from its table of phases is its answer from its lists
pub describe-is : (l : Line) (t : TariffPart) (ls : Lists) (p : BurstPart) → described_by l (record { tariff = t; table = table_for l.spacing t ls; burst = p }) ≡ describe_of l t ls p
unfolding describe_of
describe-is l t ls p =
    let S : ℕ = l.spacing in
    let e : Bool = is_endless l.state.timed.tariff in
    let b : Bool = is_running l.state.burst in
    rw (descriptor-ruling-is S e b t ls p)
    (same_answer (ruling (descriptor_causes S e b t ls p)) l (cancelled_by p (burst_owed l.state.burst))
    (λ h. rw (tariff-changed-is S e b t ls l (none_after (tariff_causes S e b t ls) (burst_causes S e b p) h).0)))

-- nine values of each list are enough
describe_nine : (l : Line) (t : TariffPart) (ls : Lists) (p : BurstPart) → describe_of l t (first_places ls 9) p ≡ describe_of l t ls p
unfolding describe_of ruling tariff_changed
describe_nine l NoTariff ls p = refl
describe_nine l KeepTariff ls p = refl
describe_nine l (Rate P) ls p = refl
describe_nine l (Em m) ls p = refl
describe_nine l Phased ls p = cases (sound_lists ls) (λ t. ap (λ (ms : Lists). describe_of l Phased ms p) (nine_whole ls t)) (λ t. rw (sound_nine ls, t))

-- what the code makes of a reading
abbrev taken : Line → Result Reading Refusal → Answered
taken l (Err r) = refusing l r
taken l (Ok q) =
    described_by l (record { tariff = q.tariff; table = table_for l.spacing q.tariff (lists_of_reading q); burst = q.burst })

read_is : (l : Line) (m : Meant) (r : Result Reading Refusal) → Agrees m r → taken l r ≡ read_answer l m
read_is l unreadable r h = ap (taken l) h
read_is l senseless r h = ap (taken l) h
read_is l (descriptor t ls b) (Err r) h = absurd h
read_is l (descriptor t ls b) (Ok q) h =
    rw (h.0, h.1, h.2) (describe-is l t (first_places ls 9) b ∙ describe_nine l t ls b)

-- a text's answer from what the reader keeps of it is its answer from its whole lists
pub text-is : (l : Line) (text : List ℕ) → taken l (read_of text) ≡ describe_text_of l text
unfolding describe_text_of
text-is l text = read_is l (reading_of text) (read_of text) (agrees text)
