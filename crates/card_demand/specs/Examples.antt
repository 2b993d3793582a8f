-- Examples of notices, and of rate commands for a group, computed.
use Rattle.std.specs.Prelude.{◌≡◌, refl, true, false, List, [], ◌∷◌, ◌++◌, map, reverse, ℕ, zero, suc, replicate}
use Rattle.std.specs.Prelude.{Option, Some, None}
use Rattle.answers.specs.declared.Front.TheVariants.{Tariff}
use Rattle.answers.specs.declared.Tick.{Tick}
use Rattle.tariff.specs.Tariffs.{em as one_em, em_of, rate_of}
use Rattle.rules.specs.Rules.{sound_em, distance_of}
use Rattle.steps.specs.Steps.{step_of, due_of, after_counted}
use Rattle.burst.specs.Bursts.{completes_of, aged_of}
use Rattle.phase_lists.specs.Lists.{no_lists}
use Rattle.descriptor.specs.Refusals.{ruling}
use Rattle.descriptor.specs.declared.TariffPart.TheVariants.{Em}
use Rattle.descriptor.specs.declared.BurstPart.TheVariants.{Keep}
use Rattle.state.specs.States.{count_of, count_by}
use Rattle.ticking.specs.Moves.{moved_by, since_front, burst_after}
use Rattle.line.specs.Lines.{make_of, fresh_line, describe_of, tariff_changed, burst_changed, period_of, tick_of}
use Rattle.dispatcher.specs.Dispatch.{nothing, notice, gather_all, waits_in, first_from, fresh_dispatcher}
use Rattle.dispatcher.specs.Dispatch.{sent_by, after_tick}
use Rattle.dispatcher.specs.declared.Waiting.{Waiting}
use Rattle.dispatcher.specs.declared.Dispatcher.{Dispatcher}
use Rattle.dispatcher.specs.declared.Notice.{Notice}
use Rattle.group.specs.Groups.{named, outside, first_refusal, verdict_of}
use Rattle.demand.specs.Calls.{Call, period, Answer, accepted}
use Rattle.demand.specs.Machine.{parts, after_calls, step}
use Rattle.card_demand.specs.Card.{CardCall, on_line, tick_row, group, CardReply, done, sends, refuses}
use Rattle.card_demand.specs.Card.{row_after, Making, after_card_calls, card_past, card_history}
use Rattle.card_demand.specs.Reading.{line_history, since, left}

-- ---- three lines, each with a report in every tick: the last is heard in the third, and then each in every third

-- what a dispatcher sends in a row of n, where the lines tell these ticks one after the other
unfoldable pub sent_in_turn : Dispatcher → ℕ → List (List Tick) → List (Option Notice)
sent_in_turn d n [] = []
sent_in_turn d n (ts ∷ rest) = sent_by d n ts ∷ sent_in_turn (after_tick d n ts) n rest

abbrev pub reporting : Tick
reporting = record { tariff = false; burst = false; front = Some Tariff; report = true }

abbrev pub all_report : List Tick
all_report = reporting ∷ reporting ∷ reporting ∷ []

abbrev pub reports_only : ℕ → Waiting
reports_only n = record { tariff = false; burst = false; reports = n }

pub three-lines :
    sent_in_turn fresh_dispatcher 3 (all_report ∷ all_report ∷ all_report ∷ all_report ∷ all_report ∷ [])
    ≡ Some (notice 0 (reports_only 1))
    ∷ Some (notice 1 (reports_only 2))
    ∷ Some (notice 2 (reports_only 3))
    ∷ Some (notice 0 (reports_only 3))
    ∷ Some (notice 1 (reports_only 3))
    ∷ []
unfolding sent_in_turn fresh_dispatcher gather_all first_from
three-lines = refl

-- sixty_four lines, each with a report in every tick: 63 of the last wait after 63 ticks, and go in the next
unfoldable pub after_reports : ℕ → Dispatcher
after_reports zero = fresh_dispatcher
after_reports (suc k) = after_tick (after_reports k) 64 (replicate 64 reporting)

pub most-waiting : waits_in (after_reports 63).waiting 63 ≡ reports_only 63
unfolding after_reports fresh_dispatcher gather_all first_from
most-waiting = refl

pub last-heard : sent_by (after_reports 63) 64 (replicate 64 reporting) ≡ Some (notice 63 (reports_only 64))
unfolding after_reports fresh_dispatcher gather_all first_from
last-heard = refl

-- ---- cards of lines of pulse length 1 and gap 1

abbrev pub making : Making
making = record { D = 1; G = 1; clock = 0 }

abbrev pub replies : List Making → List CardCall → List CardReply
replies ms cs = map (λ e. e.reply) (reverse (card_history ms cs))

abbrev pub em : ℕ → ℕ → Call
em C P = parts (Em (one_em C P)) no_lists Keep

-- in the fifth tick of the dispatcher the lines at places 0 and 1 report, and the tariff of the line at place 2, whose
-- one pulse began in the fourth, completes; place 0 was served in the first
abbrev pub collision : List CardCall
collision =
    on_line 0 (period 1) ∷ on_line 0 (em 0 4) ∷ tick_row 3 ∷ tick_row 3 ∷ tick_row 3 ∷ on_line 2 (em 1 4) ∷ tick_row 3
    ∷ on_line 1 (period 1) ∷ on_line 1 (em 0 4) ∷ tick_row 3 ∷ []

abbrev pub tariff_mark : Waiting
tariff_mark = record { tariff = true; burst = false; reports = 0 }

-- the round goes on from place 1: 1, 2, 0
pub collision-sent :
    replies (replicate 3 making) (collision ++ (tick_row 3 ∷ tick_row 3 ∷ tick_row 3 ∷ []))
    ≡ done ∷ done ∷ sends (Some (notice 0 (reports_only 1))) ∷ sends None ∷ sends None ∷ done ∷ sends None
    ∷ done ∷ done ∷ sends (Some (notice 1 (reports_only 1)))
    ∷ sends (Some (notice 2 tariff_mark)) ∷ sends (Some (notice 0 (reports_only 1))) ∷ sends None ∷ []
unfolding card_past after_card_calls row_after after_calls step
    fresh_dispatcher gather_all first_from make_of fresh_line
    describe_of ruling sound_em distance_of tariff_changed burst_changed em_of period_of tick_of moved_by step_of due_of
    after_counted completes_of aged_of count_of count_by since_front burst_after
collision-sent = refl

-- after the fifth tick one report and the completion are left to tell
pub collision-left :
    map (left (card_history (replicate 3 making) collision)) (0 ∷ 1 ∷ 2 ∷ [])
    ≡ reports_only 1 ∷ nothing ∷ tariff_mark ∷ []
unfolding since card_past after_card_calls row_after after_calls step
    fresh_dispatcher gather_all first_from make_of fresh_line
    describe_of ruling sound_em distance_of tariff_changed burst_changed em_of period_of tick_of moved_by step_of due_of
    after_counted completes_of aged_of count_of count_by since_front burst_after
collision-left = refl

-- a first tick that is refused, for an empty row or for one of 65 lines, fixes no length; the first that is taken does
pub lengths :
    replies (replicate 65 making)
    (tick_row 0 ∷ tick_row 65 ∷ tick_row 2 ∷ tick_row 3 ∷ tick_row 1 ∷ tick_row 0 ∷ tick_row 2 ∷ [])
    ≡ refuses 14 ∷ refuses 14 ∷ sends None ∷ refuses 14 ∷ refuses 14 ∷ refuses 14 ∷ sends None ∷ []
unfolding card_past after_card_calls row_after after_calls step fresh_dispatcher
    gather_all first_from make_of fresh_line tick_of
    moved_by step_of due_of completes_of aged_of count_by since_front burst_after
lengths = refl

-- ---- rate commands for a group: an em with C = 0 runs on the lines at places 0 and 1, and nothing on that at place 2

abbrev pub slow : Making
slow = record { D = 2; G = 2; clock = 0 }

abbrev pub three : List Making
three = making ∷ slow ∷ making ∷ []

abbrev pub running : List CardCall
running = on_line 0 (em 0 8) ∷ on_line 1 (em 0 8) ∷ []

abbrev pub answers : List Making → List CardCall → ℕ → List Answer
answers ms cs i = map (λ e. e.answer) (reverse (line_history (card_history ms cs) i))

-- a line named twice takes it once, and a line that is not named takes nothing; an empty list does nothing
pub all_take :
    map (answers three (running ++ (group 3 (1 ∷ 0 ∷ 1 ∷ []) 9 ∷ group 3 [] 9 ∷ []))) (0 ∷ 1 ∷ 2 ∷ [])
    ≡ (accepted 0 ∷ accepted 0 ∷ []) ∷ (accepted 0 ∷ accepted 0 ∷ []) ∷ [] ∷ []
unfolding line_history card_past after_card_calls row_after after_calls
    step fresh_dispatcher named outside first_refusal
    verdict_of make_of fresh_line describe_of ruling sound_em distance_of tariff_changed burst_changed em_of rate_of
all_take = refl

-- 6 ticks are too few for the line at place 1, and no rate can be set at place 2: the first in list order tells; but a
-- place outside the lines lent comes before them, and the row before that
abbrev pub refused_groups : List CardCall
refused_groups =
    group 3 (0 ∷ 1 ∷ 2 ∷ []) 6 ∷ group 3 (0 ∷ 2 ∷ 1 ∷ []) 6 ∷ group 3 (2 ∷ 3 ∷ []) 6 ∷ group 2 (0 ∷ 2 ∷ []) 6
    ∷ group 0 (0 ∷ []) 6 ∷ []

pub first-refusal :
    replies three (running ++ refused_groups)
    ≡ done ∷ done ∷ refuses 4 ∷ refuses 3 ∷ refuses 15 ∷ refuses 15 ∷ refuses 14 ∷ []
unfolding card_past after_card_calls row_after after_calls step outside
    first_refusal verdict_of make_of fresh_line describe_of
    ruling sound_em distance_of tariff_changed burst_changed em_of
first-refusal = refl

-- and the line at place 0, which would take 6 ticks, stays as it is with all others
pub none-changes : (card_past three (running ++ refused_groups)).card ≡ (card_past three running).card
unfolding card_past after_card_calls row_after after_calls step outside
    first_refusal verdict_of make_of fresh_line describe_of
    ruling sound_em distance_of tariff_changed burst_changed em_of
none-changes = refl
