-- The events that the paper's example prints. And a notice, counters and the answers to asks of a card.
use Rattle.std.specs.Prelude.{◌≡◌, refl, true, false, Some, None, ◌++◌}
use Rattle.answers.specs.declared.Front.TheVariants.{Tariff as TariffFront, Burst as BurstFront}
use Rattle.printing.specs.Bytes.{bytes}
use Rattle.printing.specs.Text.{digits_of, tick_text, notice_text, counters_text, asked_text}
use Rattle.printing.specs.declared.Answer.TheVariants.{Ok, No}

-- the events of the paper's example from tick 201 on
pub output :
    tick_text 201 3 (record { tariff = false; burst = false; front = Some BurstFront; report = true })
    ++ tick_text 251 3 (record { tariff = false; burst = true; front = None; report = false })
    ++ tick_text 401 4 (record { tariff = false; burst = false; front = Some TariffFront; report = false })
    ≡ bytes "f 201 m 3\nr 201\nc 251 m\nf 401 b 4\n"
unfolding digits_of
output = refl

-- the notice of a burst that is complete, and of two reports
pub notice : notice_text 1_000 64 false true 2 ≡ bytes "n 1000 64 0 1 2\n"
unfolding digits_of
notice = refl

-- the notice of a tariff that is complete at the first tick, with no report
pub notice-first : notice_text 1 0 true false 0 ≡ bytes "n 1 0 1 0 0\n"
unfolding digits_of
notice-first = refl

-- the counters, the largest of them ten digits long
pub counters : counters_text 4_294_967_295 7 ≡ bytes "a 4294967295 7\n"
unfolding digits_of
counters = refl

-- an ask that would cancel three pulses, and one that would be refused; the ticket is 17
pub asked : asked_text (Ok 3) 17 ++ asked_text (No 8) 17 ≡ bytes "ok 3 17\nno 8 17\n"
unfolding digits_of
asked = refl
