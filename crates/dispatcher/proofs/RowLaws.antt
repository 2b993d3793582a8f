-- A row of which the first lines are ticked, and what their ticks told.
use mathlib.Core.Path.{◌≡◌, refl, sym, ap}
use mathlib.Core.Bool.{false}
use mathlib.Core.List.{List, [], ◌∷◌, ◌++◌, append-nil}
use Prim.Native.Nat.{ℕ, zero, suc, ◌<◌, ◌≤◌}
use native.Mathlib.Nat.{not-suc-le-zero, le_of_suc-le-suc}
use Rattle.std.proofs.lemmas.List.{take_all, drop_all}
use lib.ListN.{length, get_or, set, take, drop}
use Rattle.std.specs.Prelude.{Ok}
use Rattle.line.specs.Lines.{tick_of}
use Rattle.line.specs.declared.Line.{Line}
use Rattle.dispatcher.specs.Dispatch.{gathered, gather_all, waits_in, wrong_row, sent_by, after_tick, ticked_row, told_row, dispatch_of}
use Rattle.dispatcher.specs.ByLine.{with_waiting, gathered_at}
use Rattle.dispatcher.specs.declared.Waiting.{Waiting}
use Rattle.dispatcher.specs.declared.Dispatcher.{Dispatcher}

-- the row with its first i lines ticked
abbrev pub row_at : ℕ → List Line → List Line
row_at i ls = ticked_row (take i ls) ++ drop i ls

-- the dispatcher that has gathered what their ticks told
abbrev pub gathered_to : Dispatcher → ℕ → List Line → Dispatcher
gathered_to d i ls = with_waiting d (gather_all d.waiting (told_row (take i ls)))

-- all lines
pub row_end : (i : ℕ) (ls : List Line) → length ls ≤ i → row_at i ls ≡ ticked_row ls
row_end i ls h = rw (take_all i ls h, drop_all i ls h) (append-nil (ticked_row ls))

pub gather_none : (ws : List Waiting) → gather_all ws [] ≡ ws
unfolding gather_all
gather_none [] = refl
gather_none (w ∷ ws) = refl

-- ---- one line more, where o stands for what is read past the end
pub row_step : (o : Line) (i : ℕ) (ls : List Line) → i < length ls → set (row_at i ls) i (tick_of (get_or (row_at i ls) i o)).line ≡ row_at (suc i) ls
row_step o i [] h = absurd (not-suc-le-zero h)
row_step o zero (l ∷ ls) h = refl
row_step o (suc i) (l ∷ ls) h = ap (λ (zs : List Line). (tick_of l).line ∷ zs) (row_step o i ls (le_of_suc-le-suc h))

told-step : (o : Line) (i : ℕ) (ws : List Waiting) (ls : List Line) → i < length ls →
    set (gather_all ws (told_row (take i ls))) i (gathered (waits_in (gather_all ws (told_row (take i ls))) i) (tick_of (get_or (row_at i ls) i o)).tick)
    ≡ gather_all ws (told_row (take (suc i) ls))
unfolding gather_all
told-step o i ws [] h = absurd (not-suc-le-zero h)
told-step o zero [] (l ∷ ls) h = refl
told-step o (suc i) [] (l ∷ ls) h = refl
told-step o zero (w ∷ ws) (l ∷ ls) h = ap (λ (zs : List Waiting). gathered w (tick_of l).tick ∷ zs) (sym (gather_none ws))
told-step o (suc i) (w ∷ ws) (l ∷ ls) h = ap (λ (zs : List Waiting). gathered w (tick_of l).tick ∷ zs) (told-step o i ws ls (le_of_suc-le-suc h))

pub gather-step : (o : Line) (d : Dispatcher) (i : ℕ) (ls : List Line) → i < length ls → gathered_at (gathered_to d i ls) i (tick_of (get_or (row_at i ls) i o)).tick ≡ gathered_to d (suc i) ls
unfolding gathered_at
gather-step o d i ls h = ap (λ (zs : List Waiting). with_waiting d zs) (told-step o i d.waiting ls h)

-- what is answered once all lines of a row that is not refused are ticked
pub taken_end : (d : Dispatcher) (ls : List Line) → wrong_row d.length (length ls) ≡ false →
    record { dispatcher = after_tick d (length ls) (told_row ls); reply = Ok (sent_by d (length ls) (told_row ls)) } ≡ dispatch_of d ls
unfolding dispatch_of
taken_end d ls e = rw e
