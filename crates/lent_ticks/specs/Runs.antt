-- A line after a number of ticks, and a row of lines after a number of ticks.
use Rattle.std.specs.Prelude.{ℕ, zero, suc, List, map}
use Rattle.line.specs.Lines.{tick_of}
use Rattle.line.specs.declared.Line.{Line}

-- a value after a number of steps
abbrev pub repeated : {T : Type 0} → (T → T) → ℕ → T → T
repeated once zero x = x
repeated once (suc n) x = once (repeated once n x)

-- a line after one tick
abbrev pub ticked_once : Line → Line
ticked_once l = (tick_of l).line

abbrev pub after_ticks : ℕ → Line → Line
after_ticks = repeated ticked_once

-- a row after one tick of each line
abbrev pub ticked_all : List Line → List Line
ticked_all ls = map ticked_once ls

abbrev pub row_after : ℕ → List Line → List Line
row_after = repeated ticked_all
