-- The two tables of words, by what the definitions compute.
use mathlib.Core.Path.{◌≡◌}
use mathlib.Core.List.{List}
use Prim.Native.Nat.{ℕ, ◌+◌, ◌*◌, ◌/◌, ◌%◌, ◌≤◌, ◌<◌}
use native.Mathlib.Omega.{arith}
use lib.ListN.{get_or}
use Rattle.constants.specs.Tables.{table}
use Rattle.constants.proofs.Entries.{entry}
use Rattle.pulse_map.specs.Words.{hundred_word, ten_word}

-- row by row, word 0 and word 1
abbrev pub hundreds : List ℕ
hundreds = table (λ k. hundred_word (k / 2) (k % 2)) 0 202

abbrev pub tens : List ℕ
tens = table ten_word 0 11

pub hundreds-entry : (r h : ℕ) → r ≤ 100 → h < 2 → get_or hundreds (2 * r + h) 0 ≡ hundred_word r h
hundreds-entry r h p q =
    let row : (2 * r + h) / 2 ≡ r = omega arith in
    let word : (2 * r + h) % 2 ≡ h = omega arith in
    rw (row, word) at (entry (λ k. hundred_word (k / 2) (k % 2)) 202 (2 * r + h) (omega arith))

pub tens-entry : (r : ℕ) → r ≤ 10 → get_or tens r 0 ≡ ten_word r
tens-entry r p = entry ten_word 11 r (omega arith)
