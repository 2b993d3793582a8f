-- The pulses of a phase's first k intervals, from its X's.
use mathlib.Core.Path.{◌≡◌, refl, ap, ◌∙◌}
use mathlib.Core.Logic.{⊎_elim}
use Prim.Native.Nat.{ℕ, zero, suc, ◌+◌, ◌-◌, ◌*◌, ◌/◌, ◌%◌, ◌≤◌, ◌<◌}
use native.Mathlib.Nat.{zero-mul, suc-mul, zero-div, zero-mod, mod-lt, div-add-mod', div-eq_of_lt-le}
use native.Mathlib.Omega.{arith}
use lib.ListN.{take}
use lib.Seq.{take_all}
use Rattle.pulse_map.specs.Map.{Entry, X, N, map_of, bit_of, xs_in}
use Rattle.pulse_map.specs.Pulses.{pulses_of, entry_of, pulses_in}
use Rattle.std.proofs.lemmas.Bool.{cases_lt}
use Rattle.pulse_map.proofs.Laws.{bit_le, map_xs, map-length, prefix_step}

-- one interval more: the next element of the map, or the first of the map's next turn
module _ (l k : ℕ) (pos : 0 < l) where
  same_turn : suc (k % l) < l → suc k / l ≡ k / l
  same_turn h = div-eq_of_lt-le l (omega (arith, div-add-mod' k l)) (omega (arith, div-add-mod' k l))

  next_element : suc (k % l) < l → suc k % l ≡ suc (k % l)
  next_element h = omega (arith, div-add-mod' k l, rw (same_turn h) at (div-add-mod' (suc k) l))

  next-turn : l ≤ suc (k % l) → suc k / l ≡ suc (k / l)
  next-turn h = div-eq_of_lt-le l (omega (arith, div-add-mod' k l, mod-lt k pos, suc-mul (k / l) l)) (omega (arith, div-add-mod' k l, mod-lt k pos))

  first_element : l ≤ suc (k % l) → suc k % l ≡ 0
  first_element h = omega (arith, div-add-mod' k l, mod-lt k pos, suc-mul (k / l) l, rw (next-turn h) at (div-add-mod' (suc k) l))

-- an X is one pulse where each X has one and each N none
bit-pulses : (e : Entry) → pulses_of 1 0 e ≡ bit_of e
bit-pulses X = refl
bit-pulses N = refl

-- an interval of entry e after k intervals with xs X's
one_more_lem : (pcx pcn xs k : ℕ) (e : Entry) → xs ≤ k
    → xs * pcx + (k - xs) * pcn + pulses_of pcx pcn e ≡ (xs + pulses_of 1 0 e) * pcx + (suc k - (xs + pulses_of 1 0 e)) * pcn
one_more_lem pcx pcn xs k X h =
    let rest : suc k - (xs + 1) ≡ k - xs = omega arith in
    rw rest (omega arith)
one_more_lem pcx pcn xs k N h =
    let rest : suc k - (xs + 0) ≡ suc (k - xs) = omega arith in
    rw rest (omega (arith, suc-mul (k - xs) pcn))

module _ (repx repn : ℕ) where
  -- the X's of the first k intervals
  abbrev xs_over : ℕ → ℕ
  xs_over k = pulses_in 1 repx 0 repn k

  pub over_le : (k : ℕ) → xs_over k ≤ k
  unfolding pulses_in
  over_le zero = omega arith
  over_le (suc k) = omega (arith, over_le k, bit_le (entry_of repx repn k), bit-pulses (entry_of repx repn k))

  -- each X has pcx pulses, and each other interval pcn
  pub pulses-over : (pcx pcn k : ℕ) → pulses_in pcx repx pcn repn k ≡ xs_over k * pcx + (k - xs_over k) * pcn
  unfolding pulses_in
  pulses-over pcx pcn zero = omega (arith, zero-mul pcx, zero-mul pcn)
  pulses-over pcx pcn (suc k) =
      ap (λ (p : ℕ). p + pulses_of pcx pcn (entry_of repx repn k)) (pulses-over pcx pcn k)
      ∙ one_more_lem pcx pcn (xs_over k) k (entry_of repx repn k) (over_le k)

  -- a whole turn of the map has repx X's
  turn : (j : ℕ) → repx + repn ≤ j → xs_in (take j (map_of repx repn)) ≡ repx
  turn j h = ap xs_in (take_all j (map_of repx repn) (rw map-length h)) ∙ map_xs repx repn

  -- the X's of the whole turns, and of the turn begun
  pub turns : 0 < repx + repn → (k : ℕ) → xs_over k ≡ k / (repx + repn) * repx + xs_in (take (k % (repx + repn)) (map_of repx repn))
  unfolding pulses_in xs_in
  turns pos zero = rw (zero-div, zero-mod, zero-mul)
  turns pos (suc k) =
      let l = repx + repn in
      ⊎_elim
      (λ h. rw (next-turn l k pos (omega arith), first_element l k pos (omega arith))
      (omega (arith, turns pos k, bit-pulses (entry_of repx repn k), prefix_step (map_of repx repn) (k % l), suc-mul (k / l) repx, turn (suc (k % l)) (omega arith))))
      (λ h. rw (same_turn l k pos h, next_element l k pos h)
      (omega (arith, turns pos k, bit-pulses (entry_of repx repn k), prefix_step (map_of repx repn) (k % l))))
      (cases_lt l (suc (suc (k % l))))
