-- What the dispatcher keeps is what a history says, and no line is passed over for long.
use mathlib.Core.Path.{◌≡◌, refl, sym, ap, subst, fun_ext, ◌∙◌}
use mathlib.Core.Bool.{Bool, true, false, cond, true≢false}
use mathlib.Core.List.{List, [], ◌∷◌, ◌++◌, map}
use Prim.Native.Nat.{ℕ, ◌+◌, min, ◌≤◌, ◌<◌}
use native.Mathlib.Decide.{dec_lt}
use native.Mathlib.Omega.{arith}
use borrow.Author.Tests.{eqb-true, eqb-false}
use lib.Dec.{eqb}
use lib.ListN.{length, get_or, length-set, get_or-map}
use Rattle.answers.specs.Fronts.{silent}
use Rattle.answers.specs.declared.Tick.{Tick}
use Rattle.dispatcher.specs.Dispatch.{nothing, notice, tells, gather_all, waits_in, place_after, turn_of, fresh_dispatcher, wrong_row, sent_of, served_by, sent_by, after_tick}
use Rattle.dispatcher.specs.declared.Waiting.{Waiting}
use Rattle.dispatcher.specs.declared.Dispatcher.{Dispatcher}
use Rattle.dispatcher.specs.declared.Notice.{Notice}
use Rattle.std.specs.Prelude.{Option, Some, None}
use Rattle.std.specs.Option.{option_or, unwrap_or}
use Rattle.demand.specs.Calls.{Entry}
use Rattle.card_demand.specs.Card.{CardCall, tick_row, done, sends, refuses, CardEntry, card_entry, told_in}
use Rattle.card_demand.specs.Reading.{is_tick, number, lent, row_in, row_length, next_in, reported, fallen, since, sent_reports, left, due}
use Rattle.card_demand.proofs.Round.{Round, nobody, turn-of, Foremost, going_round_lem, Passed, nearer, passed-few, passed-zero, after-inside}
use Rattle.card_demand.proofs.Gather.{gather-length, gather-at, cleared_at, fresh_at, gathered-telling, few-step}

-- the last ticks of the dispatcher, one after the other, that left the line at place i with something to tell
unfoldable pub unheard : List CardEntry → ℕ → ℕ
unheard [] i = 0
unheard (e ∷ h) i = cond (is_tick e) (cond (tells (left (e ∷ h) i)) (unheard h i + 1) 0) (unheard h i)

-- what fell since a notice is among what fell in all
pub since-most : (f : Tick → Bool) (h : List CardEntry) (i : ℕ) → since f h i ≤ fallen f h i
unfolding since number
since-most f [] i = omega arith
since-most f (e ∷ h) i = grind (arith, since-most f h i)

-- a row of n is that of the history, or the history has none
abbrev pub May : Option ℕ → ℕ → Type 0
May None n = Unit {0}
May (Some k) n = k ≡ n

pub may-own : (row : Option ℕ) → May row (unwrap_or row 0)
may-own None = tt
may-own (Some k) = refl

-- ---- an accepted row
pub record Row (row : Option ℕ) (n : ℕ) : Type 0 where
  pub some-line : 0 < n
  pub most : n ≤ 64
  pub may : May row n

pub accepted-row : (row : Option ℕ) (n : ℕ) → wrong_row row n ≡ false → Row row n
accepted-row None n h = record { some-line = grind arith; most = grind arith; may = tt }
accepted-row (Some k) n h = record { some-line = grind arith; most = grind arith; may = grind arith }

-- the first row stays
row_stays : (N k : ℕ) (after h : List CardEntry) → row_in N h ≡ Some k → row_in N (after ++ h) ≡ Some k
unfolding row_in
row_stays N k [] h q = q
row_stays N k (e ∷ after) h q = by (is_tick e) (row_stays N k after h q)
  where
    by : (t : Bool) → row_in N (after ++ h) ≡ Some k → cond t (option_or (row_in N (after ++ h)) (Some (lent N e.call))) (row_in N (after ++ h)) ≡ Some k
    by true q = rw q
    by false q = q

pub may-stay : (N : ℕ) (after h : List CardEntry) → 0 < row_length N h → May (row_in N (after ++ h)) (row_length N h)
may-stay N after h l = by (row_in N h) refl l
  where
    by : (r : Option ℕ) → row_in N h ≡ r → 0 < unwrap_or r 0 → May (row_in N (after ++ h)) (unwrap_or r 0)
    by None e l = absurd (omega arith)
    by (Some k) e l = rw (row_stays N k after h e) refl

row_now : (row : Option ℕ) (n : ℕ) → May row n → option_or row (Some n) ≡ Some n
row_now None n may = refl
row_now (Some k) n may = ap (λ (x : ℕ). Some x) may

-- on a card of N lines
module _ (N : ℕ) where
  pub record Kept (h : List CardEntry) (d : Dispatcher) : Type 0 where
    pub row : d.length ≡ row_in N h
    pub next : d.next ≡ next_in N h
    pub places : length d.waiting ≡ 64
    pub waits : (i : ℕ) → waits_in d.waiting i ≡ left h i
    pub few : (i : ℕ) → since reported h i ≤ unheard h i
    pub fits : row_length N h ≤ 64
    pub passed : (n i : ℕ) → May (row_in N h) n → i < n → Passed n (next_in N h) i (unheard h i)
    pub outside : (f : Tick → Bool) → f silent ≡ false → (i : ℕ) → row_length N h ≤ i → fallen f h i ≡ 0
    pub sum : (i : ℕ) → fallen reported h i ≡ sent_reports h i + since reported h i

  -- ---- a fresh dispatcher, and a call that is no tick of it
  pub kept_fresh : Kept [] fresh_dispatcher
  unfolding row_in next_in since unheard number sent_reports fresh_dispatcher
  kept_fresh = record {
    row = refl;
    next = refl;
    places = refl;
    waits = λ i. fresh_at 64 i;
    few = λ i. omega arith;
    fits = omega arith;
    passed = λ n i may l. passed-zero n 0 i (omega arith) l;
    outside = λ f e i l. refl;
    sum = λ i. refl;
  }

  module _ (h : List CardEntry) (d : Dispatcher) (k : Kept h d) (c : CardCall) (rows : List (List Entry)) where
    pub kept-done : Kept (card_entry c done rows ∷ h) d
    unfolding row_in next_in since unheard number sent_reports
    kept-done = record {
      row = k.row;
      next = k.next;
      places = k.places;
      waits = k.waits;
      few = k.few;
      fits = k.fits;
      passed = k.passed;
      outside = k.outside;
      sum = k.sum;
    }

    pub kept-refused : (r : ℕ) → Kept (card_entry c (refuses r) rows ∷ h) d
    unfolding row_in next_in since unheard number sent_reports
    kept-refused r = record {
      row = k.row;
      next = k.next;
      places = k.places;
      waits = k.waits;
      few = k.few;
      fits = k.fits;
      passed = k.passed;
      outside = k.outside;
      sum = k.sum;
    }

  -- ---- a tick of a row of n whose lines made the entries rows
  module _ (h : List CardEntry) (d : Dispatcher) (k : Kept h d) (m : ℕ) (rows : List (List Entry)) (ok : Row (row_in N h) (min m N))
      (out : (i : ℕ) → min m N ≤ i → get_or rows i [] ≡ []) where
    abbrev n : ℕ
    n = min m N

    abbrev ws : List Waiting
    ws = gather_all d.waiting (map told_in rows)

    -- its entry, whatever it sends
    abbrev e : Option Notice → CardEntry
    e s = card_entry (tick_row m) (sends s) rows

    -- what there is to tell in it, whatever it sends
    abbrev w : ℕ → Waiting
    w = due (e None) h

    row_is : (s : Option Notice) → row_in N (e s ∷ h) ≡ Some n
    unfolding row_in
    row_is s = row_now (row_in N h) n ok.may

    length_is : (s : Option Notice) → row_length N (e s ∷ h) ≡ n
    length_is s = ap (λ (r : Option ℕ). unwrap_or r 0) (row_is s)

    told_at_lem : (i : ℕ) → get_or (map told_in rows) i silent ≡ told_in (get_or rows i [])
    told_at_lem i = get_or-map told_in rows i []

    -- few reports wait where one comes
    room : (i : ℕ) → (told_in (get_or rows i [])).report ≡ true → since reported h i < 4294967295
    room i t = by (dec_lt i n)
      where
        by : Dec (i < n) → since reported h i < 4294967295
        by (yes l) = omega (arith, k.few i, passed-few n (next_in N h) i (unheard h i) l (k.passed n i ok.may l), ok.most)
        by (no l) = absurd (true≢false (sym t ∙ ap (λ (x : List Entry). (told_in x).report) (out i (omega arith))))

    waits-due : (i : ℕ) → waits_in ws i ≡ w i
    waits-due i =
        gather-at d.waiting (map told_in rows) i (λ l. told_at_lem i ∙ ap told_in (out i (omega (arith, ok.most, k.places))))
        ∙ rw (k.waits i, told_at_lem i) (gathered-telling (λ f. since f h i) (told_in (get_or rows i [])) (room i))

    few-due : (i : ℕ) → (w i).reports ≤ unheard h i + 1
    few-due i = grind (arith, k.few i)

    none-outside : (s : Option Notice) (f : Tick → Bool) → f silent ≡ false → (i : ℕ) → row_length N (e s ∷ h) ≤ i → fallen f (e s ∷ h) i ≡ 0
    unfolding number
    none-outside s f q i l = rw (out i (omega (arith, length_is s)), q) (k.outside f q i (before (row_in N h) ok.may))
      where
        before : (r : Option ℕ) → May r n → unwrap_or r 0 ≤ i
        before None may = omega arith
        before (Some r) may = let same : r ≡ n = may in omega (arith, length_is s)

    -- nothing sent
    kept-quiet : ((i : ℕ) → i < n → tells (w i) ≡ false) → Kept (e None ∷ h) (served_by n d.next ws None)
    unfolding next_in since unheard number sent_reports
    kept-quiet no_one = record {
      row = sym (row_is None);
      next = k.next;
      places = gather-length d.waiting (map told_in rows) ∙ k.places;
      waits = waits-due;
      few = λ i. few-step (w i) (tells (w i)) refl (unheard h i) (few-due i);
      fits = omega (arith, length_is None, ok.most);
      passed = λ n' i may l.
          let same : n ≡ n' = subst (λ (r : Option ℕ). May r n') (row_is None) may in
          rw (no_one i (omega arith)) (passed-zero n' (next_in N h) i (rw (← same) (k.passed n i ok.may (omega arith)).next) l);
      outside = none-outside None;
      sum = λ i. grind (arith, k.sum i);
    }

    -- a notice of place j
    module _ (j : ℕ) (first : Foremost (λ i. tells (w i)) n (next_in N h) j) where
      abbrev x : CardEntry
      x = e (Some (notice j (w j)))

      left_is : (i : ℕ) (b : Bool) → eqb i j ≡ b → left (x ∷ h) i ≡ cond b nothing (w i)
      unfolding since
      left_is i true q = rw q
      left_is i false q = rw q

      few-left : (i : ℕ) (b : Bool) → (cond b nothing (w i)).reports ≤ unheard h i + 1
      few-left i true = omega arith
      few-left i false = few-due i

      -- the ticks that passed over place i, where v is left to tell of it
      abbrev count : ℕ → Waiting → ℕ
      count i v = cond (tells v) (unheard h i + 1) 0

      nearer-at : (i : ℕ) → i < n → (b : Bool) → eqb i j ≡ b → (t : Bool) → tells (w i) ≡ t → Passed n (place_after n j) i (count i (cond b nothing (w i)))
      nearer-at i l true q t y = passed-zero n (place_after n j) i (after-inside n j ok.some-line) l
      nearer-at i l false q false y = rw y (passed-zero n (place_after n j) i (after-inside n j ok.some-line) l)
      nearer-at i l false q true y = rw y (nearer (λ i. tells (w i)) n (next_in N h) i (unheard h i) j l y (eqb-false i j q) (k.passed n i ok.may l) first)

      -- what holds of what is left holds after the notice
      of_left : (i : ℕ) (P : Waiting → Type 0) → P (cond (eqb i j) nothing (w i)) → P (left (x ∷ h) i)
      of_left i P p = subst P (sym (left_is i (eqb i j) refl)) p

      sum-at : (i : ℕ) (b : Bool) → eqb i j ≡ b → fallen reported (x ∷ h) i ≡ sent_reports (x ∷ h) i + since reported (x ∷ h) i
      unfolding number sent_reports since
      sum-at i true q =
          let y : (w i).reports ≡ (w j).reports = ap (λ (y : ℕ). (w y).reports) (eqb-true i j q) in
          rw q (grind (arith, y, k.sum i))
      sum-at i false q =
          rw q (grind (arith, k.sum i))

      next-is : next_in N (x ∷ h) ≡ place_after n j
      unfolding next_in
      next-is = ap (λ (r : ℕ). place_after r j) (length_is (Some (notice j (w j))))

      kept-notice : Kept (x ∷ h) (served_by n d.next ws (Some j))
      unfolding unheard since number sent_reports
      kept-notice = record {
        row = sym (row_is (Some (notice j (w j))));
        next = sym next-is;
        places = length-set ws j nothing ∙ gather-length d.waiting (map told_in rows) ∙ k.places;
        waits = λ i.
            cleared_at ws i j (omega (arith, first.inside, ok.most, gather-length d.waiting (map told_in rows), k.places))
            ∙ ap (λ (v : Waiting). cond (eqb i j) nothing v) (waits-due i)
            ∙ sym (left_is i (eqb i j) refl);
        few = λ i. few-step (left (x ∷ h) i) (tells (left (x ∷ h) i)) refl (unheard h i) (of_left i (λ v. v.reports ≤ unheard h i + 1) (few-left i (eqb i j)));
        fits = omega (arith, length_is (Some (notice j (w j))), ok.most);
        passed = λ n' i may l.
            let same : n ≡ n' = subst (λ (r : Option ℕ). May r n') (row_is (Some (notice j (w j)))) may in
            subst (λ (y : ℕ). Passed y (next_in N (x ∷ h)) i (count i (left (x ∷ h) i))) same
            (subst (λ (a : ℕ). Passed n a i (count i (left (x ∷ h) i))) (sym next-is)
            (of_left i (λ v. Passed n (place_after n j) i (count i v)) (nearer-at i (omega arith) (eqb i j) refl (tells (w i)) refl)));
        outside = none-outside (Some (notice j (w j)));
        sum = λ i. sum-at i (eqb i j) refl;
      }

    kept-turn : (r : Option ℕ) → Round (λ i. tells (w i)) n (next_in N h) r → Kept (e (sent_of w r) ∷ h) (served_by n d.next ws r)
    kept-turn r (nobody g) = kept-quiet g
    kept-turn r (turn-of j t) = kept-notice j t

    same-due : w ≡ waits_in ws
    same-due = fun_ext (λ i. sym (waits-due i))

    pub sent_is : sent_by d n (map told_in rows) ≡ sent_of w (turn_of w n (next_in N h))
    sent_is = rw k.next (subst (λ (y : ℕ → Waiting). sent_of y (turn_of y n (next_in N h)) ≡ sent_of w (turn_of w n (next_in N h))) same-due refl)

    pub kept-tick : Kept (e (sent_by d n (map told_in rows)) ∷ h) (after_tick d n (map told_in rows))
    kept-tick =
        subst (λ (y : ℕ → Waiting). Kept (e (sent_of y (turn_of y n d.next)) ∷ h) (served_by n d.next ws (turn_of y n d.next))) same-due
        (subst (λ (a : ℕ). Kept (e (sent_of w (turn_of w n a)) ∷ h) (served_by n d.next ws (turn_of w n a))) (sym k.next)
        (kept-turn (turn_of w n (next_in N h)) (going_round_lem (λ i. tells (w i)) n (next_in N h) (omega (arith, (k.passed n 0 ok.may ok.some-line).next)))))
