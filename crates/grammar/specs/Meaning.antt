-- What a text asks for: a descriptor, or nothing where one of the causes applies that are listed here.
use Rattle.std.specs.Prelude.{ℕ, ◌+◌, ◌*◌, ◌-◌, min, Bool, false, if◌then◌else◌, not, ◌||◌, ◌&&◌, List, [], ◌∷◌, ◌++◌}
use Rattle.std.specs.Prelude.{◌==◌}
use Rattle.std.specs.Prelude.{nat_lt, nat_le}
use Prim.Native.String.{String}
use Rattle.tariff.specs.Tariffs.{em}
use Rattle.phase_lists.specs.Lists.{Lists, lists_of}
use Rattle.descriptor.specs.declared.TariffPart.{TariffPart}
use Rattle.descriptor.specs.declared.TariffPart.TheVariants.{None as NoTariff, Keep as KeepTariff, Rate, Em, Phased}
use Rattle.descriptor.specs.declared.BurstPart.{BurstPart}
use Rattle.descriptor.specs.declared.BurstPart.TheVariants.{None as NoBurst, Keep as KeepBurst, Start}
use Rattle.grammar.specs.Grammar.{Row, none, ◌▹◌, single, list, Item, keep, valued}
use Rattle.grammar.specs.Grammar.{Signal, bare, braced, Text, empty, signals, bytes, same}
use Rattle.grammar.specs.Reader.{Found, found, missing, text_of}

-- ---- THE KNOWN NAMES. Each has a slot: em 0, mpb 4, phsm 8, KA the one after its signal's, any other name 17.

abbrev pub unknown : ℕ
unknown = 17

-- a known word and its slot
pub data Known : Type 0 where
  ◌↣◌ : (word : String) (slot : ℕ) → Known

infix 20 ◌↣◌
abbrev pub slot_in : List Known → List ℕ → ℕ
slot_in [] w = unknown
slot_in ((s ↣ k) ∷ ks) w = if same w (bytes s) then k else slot_in ks w

abbrev pub known_signals : List Known
known_signals = ("em" ↣ 0) ∷ ("mpb" ↣ 4) ∷ ("phsm" ↣ 8) ∷ []

abbrev pub em_items : List Known
em_items = ("pri" ↣ 2) ∷ ("pc" ↣ 3) ∷ []

abbrev pub mpb_items : List Known
mpb_items = ("bpc" ↣ 6) ∷ ("pri" ↣ 7) ∷ []

abbrev pub phsm_items : List Known
phsm_items =
    ("pri" ↣ 10) ∷ ("pcx" ↣ 11) ∷ ("repx" ↣ 12) ∷ ("pcn" ↣ 13) ∷ ("repn" ↣ 14) ∷ ("ci" ↣ 15) ∷ ("pd" ↣ 16) ∷ []

-- the items of the signal that has this slot
abbrev pub items_of : ℕ → List Known
items_of s = if s == 0 then em_items else if s == 4 then mpb_items else if s == 8 then phsm_items else []

abbrev pub signal_slot : List ℕ → ℕ
signal_slot n = slot_in known_signals n

abbrev pub item_slot : ℕ → List ℕ → ℕ
item_slot s m = slot_in (items_of s) m

abbrev pub keep_slot : ℕ → ℕ
keep_slot s = min (s + 1) unknown

-- the seven phase lists
abbrev pub is_list : ℕ → Bool
is_list s = nat_le 10 s

-- ---- WHAT A TEXT GIVES: names and their values, in their order

-- the value of decimal digits
abbrev pub decimal_after : ℕ → List ℕ → ℕ
decimal_after c [] = c
decimal_after c (b ∷ w) = decimal_after (10 * c + (b - 48)) w

abbrev pub decimal_of : List ℕ → ℕ
decimal_of w = decimal_after 0 w

-- a name alone (a signal, KA), one with a number, one with a list
pub data Form : Type 0 where
  alone with_number with_list : Form

-- a name's slot, its form, and its values in order: those before the last, and the last; a name alone has the value 1
pub data Given : Type 0 where
  given : (slot : ℕ) (form : Form) (before : Row ℕ) (last : ℕ) → Given

-- by a slot for the name of an item in a signal, a slot for the name of a signal, and a value for digits
module _ (item : ℕ → List ℕ → ℕ) (signal : List ℕ → ℕ) (value : List ℕ → ℕ) where
  abbrev pub values_by : Row (List ℕ) → Row ℕ
  values_by none = none
  values_by (ds ▹ d) = values_by ds ▹ value d

  -- an item of the signal that has slot s
  abbrev pub item_by : ℕ → Item → Given
  item_by s keep = given (keep_slot s) alone none 1
  item_by s (valued m (single d)) = given (item s m) with_number none (value d)
  item_by s (valued m (list ds d)) = given (item s m) with_list (values_by ds) (value d)

  abbrev pub items_by : ℕ → Row Given → Row Item → Row Given
  items_by s gs none = gs
  items_by s gs (is ▹ i) = items_by s gs is ▹ item_by s i

  abbrev pub signal_by : Row Given → Signal → Row Given
  signal_by gs (bare n) = gs ▹ given (signal n) alone none 1
  signal_by gs (braced n is i) = items_by (signal n) (gs ▹ given (signal n) alone none 1) is ▹ item_by (signal n) i

  abbrev pub signals_by : Row Signal → Row Given
  signals_by none = none
  signals_by (ss ▹ s) = signal_by (signals_by ss) s

  abbrev pub text_by : Text → Row Given
  text_by empty = none
  text_by (signals ss s) = signal_by (signals_by ss) s

abbrev pub given_by : Text → Row Given
given_by t = text_by item_slot signal_slot decimal_of t

abbrev pub slot_of : Given → ℕ
slot_of (given s f vs v) = s

-- whether a name is given
abbrev pub has : Row Given → ℕ → Bool
has none s = false
has (gs ▹ g) s = s == slot_of g || has gs s

abbrev pub listed : Row ℕ → List ℕ
listed none = []
listed (vs ▹ v) = listed vs ++ (v ∷ [])

-- the values of a name, in order; none if it is not given
abbrev pub values_of : Row Given → ℕ → List ℕ
values_of none s = []
values_of (gs ▹ given k f vs v) s = if s == k then listed (vs ▹ v) else values_of gs s

-- ---- THE CAUSES OF REFUSAL 13

abbrev pub is_unknown : Given → Bool
is_unknown g = slot_of g == unknown

abbrev pub is_repeated : Row Given → Given → Bool
is_repeated before g = has before (slot_of g)

-- a number for a list, or the reverse
abbrev pub form_is_wrong : ℕ → Form → Bool
form_is_wrong s alone = false
form_is_wrong s with_number = is_list s
form_is_wrong s with_list = not (is_list s)

abbrev pub is_misformed : Given → Bool
is_misformed (given s f vs v) = form_is_wrong s f

abbrev pub any_too_large : Row ℕ → Bool
any_too_large none = false
any_too_large (vs ▹ v) = any_too_large vs || nat_lt 4_294_967_295 v

abbrev pub is_too_large : Given → Bool
is_too_large (given s f vs v) = any_too_large (vs ▹ v)

-- a name with a fault of its own
abbrev pub is_faulty : Row Given → Given → Bool
is_faulty before g = is_unknown g || (is_repeated before g || (is_misformed g || is_too_large g))

abbrev pub any_faulty : Row Given → Bool
any_faulty none = false
any_faulty (gs ▹ g) = any_faulty gs || is_faulty gs g

abbrev pub em_beside_phsm : (ℕ → Bool) → Bool
em_beside_phsm has = has 0 && has 8

abbrev pub em_lacks_pri : (ℕ → Bool) → Bool
em_lacks_pri has = has 0 && not (has 2)

abbrev pub has_lists : (ℕ → Bool) → Bool
has_lists has = has 10 && (has 11 && (has 12 && (has 13 && (has 14 && (has 15 && has 16)))))

abbrev pub phsm_lacks_list : (ℕ → Bool) → Bool
phsm_lacks_list has = has 8 && not (has_lists has)

-- what is wrong with the signals together, by which names are given
abbrev pub is_incomplete : (ℕ → Bool) → Bool
is_incomplete has = em_beside_phsm has || (em_lacks_pri has || phsm_lacks_list has)

unfoldable pub is_senseless : Row Given → Bool
is_senseless gs = any_faulty gs || is_incomplete (has gs)

-- ---- THE DESCRIPTOR

-- the first of some values, or a default
abbrev pub first_or : ℕ → List ℕ → ℕ
first_or d [] = d
first_or d (v ∷ vs) = v

-- by which names are given, and the values of each
module _ (has : ℕ → Bool) (values : ℕ → List ℕ) where
  -- em with KA is a rate, or keep where pc is above 0
  abbrev pub tariff_by : TariffPart
  tariff_by =
      let pri = first_or 0 (values 2) in
      let pc = first_or 0 (values 3) in
      if has 0 then (if has 1 then (if nat_lt 0 pc then KeepTariff else Rate pri) else Em (em pc pri))
      else if has 8 then (if has 9 then KeepTariff else Phased)
      else NoTariff

  abbrev pub burst_by : BurstPart
  burst_by =
      if has 4 then (if has 5 then KeepBurst else Start (first_or 1 (values 6)) (first_or 1 (values 7))) else NoBurst

abbrev pub lists_by : (ℕ → List ℕ) → Lists
lists_by values = lists_of (values 10) (values 11) (values 12) (values 13) (values 14) (values 15) (values 16)

-- what bytes read as: no text, refusal 12; a text with a fault, refusal 13; a descriptor
pub data Reading : Type 0 where
  unreadable : Reading
  senseless : Reading
  descriptor : (t : TariffPart) (ls : Lists) (b : BurstPart) → Reading

unfoldable pub meaning_of : Text → Reading
meaning_of t =
    let gs = given_by t in
    if is_senseless gs then senseless
    else descriptor (tariff_by (has gs) (values_of gs)) (lists_by (values_of gs)) (burst_by (has gs) (values_of gs))

abbrev pub reading_in : Found → Reading
reading_in (found t) = meaning_of t
reading_in missing = unreadable

-- what any bytes read as; Claims says it by the grammar
unfoldable pub reading_of : List ℕ → Reading
reading_of l = reading_in (text_of l)
