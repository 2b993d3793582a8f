-- What is noted of a text, piece by piece: faults, and the values of each name.
use Rattle.std.specs.Prelude.{ℕ, Bool, true, false, if◌then◌else◌, not, ◌||◌, List, [], ◌∷◌, ◌++◌, length}
use Rattle.std.specs.Prelude.{◌==◌, nat_lt, get_or, set, replicate, Option, Some, None}
use Rattle.grammar.specs.Grammar.{bytes}
use Rattle.scanner.specs.Codes.{code_of}
use Rattle.grammar.specs.Meaning.{Known, ◌↣◌, unknown, known_signals, items_of, keep_slot, is_list}
use Rattle.scanner.specs.declared.places.Place.{Place}
use Rattle.scanner.specs.declared.places.Place.TheVariants.{ToName, ToValue}
use Rattle.scanner.specs.declared.Token.{Token}
use Rattle.scanner.specs.declared.Token.TheVariants.{Name, Number, Ka, From}
use Rattle.notes.specs.declared.Notes.{Notes}

-- ---- names

-- the slot of a code
abbrev pub slot_in : List Known → ℕ → ℕ
slot_in [] c = unknown
slot_in ((s ↣ k) ∷ ks) c = if c == code_of (bytes s) then k else slot_in ks c

abbrev pub signal_slot : ℕ → ℕ
signal_slot c = slot_in known_signals c

abbrev pub item_slot : ℕ → ℕ → ℕ
item_slot s c = slot_in (items_of s) c

-- ---- notes

-- of a name that was not given
abbrev pub no_values : List ℕ
no_values = []

-- a value more: past nine it is left out
abbrev pub pushed : List ℕ → ℕ → List ℕ
pushed vs v = if nat_lt (length vs) 9 then vs ++ (v ∷ []) else vs

-- those that are kept of a slot
abbrev pub values_at : List (List ℕ) → ℕ → List ℕ
values_at l s = get_or l s no_values

abbrev pub no_notes : Notes
no_notes = record { bad = false; signal = unknown; slot = unknown; values = replicate 18 no_values }

abbrev pub count_in : List (List ℕ) → ℕ → ℕ
count_in l s = if nat_lt s 18 then length (values_at l s) else 0

-- shut, or it would be written out wherever it stands
unfoldable pub has_in : List (List ℕ) → ℕ → Bool
has_in l s = nat_lt 0 (count_in l s)

-- with a fault, if there is one
abbrev pub marked_of : Notes → Bool → Notes
marked_of n t = record { bad = n.bad || t; signal = n.signal; slot = n.slot; values = n.values }

-- with a name: a fault where it is unknown, or was there before
abbrev pub touch_of : Notes → ℕ → Notes
touch_of n s =
    record { bad = n.bad || (s == unknown || has_in n.values s); signal = n.signal; slot = s; values = n.values }

-- a value of the slot
abbrev pub stored_of : Notes → ℕ → Notes
stored_of n v =
    if nat_lt n.slot 18
    then record {
      bad = n.bad;
      signal = n.signal;
      slot = n.slot;
      values = set n.values n.slot (pushed (values_at n.values n.slot) v);
    }
    else n

-- a number: a fault where it is above the largest
abbrev pub value_of : Notes → ℕ → Notes
value_of n v = if nat_lt 4_294_967_295 v then marked_of n true else stored_of n v

abbrev pub with_signal : Notes → ℕ → Notes
with_signal n s = record { bad = n.bad; signal = s; slot = n.slot; values = n.values }

-- a signal's name; an item's; KA; a number that is a value; a list
abbrev pub signal_of : Notes → ℕ → Notes
signal_of n c = with_signal (stored_of (touch_of n (signal_slot c)) 1) (signal_slot c)

abbrev pub item_of : Notes → ℕ → Notes
item_of n c = touch_of n (item_slot n.signal c)

abbrev pub keep_of : Notes → Notes
keep_of n = stored_of (touch_of n (keep_slot n.signal)) 1

abbrev pub single_of : Notes → ℕ → Notes
single_of n v = value_of (marked_of n (is_list n.slot)) v

abbrev pub list_of : Notes → Notes
list_of n = marked_of n (not (is_list n.slot))

-- a name at its place: a signal's, or an item's
abbrev pub name_at : Place → Notes → ℕ → Notes
name_at ToName n c = signal_of n c
name_at p n c = item_of n c

-- a number at its place: a value, or one of a list
abbrev pub number_at : Place → Notes → ℕ → Notes
number_at ToValue n v = single_of n v
number_at p n v = value_of n v

-- what a piece says at its place: a name, a number, KA, an opening bracket; any other says nothing
unfoldable pub note_of : Notes → Place → Token → Notes
note_of n p (Name c) = name_at p n c
note_of n p (Number v) = number_at p n v
note_of n p Ka = keep_of n
note_of n p From = list_of n
note_of n p t = n

-- a piece that ended, if one did
abbrev pub noted : Notes → Place → Option Token → Notes
noted n p None = n
noted n p (Some t) = note_of n p t
