-- The four lines of input of the paper's example. And lines of a card's script, and lines that are bad.
use Rattle.std.specs.Prelude.{◌≡◌, refl, ℕ, List, [], ◌∷◌, map, replicate, Option, Some, None}
use Prim.Native.String.{String}
use Rattle.tariff.specs.Tariffs.{em}
use Rattle.descriptor.specs.declared.TariffPart.TheVariants.{Em, Phased}
use Rattle.descriptor.specs.declared.BurstPart.TheVariants.{Keep, Start}
use Rattle.descriptor.specs.declared.Hook.TheVariants.{Stop}
use Rattle.script.specs.Words.{words_of}
use Rattle.script.specs.Commands.{configuration, command_of}
use Rattle.script.specs.Readers.{whole}
use Rattle.script.specs.Cards.{CardLine, Add, On, Audit, Text, Tick, Group, target, group, card_command_of}
use Rattle.script.specs.declared.Command.{Command}
use Rattle.script.specs.declared.Command.TheVariants.{Configure, Period, NoPeriod, Describe, OnHook, Run}
use Rattle.script.specs.declared.Giving.{Giving}
use Rattle.script.specs.declared.Giving.TheVariants.{Take, Ask, Commit}
use Rattle.printing.specs.Bytes.{bytes}

-- the command of a line
abbrev line_of : String → Option Command
line_of s = command_of (bytes s)

-- the input of the paper's example
pub input :
    map line_of ("cfg 50 50 0" ∷ "rp 3" ∷ "sig em 0 400 burst 2 1" ∷ "run 401" ∷ [])
    ≡ Some (Configure (configuration 50 50 0))
    ∷ Some (Period 3)
    ∷ Some (Describe (Em (em 0 400)) 0 (Start 2 1))
    ∷ Some (Run 401)
    ∷ []
unfolding words_of
input = refl

-- the largest number is one, and blanks and leading zeros do no harm
pub sound : map line_of ("rp 4294967295" ∷ "  rp   007 " ∷ "run 1000000" ∷ [])
    ≡ Some (Period 4_294_967_295) ∷ Some (Period 7) ∷ Some (Run 1_000_000) ∷ []
unfolding words_of
sound = refl

-- lines past a top, with a tab, with a word too many or too few, or with none
pub bad :
    map line_of ("rp 4294967296" ∷ "run 1000001" ∷ "sig ph 10 none" ∷ "rp\t3" ∷ "hook keep 1" ∷ "cfg 50 50" ∷ "" ∷ [])
    ≡ None ∷ None ∷ None ∷ None ∷ None ∷ None ∷ None ∷ []
unfolding words_of
bad = refl

-- the command of a line of a card's script
abbrev card_of : String → Option CardLine
card_of s = card_command_of (bytes s)

-- lines of a card's script
pub card-input :
    map card_of
    ("cfg 50 50 0"
    ∷ "at 0 rp 3"
    ∷ "at 64 rp off"
    ∷ "at 1 sig ph 2 keep"
    ∷ " at  2  hook stop "
    ∷ "at 7 audit"
    ∷ "tick 1000000"
    ∷ [])
    ≡ Some (Add (configuration 50 50 0))
    ∷ Some (On (target 0 Take) (Period 3))
    ∷ Some (On (target 64 Take) NoPeriod)
    ∷ Some (On (target 1 Take) (Describe Phased 2 Keep))
    ∷ Some (On (target 2 Take) (OnHook Stop))
    ∷ Some (Audit 7)
    ∷ Some (Tick 1_000_000)
    ∷ []
unfolding words_of
card-input = refl

-- a text for the line at place 7
abbrev text_of : Giving → String → Option CardLine
text_of giving s = Some (Text (target 7 giving) (bytes s))

-- a text stands from SG on, whatever follows, with the blanks at its end
pub card-text :
    map card_of ("at 7 SG 1" ∷ "  at   7   SGx \t " ∷ "at 7 SG" ∷ [])
    ≡ text_of Take "SG 1" ∷ text_of Take "SGx \t " ∷ text_of Take "SG" ∷ []
unfolding words_of
card-text = refl

-- descriptors that are asked, and that are committed with a ticket
pub card-asked :
    map card_of
    ("at 7 ask sig ph 2 keep" ∷ "at 7 ask SG 1" ∷ "at 7 commit 12 sig em 0 400 keep" ∷ " at 7  commit 012  SG{} " ∷ [])
    ≡ Some (On (target 7 Ask) (Describe Phased 2 Keep))
    ∷ text_of Ask "SG 1"
    ∷ Some (On (target 7 (Commit 12)) (Describe (Em (em 0 400)) 0 Keep))
    ∷ text_of (Commit 12) "SG{} "
    ∷ []
unfolding words_of
card-asked = refl

-- what is no descriptor, a ticket that is none, and a descriptor with a word too many
pub card-not-asked :
    map card_of
    ("at 7 ask rp 3"
    ∷ "at 7 ask ask SG"
    ∷ "at 7 ask"
    ∷ "at 7 commit 12 audit"
    ∷ "at 7 commit 12 commit 12 SG"
    ∷ "at 7 commit SG"
    ∷ "at 7 commit 4294967296 SG"
    ∷ "at 7 ask sig none none 1"
    ∷ [])
    ≡ None ∷ None ∷ None ∷ None ∷ None ∷ None ∷ None ∷ None ∷ []
unfolding words_of
card-not-asked = refl

-- what is not for one line of a row, and what is not for the row
pub card_misplaced :
    map card_of ("at 0 run 5" ∷ "at 0 cfg 50 50 0" ∷ "at 0 tick 5" ∷ "rp 3" ∷ "run 5" ∷ "audit" ∷ "SG" ∷ [])
    ≡ None ∷ None ∷ None ∷ None ∷ None ∷ None ∷ None ∷ []
unfolding words_of
card_misplaced = refl

-- a place that is no number or no word of its own, S and G apart, a word too many or too few, and a tick past the top
pub card-bad :
    map card_of
    ("at x SG" ∷ "at 7SG" ∷ "at SG" ∷ "at 7 S G" ∷ "at 7 audit 1" ∷ "at 7 rp" ∷ "at 7" ∷ "tick 1000001" ∷ [])
    ≡ None ∷ None ∷ None ∷ None ∷ None ∷ None ∷ None ∷ None ∷ []
unfolding words_of
card-bad = refl

-- the command of a group and its places
abbrev group_of : ℕ → List ℕ → Option CardLine
group_of p ps = Some (Group p ps)

-- lines of a group: some places, none, and one that is named twice
pub card-group :
    map card_of ("group 250 3 1 64" ∷ "group 250" ∷ " group 0  7 7 " ∷ [])
    ≡ group_of 250 (3 ∷ 1 ∷ 64 ∷ []) ∷ group_of 250 [] ∷ group_of 0 (7 ∷ 7 ∷ []) ∷ []
unfolding words_of
card-group = refl

-- 64 places are taken, and 65 are not
pub card-most :
    map (λ n. whole (group (replicate n (bytes "7")))) (65 ∷ 66 ∷ [])
    ≡ group_of 7 (replicate 64 7) ∷ None ∷ []
card-most = refl

-- no interval, and a word that is no number
pub card-no-group :
    map card_of ("group" ∷ "group x 1" ∷ "group 5 x" ∷ "group 5 1 x 2" ∷ [])
    ≡ None ∷ None ∷ None ∷ None ∷ []
unfolding words_of
card-no-group = refl
