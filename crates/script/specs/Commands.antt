-- The lines that `meter` reads.
use Rattle.std.specs.Prelude.{ℕ, List, [], ◌∷◌, Option, nat_le, if◌then◌else◌}
use Rattle.tariff.specs.declared.Phase.{Phase}
use Rattle.tariff.specs.Tariffs as tariffs
use Rattle.descriptor.specs.declared.Configuration.{Configuration}
use Rattle.descriptor.specs.declared.TariffPart.{TariffPart}
use Rattle.descriptor.specs.declared.TariffPart.TheVariants.{None as NoTariff, Keep as KeepTariff, Rate, Em, Phased}
use Rattle.descriptor.specs.declared.BurstPart.{BurstPart}
use Rattle.descriptor.specs.declared.BurstPart.TheVariants.{None as NoBurst, Keep as KeepBurst, Start}
use Rattle.descriptor.specs.declared.Hook.TheVariants.{Keep as KeepOn, Stop}
use Rattle.script.specs.Words.{same, words_of}
use Rattle.script.specs.Numbers.{number_of}
use Rattle.script.specs.Readers.{Reader, ◌>>=◌, give, fail, word, valued, number, pair, choice, whole}
use Rattle.script.specs.declared.Command.{Command}
use Rattle.script.specs.declared.Command.TheVariants.{Configure, Period, NoPeriod, Describe, OnHook, Run}
use Rattle.printing.specs.Bytes.{bytes}

-- gives a where n is at most the top of its kind
abbrev pub up_to : {A : Type 0} → ℕ → ℕ → A → Reader A
up_to most n a = if nat_le n most then give a else fail

-- a configuration of D, G and a clock
abbrev pub configuration : ℕ → ℕ → ℕ → Configuration
configuration d g clock = record { pulse = d; gap = g; clock = clock }

-- `cfg D G clock`
abbrev pub configure : Reader Command
configure = do
  (d, g) ← pair
  clock ← number
  give (Configure (configuration d g clock))

-- `rp off`, or `rp N`
abbrev pub period : Reader Command
period = do
  w ← word
  if same w (bytes "off") then give NoPeriod else (do
    n ← valued (number_of w)
    give (Period n))

-- `rate P`
abbrev pub rate : Reader (TariffPart × ℕ)
rate = do
  p ← number
  give (Rate p, 0)

-- `em C P`
abbrev pub em : Reader (TariffPart × ℕ)
em = do
  (c, p) ← pair
  give (Em (tariffs.em c p), 0)

-- `ph K`, K 0 to 9
abbrev pub phased : Reader (TariffPart × ℕ)
phased = do
  k ← number
  up_to 9 k (Phased, k)

-- T, with the number of phase lines that follow
abbrev pub tariff_part : Reader (TariffPart × ℕ)
tariff_part =
    choice
    (("none", give (NoTariff, 0))
    ∷ ("keep", give (KeepTariff, 0))
    ∷ ("rate", rate)
    ∷ ("em", em)
    ∷ ("ph", phased)
    ∷ [])

-- `burst n P`
abbrev pub burst : Reader BurstPart
burst = do
  (n, p) ← pair
  give (Start n p)

-- U
abbrev pub burst_part : Reader BurstPart
burst_part = choice (("none", give NoBurst) ∷ ("keep", give KeepBurst) ∷ ("burst", burst) ∷ [])

-- `sig T U`
abbrev pub describe : Reader Command
describe = do
  t ← tariff_part
  u ← burst_part
  give (Describe t.0 t.1 u)

-- `hook keep`, or `hook stop`
abbrev pub hook : Reader Command
hook = choice (("keep", give (OnHook KeepOn)) ∷ ("stop", give (OnHook Stop)) ∷ [])

-- `run T`, T to 1,000,000
abbrev pub run : Reader Command
run = do
  t ← number
  up_to 1_000_000 t (Run t)

-- a command
abbrev pub command : Reader Command
command =
    choice (("cfg", configure) ∷ ("rp", period) ∷ ("sig", describe) ∷ ("hook", hook) ∷ ("run", run) ∷ [])

-- the command of a line, if it is one
abbrev pub command_of : List ℕ → Option Command
command_of l = whole (command (words_of l))

-- `pri pcx repx pcn repn ci pd`
abbrev pub phase : Reader Phase
phase = do
  pri ← number
  (pcx, repx) ← pair
  (pcn, repn) ← pair
  (ci, pd) ← pair
  give (record { pri = pri; pcx = pcx; repx = repx; pcn = pcn; repn = repn; ci = ci; pd = pd })

-- the phase of a line, if it is one: seven numbers
abbrev pub phase_line_of : List ℕ → Option Phase
phase_line_of l = whole (phase (words_of l))
