-- The lines of an input that are handed to a program, one after the other, up to the end of the input.
use Rattle.std.specs.Prelude.{◌≡◌, ◌⊎◌, ⊤, Bool, true, false, if◌then◌else◌, Option, Some, None, List, [], ℕ, zero, suc}
use Rattle.std.specs.Io.{StartsWith}
use Rattle.std.specs.Io.KnownBytes.{Keeps}
use Rattle.lines.specs.declared.progress.Progress.{Progress}
use Rattle.lines.specs.declared.Span.{Span}
use Rattle.lines.specs.Spans.{part, next_of, over_of}
use Rattle.lines.specs.Reads.{Onward}

-- known bytes stay at the front
abbrev pub Grows : Option (List ℕ) → Option (List ℕ) → Type 0
Grows None new = ⊤
Grows (Some xs) None = ⊥
Grows (Some xs) (Some ys) = StartsWith ys xs

-- what was read of an input and not yet taken, the buffer that it lies in, the program that takes it, and what is known
-- of its output
pub record Stand (A : Type 0) : Type 0 where
  pub input : Progress
  pub buf : List ℕ
  pub program : A
  pub output : Option (List ℕ)

abbrev pub stand : {A : Type 0} → Progress → List ℕ → A → Option (List ℕ) → Stand A
stand input buf program output = record { input = input; buf = buf; program = program; output = output }

-- the next line, if there is one
abbrev pub line_at : {A : Type 0} → Stand A → Option Span
line_at s = next_of s.buf s.input

-- whether the input has ended and no line is left
abbrev pub is_over : {A : Type 0} → Stand A → Bool
is_over s = over_of s.input (line_at s)

-- what is handed over of a line: nothing where it is too long for the buffer
abbrev pub text_of : List ℕ → Span → List ℕ
text_of buf line = if line.whole then part line.from line.to buf else []

-- the number up to which steps are counted
abbrev pub most_steps : ℕ
most_steps = 18_446_744_073_709_551_615

-- by what a text may make of a program
module _ {A : Type 0} (reads : A → List ℕ → A → Type 0) where
  -- a line is handed over; where there is none yet the program stays as it is
  abbrev pub Handed : List ℕ → Option Span → A → A → Type 0
  Handed buf (Some line) p q = reads p (text_of buf line) q
  Handed buf None p q = q ≡ p

-- by what a program may make of its output at a text
module _ {A : Type 0} (puts : A → List ℕ → Option (List ℕ) → Option (List ℕ) → Type 0) where
  -- the program puts what it has to say of a line; where there is none yet, known output stays as it is
  abbrev pub Put : List ℕ → Option Span → A → Option (List ℕ) → Option (List ℕ) → Type 0
  Put buf (Some line) p old new = puts p (text_of buf line) old new
  Put buf None p old new = Keeps old new

-- by both
module _ {A : Type 0} (reads : A → List ℕ → A → Type 0)
    (puts : A → List ℕ → Option (List ℕ) → Option (List ℕ) → Type 0) where
  -- the next line is handed over, and the input goes on past it; where there is none yet, more is read
  pub record Step (s t : Stand A) : Type 0 where
    pub more : is_over s ≡ false
    pub handed : Handed reads s.buf (line_at s) s.program t.program
    pub put : Put puts s.buf (line_at s) s.program s.output t.output
    pub onward : Onward (line_at s) s.buf s.input t.buf t.input

  -- n such steps
  unfoldable pub Steps : ℕ → Stand A → Stand A → Type 0
  Steps zero s t = t ≡ s
  Steps (suc n) s t = (m : Stand A) × Steps n s m × Step m t

  -- from where an input stands to its end, or for as many steps as are counted; then the input and the program stay as
  -- they are, and known output stays at the front
  pub record Serves (s t : Stand A) : Type 0 where
    pub steps : ℕ
    pub last : Stand A
    pub taken : Steps steps s last
    pub ends : (is_over last ≡ true) ⊎ (steps ≡ most_steps)
    pub input : last.input ≡ t.input
    pub buf : last.buf ≡ t.buf
    pub program : last.program ≡ t.program
    pub output : Grows last.output t.output
