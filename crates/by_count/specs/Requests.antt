-- The lines that the program reads.
use Rattle.std.specs.Prelude.{ℕ, List, Option}
use Rattle.script.specs.Words.{words_of}
use Rattle.script.specs.Readers.{Reader, give, ◌>>=◌, pair, whole}
use Rattle.by_count.specs.declared.requests.Request.{Request}

-- `S a b ci pd pri`
abbrev pub request : Reader Request
request = do
  (s, a) ← pair
  (b, ci) ← pair
  (pd, pri) ← pair
  give (record { spacing = s; charging = record { a = a; b = b; ci = ci; pd = pd; pri = pri } })

-- the request of a line, if it is one: six numbers
abbrev pub request_of : List ℕ → Option Request
request_of l = whole (request (words_of l))
