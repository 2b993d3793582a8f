-- A quoted text as bytes.
use Rattle.std.specs.Prelude.{ℕ, List, [], ◌∷◌}
use Prim.Native.Char.{code}
use Prim.Native.String.{String, [] as «end», ◌∷◌ as ◌then◌}

-- the bytes of a quoted text
abbrev pub bytes : String → List ℕ
bytes «end» = []
bytes (c then s) = code c ∷ bytes s
