-- The constant words of the maps of a hundred and of ten elements.
use Rattle.std.specs.Prelude.{List, [], ◌∷◌, ℕ, ◌+◌, ◌-◌, ◌*◌, take, drop}
use Rattle.pulse_map.specs.Map.{Entry, map_of, bit_of}

-- entry i in bit i, bit 0 lowest, 1 for X
unfoldable pub word_of : List Entry → ℕ
word_of [] = 0
word_of (e ∷ es) = bit_of e + 2 * word_of es

-- the 64 entries of word h
unfoldable pub part : ℕ → List Entry → List Entry
part h l = take 64 (drop (64 * h) l)

-- word h of row r of the maps of a hundred elements
unfoldable pub hundred_word : ℕ → ℕ → ℕ
hundred_word r h = word_of (part h (map_of r (100 - r)))

-- the word of row r of the maps of ten elements
unfoldable pub ten_word : ℕ → ℕ
ten_word r = word_of (map_of r (10 - r))

-- the two words of a map of up to 128 elements
abbrev pub words_of : List Entry → List ℕ
words_of l = word_of (part 0 l) ∷ word_of (part 1 l) ∷ []
