-- What an outlet has written out and holds back.
use Rattle.std.specs.Prelude.{Bool, if◌then◌else◌, ℕ, ◌+◌, nat_le, Option, List, [], length}
use Rattle.std.specs.Io.KnownBytes.{append_known}
use Rattle.outlet.specs.declared.Outlet.{Outlet}

-- the bytes that are known to be written out, and then those that are held back
abbrev pub known_of : {W : Type 0} → (W → Option (List ℕ)) → Outlet W → Option (List ℕ)
known_of contents o = append_known (contents o.to) o.held.items

-- whether n more bytes have room
abbrev pub has_room : ℕ → List ℕ → Bool
has_room n held = nat_le (length held + n) 65536

-- what is held back once room was made for n bytes: where they had none, nothing
unfoldable pub room_made : ℕ → List ℕ → List ℕ
room_made n held = if has_room n held then held else []
