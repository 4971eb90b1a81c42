-- A text as it stands on a page (own choice): printable ASCII characters as they are but for %, <, and &, and each
-- other byte as % and two hexadecimal digits; so no text ends the data, and none has a space.
use Rattle.std.specs.Prelude.{ℕ, ◌/◌, ◌%◌, ◌==◌, ◌&&◌, not, nat_le, Bool, if◌then◌else◌, List, [], ◌∷◌}
use Rattle.std.specs.List.{flat_map}
use Rattle.numerals.specs.Numerals.{digit_of}

abbrev pub is_plain : ℕ → Bool
is_plain byte = nat_le 33 byte && (nat_le byte 126 && (not (byte == 37) && (not (byte == 60) && not (byte == 38))))

abbrev pub safe_byte : ℕ → List ℕ
safe_byte byte = if is_plain byte then byte ∷ [] else 37 ∷ digit_of (byte / 16) ∷ digit_of (byte % 16) ∷ []

abbrev pub safe_text : List ℕ → List ℕ
safe_text bytes = flat_map safe_byte bytes
