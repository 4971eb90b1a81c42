-- Where a damaged recording's sound bytes stand in its file (own choice).
use Rattle.std.specs.Prelude.{ℕ, ◌+◌, nat_le, if◌then◌else◌, List, [], ◌∷◌}
use Rattle.ch11_reader.specs.Contents.{capped}
use Rattle.ch11_reader.specs.declared.skip.Skip.{Skip}

-- the place in the file of a sound byte: behind all skips in front of it, as far as 64 bits count
abbrev pub file_place : List Skip → ℕ → ℕ
file_place [] offset = offset
file_place (s ∷ skips) offset =
    if nat_le s.offset offset then file_place skips (capped (offset + s.length)) else offset
