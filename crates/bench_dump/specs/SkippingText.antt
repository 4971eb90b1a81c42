-- The text of a dump that skips what is damaged (own choice): the lines of packets and messages as in any dump, and
-- among them a line for each skip, in the order of their offsets.
use Rattle.std.specs.Prelude.{ℕ, ◌+◌, nat_lt, if◌then◌else◌, Bool, true, false, List, [], ◌∷◌, ◌++◌, length, codes}
use Rattle.std.specs.Prelude.{decimal}
use Rattle.ch11_reader.specs.Codes.{fault_code}
use Rattle.ch11_reader.specs.declared.skip.Skip.{Skip}
use Rattle.ch11_reader.specs.Indexed.{found_in}
use Rattle.ch11_reader.specs.Recording.{Found}
use Rattle.ch11_reader.specs.Skipping.{packets_read, skips_in}
use Rattle.bench_dump.specs.DumpText.{packet_line, message_lines, dump_text}

-- the line of a skip: where it begins, how many bytes it has, and the fault at its first byte
unfoldable pub skip_line : Skip → List ℕ
skip_line s =
    (codes "skipped " ++ decimal s.offset)
    ++ ((codes " length " ++ decimal s.length) ++ (codes " " ++ (fault_code s.fault ++ codes "\n")))

abbrev pub skip_lines : List Skip → List ℕ
skip_lines [] = []
skip_lines (s ∷ skips) = skip_line s ++ skip_lines skips

-- the first skips, as long as they lie in front of an offset, and those behind them
abbrev pub skips_before : ℕ → List Skip → List Skip
skips_before offset [] = []
skips_before offset (s ∷ skips) = if nat_lt s.offset offset then s ∷ skips_before offset skips else []

abbrev pub skips_behind : ℕ → List Skip → List Skip
skips_behind offset [] = []
skips_behind offset (s ∷ skips) = if nat_lt s.offset offset then skips_behind offset skips else s ∷ skips

-- the lines of packets, behind so many messages, and in front of each packet those of the skips that lie in front of it
abbrev pub lines_in_order : ℕ → List Skip → List Found → List ℕ
lines_in_order before skips [] = skip_lines skips
lines_in_order before skips (p ∷ ps) =
    skip_lines (skips_before p.offset skips)
    ++ (packet_line p.offset p.header (length p.messages)
    ++ (message_lines before p.header.channel p.messages
    ++ lines_in_order (before + length p.messages) (skips_behind p.offset skips) ps))

-- the dump of packets and skips
abbrev pub skipping_text : List Skip → List Found → List ℕ
skipping_text skips ps = lines_in_order 0 skips ps

-- the dump of a file: of a sound one, or of whatever is sound in it
abbrev pub file_text : Bool → List ℕ → List ℕ
file_text false file = dump_text (found_in file)
file_text true file = skipping_text (skips_in file) (packets_read file)
