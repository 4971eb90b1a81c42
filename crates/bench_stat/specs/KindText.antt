-- The packets of a recording by their type, as lines or as rows of comma-separated values (own choice). A type is two
-- upper-case hexadecimal digits.
use Rattle.std.specs.Prelude.{ℕ, ◌-◌, ◌^◌, ◌==◌, Bool, true, false, if◌then◌else◌, List, [], ◌++◌, codes, decimal}
use Rattle.std.specs.Fmt.{digits, format_spec, padded_integral}
use Rattle.text_lines.specs.Words.{Text}
use Rattle.bench_stat.specs.declared.kinds.KindFigures.{KindFigures}
use Rattle.bench_stat.specs.ChannelText.{numbered}

abbrev pub type_text : ℕ → Text
type_text kind = padded_integral (format_spec 32 0 4 2 (2 ^ 64 - 1)) false [] (digits 16 true kind)

abbrev pub head_of : Bool → Text
head_of rows = if rows then codes "\ntype,packets,bytes\n" else codes "packets by type\n"

abbrev pub kind_row : ℕ → KindFigures → Text
kind_row kind f =
    type_text kind ++ (codes "," ++ (decimal f.packets ++ (codes "," ++ (decimal f.bytes ++ codes "\n"))))

abbrev pub kind_line : ℕ → KindFigures → Text
kind_line kind f = codes "  type " ++ (type_text kind ++ (codes "   " ++ (decimal f.packets ++ (codes " packets, "
    ++ (decimal f.bytes ++ codes " bytes\n")))))

-- nothing of a type without packets
abbrev pub kind_text : Bool → ℕ → KindFigures → Text
kind_text rows kind f = if f.packets == 0 then [] else if rows then kind_row kind f else kind_line kind f

unfoldable pub kinds_text : Bool → List KindFigures → Text
kinds_text rows kinds = head_of rows ++ numbered (kind_text rows) 0 kinds
