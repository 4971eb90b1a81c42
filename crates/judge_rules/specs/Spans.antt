-- When the messages of a rule begin (own choice): `from` and a time, `to` and a time, each of which may be left out.
use Rattle.std.specs.Prelude.{ℕ, nat_le, Bool, true, List, [], ◌∷◌, drop, Ok, Err, Option, Some, None, codes}
use Rattle.std.specs.Prelude.{if◌then◌else◌}
use Rattle.text_lines.specs.Words.{Text, begins_with}
use Rattle.judge_rules.specs.declared.fault.RuleFault.TheVariants.{Word, Range}
use Rattle.judge_rules.specs.declared.rules.Span.{Span}
use Rattle.judge_rules.specs.Faults.{Read, both, made}
use Rattle.judge_rules.specs.Ranges.{last_tick}
use Rattle.judge_rules.specs.Times.{ticks_spelled}
use Rattle.judge_rules.specs.Values.{within}

abbrev pub tick_in : List Text → Read ℕ
tick_in [] = Err Word
tick_in (word ∷ rest) = within 0 last_tick (ticks_spelled word)

-- a time behind a keyword, where the words begin with it
abbrev pub end_in : Text → List Text → Read (Option ℕ)
end_in keyword rest = if begins_with keyword rest then made Some (tick_in (drop 1 rest)) else Ok None

abbrev pub behind_end : Text → List Text → List Text
behind_end keyword rest = if begins_with keyword rest then drop 2 rest else rest

abbrev pub are_ordered : Option ℕ → Option ℕ → Bool
are_ordered (Some first) (Some last) = nat_le first last
are_ordered (Some first) None = true
are_ordered None last = true

abbrev pub span_of : Read (Option ℕ × Option ℕ) → Read Span
span_of (Err f) = Err f
span_of (Ok (first, last)) = if are_ordered first last then Ok (record { from = first; to = last }) else Err Range

abbrev pub span_in : List Text → Read Span
span_in rest = span_of (both (end_in (codes "from") rest) (end_in (codes "to") (behind_end (codes "from") rest)))

unfoldable pub behind_span : List Text → List Text
behind_span rest = behind_end (codes "to") (behind_end (codes "from") rest)
