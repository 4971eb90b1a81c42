use Rattle.std.proofs.Common.{◌≡◌, ◌+◌, ◌≤◌, [], length, map}
use Rattle.text_lines.specs.Lines.{text_lines}
use Rattle.signal_dictionary.specs.Parts.{parts_of}
use Rattle.signal_dictionary.specs.Dictionary.{dictionary_from}
use Rattle.signal_dictionary.proofs.Prefixes.{prefixed}
use Rattle.signal_dictionary.proofs.reading.read_dictionary.Given as goal

abbrev pub invariant-loop-first : goal.invariant-loop-first
invariant-loop-first l = record {
  line : l.line + length l.rest ≤ length l.text + 1;
  read : dictionary_from [] 1 (text_lines l.text) ≡ prefixed (map parts_of l.signals.items) (dictionary_from (map parts_of l.signals.items) l.line (text_lines l.rest));
}

abbrev pub decreases-loop-first : goal.decreases-loop-first
decreases-loop-first l = length l.rest
