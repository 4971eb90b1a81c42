use Rattle.std.proofs.Common.{◌≡◌, [], length, drop}
use Rattle.std.specs.Option.{option_copied}
use Rattle.signal_dictionary.specs.Namings.{behind_namings, namings_behind}
use Rattle.signal_dictionary.proofs.Named.{behind, from_next}
use Rattle.signal_dictionary.proofs.namings.read_namings.Given as goal

abbrev pub invariant-words : goal.invariant-words
invariant-words l = record {
  names : namings_behind [] l.fn.words ≡ behind l.found.items l.fault (namings_behind l.found.items (from_next (option_copied l.next) l.words));
  rest : behind_namings l.fn.words ≡ behind_namings (from_next (option_copied l.next) l.words);
  left : l.words ≡ drop 1 (from_next (option_copied l.next) l.words);
}

abbrev pub decreases-words : goal.decreases-words
decreases-words l = length (from_next (option_copied l.next) l.words)
