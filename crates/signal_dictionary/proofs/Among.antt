-- Signals of a name, by their parts.
use Rattle.std.proofs.Common.{◌≡◌, List, [], ◌∷◌, map, refl}
use Rattle.std.specs.List.{list_any}
use Rattle.signal_dictionary.specs.declared.signals.Signal.{Signal}
use Rattle.signal_dictionary.specs.declared.texts.Name.{Name}
use Rattle.signal_dictionary.specs.Dictionary.{is_among, is_signal_of}
use Rattle.signal_dictionary.specs.Parts.{parts_of}

pub among_parts : (name : Name) (signals : List Signal) → list_any (is_signal_of name) signals ≡ is_among name (map parts_of signals)
among_parts name [] = refl
among_parts name (signal ∷ signals) = rw (among_parts name signals) refl
