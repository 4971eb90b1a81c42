-- The signal of a line (own choice): `signal`, its name, perhaps a channel, a selector as in a rule, a place, and what
-- the bits spell.
use Rattle.std.specs.Prelude.{ℕ, List, drop, Ok, Err, Option, Some, None, codes, if◌then◌else◌}
use Rattle.text_lines.specs.Words.{Text, words, begins_with}
use Rattle.judge_rules.specs.declared.fault.RuleFault.TheVariants.{Word, Range}
use Rattle.judge_rules.specs.declared.rules.Selector.{Selector}
use Rattle.judge_rules.specs.Faults.{Read, both, made}
use Rattle.judge_rules.specs.Lines.{channel_in, behind_channel, is_passed_over}
use Rattle.judge_rules.specs.Selectors.{selector_in, behind_selector}
use Rattle.signal_dictionary.specs.declared.signals.Kind.{Kind}
use Rattle.signal_dictionary.specs.declared.signals.Place.{Place}
use Rattle.signal_dictionary.specs.declared.texts.Name.{Name}
use Rattle.signal_dictionary.specs.declared.texts.Unit as units
use Rattle.signal_dictionary.specs.Fitting.{is_fitting}
use Rattle.signal_dictionary.specs.Kinds.{kind_in}
use Rattle.signal_dictionary.specs.Parts.{Parts, Told, with_parts}
use Rattle.signal_dictionary.specs.Places.{place_in, behind_place}
use Rattle.signal_dictionary.specs.Texts.{name_in}

-- numbers out of their ranges, and a place and a kind that do not fit, count behind all other faults
abbrev pub fitting : Read (Place × (Kind × units.Unit)) → Read (Place × (Kind × units.Unit))
fitting (Err f) = Err f
fitting (Ok (place, (kind, unit))) = if is_fitting place kind then Ok (place, (kind, unit)) else Err Range

-- the name, perhaps a channel, and a selector
abbrev pub chosen_in : List Text → Read ((Name × Option ℕ) × Selector)
chosen_in rest = both (both (name_in rest) (channel_in (drop 1 rest))) (selector_in (behind_channel (drop 1 rest)))

abbrev pub behind_chosen : List Text → List Text
behind_chosen rest = behind_selector (behind_channel (drop 1 rest))

-- the place and what the bits spell
abbrev pub meant_in : List Text → Read (Place × (Kind × units.Unit))
meant_in rest = fitting (both (place_in rest) (kind_in (behind_place rest)))

-- what the words behind `signal` spell
unfoldable pub told_in : List Text → Read Told
told_in rest = both (chosen_in rest) (meant_in (behind_chosen rest))

abbrev pub signal_behind : ℕ → List Text → Read Parts
signal_behind line rest = made (with_parts line) (told_in rest)

unfoldable pub signal_in : ℕ → List Text → Read Parts
signal_in line rest = if begins_with (codes "signal") rest then signal_behind line (drop 1 rest) else Err Word

-- what a line of this number says, if it isn't passed over
unfoldable pub said : ℕ → Text → Option (Read Parts)
said line text = if is_passed_over text then None else Some (signal_in line (words text))
