-- What the bits of a signal spell, in the words of a dictionary (own choice): a number with a scale and an offset, or
-- one that has a name; and the unit, with which the line ends.
use Rattle.std.specs.Prelude.{List, [], ◌∷◌, drop, Ok, Err, Option, Some, None, codes, slice_get, if◌then◌else◌}
use Rattle.std.specs.Str.{bytes_eq}
use Rattle.text_lines.specs.Words.{Text}
use Rattle.judge_rules.specs.declared.fault.RuleFault.TheVariants.{Word}
use Rattle.judge_rules.specs.Faults.{Read, both, made}
use Rattle.signal_dictionary.specs.declared.signals.Kind.{Kind}
use Rattle.signal_dictionary.specs.declared.signals.Kind.TheVariants.{Unsigned, Signed, Decimals, Names}
use Rattle.signal_dictionary.specs.declared.signals.Naming.{Naming}
use Rattle.signal_dictionary.specs.declared.signals.Scaling.{Scaling}
use Rattle.signal_dictionary.specs.declared.texts.Unit as units
use Rattle.signal_dictionary.specs.Decimals.{scale_in, behind_scale, offset_in, behind_offset}
use Rattle.signal_dictionary.specs.Namings.{namings_in, behind_namings}
use Rattle.signal_dictionary.specs.Texts.{no_unit, unit_from, unit_in}

-- a scale, an offset and a unit, each where it is told
abbrev pub scaling_in : List Text → Read (Scaling × units.Unit)
scaling_in rest =
    made (λ (by, unit). (record { scale = by.0; offset = by.1 }, unit))
    (both (both (scale_in rest) (offset_in (behind_scale rest))) (unit_in (behind_offset (behind_scale rest))))

abbrev pub scaled : (Scaling → Kind) → List Text → Read (Kind × units.Unit)
scaled make rest = made (λ (scaling, unit). (make scaling, unit)) (scaling_in rest)

-- the unit that begins with this word, if there is one
abbrev pub unit_by : Option Text → List Text → Read units.Unit
unit_by None rest = Ok no_unit
unit_by (Some word) rest = unit_from word rest

abbrev pub of_names : List Naming × units.Unit → Kind × units.Unit
of_names (found, unit) = (Names (record { items = found }), unit)

-- names, and behind them a unit
abbrev pub names_in : List Text → Read (Kind × units.Unit)
names_in rest =
    made of_names
    (both (namings_in rest) (unit_by (slice_get (behind_namings rest) 0) (drop 1 (behind_namings rest))))

abbrev pub kind_named : Text → List Text → Read (Kind × units.Unit)
kind_named name rest =
    if bytes_eq name (codes "unsigned") then scaled Unsigned rest
    else if bytes_eq name (codes "signed") then scaled Signed rest
    else if bytes_eq name (codes "bcd") then scaled Decimals rest
    else if bytes_eq name (codes "names") then names_in rest
    else Err Word

abbrev pub kind_in : List Text → Read (Kind × units.Unit)
kind_in [] = Err Word
kind_in (name ∷ rest) = kind_named name rest
