-- A signal by its parts, as a line spells them (own choice).
use Rattle.std.specs.Prelude.{ℕ, Option}
use Rattle.judge_rules.specs.declared.rules.Selector.{Selector}
use Rattle.signal_dictionary.specs.declared.signals.Kind.{Kind}
use Rattle.signal_dictionary.specs.declared.signals.Place.{Place}
use Rattle.signal_dictionary.specs.declared.signals.Signal.{Signal}
use Rattle.signal_dictionary.specs.declared.texts.Name.{Name}
use Rattle.signal_dictionary.specs.declared.texts.Unit as units

pub record Parts : Type 0 where
  pub line : ℕ
  pub name : Name
  pub channel : Option ℕ
  pub selector : Selector
  pub place : Place
  pub kind : Kind
  pub unit : units.Unit

abbrev pub parts_of : Signal → Parts
parts_of s = record {
  line = s.line;
  name = s.name;
  channel = s.channel;
  selector = s.selector;
  place = s.place;
  kind = s.kind;
  unit = s.unit;
}

-- the name and the messages, and where the signal stands, what it spells, and its unit
abbrev pub Told : Type 0
Told = ((Name × Option ℕ) × Selector) × (Place × (Kind × units.Unit))

abbrev pub with_parts : ℕ → Told → Parts
with_parts line (((name, channel), selector), (place, (kind, unit))) = record {
  line = line;
  name = name;
  channel = channel;
  selector = selector;
  place = place;
  kind = kind;
  unit = unit;
}
