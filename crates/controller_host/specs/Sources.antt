-- Where the words of a message come from: sources that the host of the controller has set at places of destinations
-- (own choice).
use Rattle.std.specs.Prelude.{◌≡◌, ℕ, ◌+◌, ◌-◌, ◌*◌, ◌%◌, ◌≤◌, ◌==◌, Bool, true, false, ◌&&◌, if◌then◌else◌}
use Rattle.std.specs.Prelude.{nat_le}
use Rattle.std.specs.Prelude.{List, [], ◌∷◌, slice_get, vec_capacity, Option, Some, None}
use Rattle.std.specs.List.{position_or_len}
use Rattle.std.specs.Option.{option_map, option_or}
use Rattle.mil_message.specs.declared.forms.Form.{Form}
use Rattle.mil_message.specs.Forms.{data_words, with_data_words}
use Rattle.controller_host.specs.declared.destinations.Destination.{Destination}
use Rattle.controller_host.specs.declared.controls.Control.{Control}
use Rattle.controller_host.specs.declared.controls.Control.TheVariants as control
use Rattle.controller_host.specs.declared.sources.Source.{Source}
use Rattle.controller_host.specs.declared.sources.Source.TheVariants.{Word, Ramp}
use Rattle.controller_host.specs.declared.sources.Row.{Row}
use Rattle.controller_host.specs.declared.sources.Sources.TheInside.{Inside}
use Rattle.controller_host.specs.Destinations.{is_same, IsPlace, carries, destination_of}
use Rattle.controller_host.specs.Places.{order_of, all_places}

-- the word that the next message carries
abbrev pub word_of : Source → ℕ
word_of (Word word) = word
word_of (Ramp next add) = next

-- a source behind so many messages that carried it
abbrev pub advanced : ℕ → Source → Source
advanced count (Word word) = Word word
advanced count (Ramp next add) = Ramp ((next + count * add) % 65536) add

-- whether the host asks for sources
abbrev pub is_source_control : Control → Bool
is_source_control (control.Data new) = true
is_source_control (control.Ramp ramp) = true
is_source_control (control.Insert insertion) = false

-- what new words or a ramp set a place of a destination to
abbrev pub word_source : Option ℕ → Option Source
word_source words = option_map (λ word. Word word) words

abbrev pub set_by : Control → Destination → ℕ → Option Source
set_by (control.Data new) d place =
    if is_same d new.destination && nat_le 1 place then word_source (slice_get new.words (place - 1)) else None
set_by (control.Ramp ramp) d place =
    if is_same d ramp.destination && place == ramp.place then Some (Ramp ramp.start ramp.add) else None
set_by (control.Insert insertion) d place = None

-- a source, where the host then asks for this
abbrev pub with_sources : Control → Option Source → Destination → ℕ → Option Source
with_sources c was d place = option_or (set_by c d place) was

-- the word at a place of a message: its source's, or its own
abbrev pub word_at : Option Source → ℕ → ℕ
word_at None own = own
word_at (Some source) own = word_of source

-- words from a place on, each with its source's word where there is one
abbrev pub sourced_words : (ℕ → Option Source) → ℕ → List ℕ → List ℕ
sourced_words source place [] = []
sourced_words source place (own ∷ rest) = word_at (source place) own ∷ sourced_words source (place + 1) rest

abbrev pub sourced_to : (Destination → ℕ → Option Source) → Option Destination → Form → Form
sourced_to source None form = form
sourced_to source (Some d) form = with_data_words (sourced_words (source d) 1 (data_words form)) form

-- a message with the words of these sources in the place of its own
unfoldable pub sourced : (Destination → ℕ → Option Source) → Form → Form
sourced source form = sourced_to source (destination_of form) form

-- ---- sources as rows by their places

abbrev pub is_row_of : Destination → ℕ → Row → Bool
is_row_of d place row = is_same d row.destination && place == row.place

-- the source of a place
abbrev pub source_in : List Row → Destination → ℕ → Option Source
source_in [] d place = None
source_in (row ∷ rest) d place = if is_row_of d place row then Some row.source else source_in rest d place

abbrev pub with_source : Row → Option Source → Destination → ℕ → Option Source
with_source row was d place = if is_row_of d place row then Some row.source else was

-- a row behind a message
abbrev pub advanced_by : Form → Row → Row
advanced_by form row =
    if carries row.destination row.place form
    then record { destination = row.destination; place = row.place; source = advanced 1 row.source }
    else row

abbrev pub row_order : Row → ℕ
row_order row = order_of row.destination row.place

-- rows that rise, from this place on
abbrev pub RiseFrom : ℕ → List Row → Type 0
RiseFrom least [] = Unit {0}
RiseFrom least (row ∷ rest) =
    (least ≤ row_order row) × IsPlace row.destination row.place × RiseFrom (row_order row + 1) rest

abbrev pub AreRows : List Row → Type 0
AreRows rows = RiseFrom 0 rows

-- the index of the first row that does not stand before a place
abbrev pub place_among : ℕ → List Row → ℕ
place_among order rows = position_or_len (λ row. nat_le order (row_order row)) rows

-- the sources that are set, and whether there is room for one at every place
pub record SourcesState : Type 0 where
  pub rows : List Row
  pub ready : Bool

abbrev pub sources_in : Inside → SourcesState
sources_in s = record { rows = s.rows.items; ready = s.ready }

pub record IsSources (s : Inside) : Type 0 where
  pub rows : AreRows s.rows.items
  pub room : s.ready ≡ true → all_places ≤ vec_capacity s.rows
  -- none is set without room
  pub none : s.ready ≡ false → s.rows.items ≡ []
