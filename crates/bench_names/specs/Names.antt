-- The names that setup records give to channels (IRIG 106-17 Chapter 9, recorder-reproducer attributes: data source
-- identifier, track number).
use Rattle.std.specs.Prelude.{ℕ, ◌+◌, ◌==◌, ◌&&◌, nat_eq, nat_lt, Bool, false, List, [], ◌∷◌, ◌++◌, if◌then◌else◌}
use Rattle.std.specs.Prelude.{take, drop, length, Option, None, Some}
use Rattle.std.specs.Cmp.Lexicographic.{pointwise}
use Rattle.std.specs.List.{find, starts_with}
use Rattle.numerals.specs.Numerals.{spelled}
use Rattle.bench_names.specs.Attributes.{Attributed, attributes}

-- \TK1-
abbrev pub track : List ℕ
track = 92 ∷ 84 ∷ 75 ∷ 49 ∷ 45 ∷ []

-- \DSI-
abbrev pub source : List ℕ
source = 92 ∷ 68 ∷ 83 ∷ 73 ∷ 45 ∷ []

-- where the first stands in the name of an attribute, or its length where it does not
abbrev pub track_place : List ℕ → ℕ
track_place [] = 0
track_place (b ∷ bs) = if starts_with nat_eq (b ∷ bs) track then 0 else 1 + track_place bs

-- a value is the number of a channel
abbrev pub is : ℕ → Option ℕ → Bool
is channel None = false
is channel (Some number) = number == channel

abbrev pub is_number : ℕ → List ℕ → Bool
is_number channel value = is channel (spelled 10 1 5 value)

-- an attribute says that a track has the number of a channel
abbrev pub is_track : ℕ → Attributed → Bool
is_track channel a = is_number channel a.1 && nat_lt (track_place a.0) (length a.0)

-- the name of the attribute with the name of its data source
abbrev pub source_name : List ℕ → List ℕ
source_name name = take (track_place name) name ++ (source ++ drop 5 (drop (track_place name) name))

abbrev pub is_source : List ℕ → List ℕ → Bool
is_source track name = pointwise nat_eq name (source_name track)

abbrev pub value_of : Option Attributed → Option (List ℕ)
value_of None = None
value_of (Some a) = Some a.1

-- the name of a data source by that of a track
abbrev pub sourced : List ℕ → List Attributed → Option (List ℕ)
sourced track all = value_of (find (λ (a : Attributed). is_source track a.0) all)

abbrev pub source_of : List Attributed → Option Attributed → Option (List ℕ)
source_of all None = None
source_of all (Some a) = sourced a.0 all

-- the name that the text of a setup record gives to a channel
abbrev pub name_in : ℕ → List ℕ → Option (List ℕ)
name_in channel text = source_of (attributes text) (find (is_track channel) (attributes text))
