-- The places of a recording's messages: they are counted from 1, over all channels, in the file's order (own choice).
use Rattle.std.specs.Prelude.{ℕ, zero, suc, ◌+◌, ◌-◌, ◌==◌, ◌&&◌, nat_lt, Bool, if◌then◌else◌, List, [], ◌∷◌, take}
use Rattle.std.specs.Prelude.{drop}
use Rattle.std.specs.Prelude.{slice_get, Option, None}
use Rattle.std.specs.List.{last_or, position_or_len}
use Rattle.ch11_reader.specs.Recording.{Found}
use Rattle.ch11_reader.specs.Contents.{count_in}
use Rattle.bench_select.specs.Viewed.{channels_of, Viewed, viewed_in}
use Rattle.ch11_layout.specs.Stamps.{has_time}
use Rattle.bench_select.specs.Selectors.{selects_commands}
use Rattle.bench_places.specs.declared.sought.Sought.{Sought}
use Rattle.bench_places.specs.declared.sought.Sought.TheVariants.{Channel, Later, Commands}

abbrev pub is_sought : Sought → Viewed → Bool
is_sought (Channel one) h = h.0 == one
is_sought (Later ticks) h = has_time h.1 && nat_lt ticks h.1.stamp
is_sought (Commands selector) h = selects_commands selector h.1

-- the places of those that meet it, of messages that stand behind so many others
abbrev pub places_behind : ℕ → Sought → List Viewed → List ℕ
places_behind before sought [] = []
places_behind before sought (h ∷ hs) =
    if is_sought sought h then (before + 1) ∷ places_behind (before + 1) sought hs
    else places_behind (before + 1) sought hs

-- the one of a number, counted from 1
abbrev pub numbered : ℕ → List ℕ → Option ℕ
numbered zero places = None
numbered (suc n) places = slice_get places n

-- the message of a number
abbrev pub message_of_number : ℕ → List Viewed → Option Viewed
message_of_number zero messages = None
message_of_number (suc n) messages = slice_get messages n

-- the place of the message of a number among those past a place that meet it
abbrev pub place_of : Sought → ℕ → ℕ → List Found → Option ℕ
place_of sought from n found = numbered n (places_behind from sought (drop from (viewed_in found)))

-- the latest of them before the message of a place
abbrev pub latest_of : Sought → ℕ → List Found → Option ℕ
latest_of sought place found = last_or None (places_behind 0 sought (take (place - 1) (viewed_in found)))

-- the place before the first message that meets it, that of the last message where none does
abbrev pub place_before : Sought → List Found → ℕ
place_before sought found = position_or_len (is_sought sought) (viewed_in found)

-- how many messages are of a channel
abbrev pub count_in_channel : ℕ → List Viewed → ℕ
count_in_channel channel hs = count_in channel (channels_of hs)

-- how many of them there are up to a place
abbrev pub count_to : ℕ → ℕ → List Found → ℕ
count_to channel place found = count_in_channel channel (take place (viewed_in found))
