-- What a recording holds, read off its packets.
use Rattle.std.specs.Prelude.{ℕ, zero, suc, ◌+◌, ◌-◌, ◌^◌, ◌==◌, min, if◌then◌else◌, List, [], ◌∷◌, length, map}
use Rattle.std.specs.Prelude.{slice_get, Option, None}
use Rattle.std.specs.List.{flat_map}
use Rattle.ch11_f1.specs.BodyReading.{Message}
use Rattle.ch11_reader.specs.Recording.{Found}

-- the messages of a channel, in the file's order
abbrev pub reading : List Found → ℕ → List Message
reading ps channel = flat_map (λ (p : Found). if p.header.channel == channel then p.messages else []) ps

-- a message with its channel
abbrev pub Heard : Type 0
Heard = ℕ × Message

-- the messages of a packet, each with the packet's channel
abbrev pub heard_of : Found → List Heard
heard_of p = map (λ (m : Message). (p.header.channel, m)) p.messages

-- all messages, in the file's order
abbrev pub heard_in : List Found → List Heard
heard_in ps = flat_map heard_of ps

-- message n of the file, counted from 1
abbrev pub message_numbered : List Found → ℕ → Option Heard
message_numbered ps zero = None
message_numbered ps (suc n) = slice_get (heard_in ps) n

-- how many messages the packets hold
abbrev pub total_in : List Found → ℕ
total_in [] = 0
total_in (p ∷ ps) = length p.messages + total_in ps

-- a count of them, as far as 64 bits count
abbrev pub capped : ℕ → ℕ
capped n = min n (2 ^ 64 - 1)

-- the channels of messages
abbrev pub channels_of : List Heard → List ℕ
channels_of messages = map (λ (h : Heard). h.0) messages

-- how many messages of a channel there are among those of these channels
abbrev pub count_in : ℕ → List ℕ → ℕ
count_in channel [] = 0
count_in channel (c ∷ cs) = (if c == channel then 1 else 0) + count_in channel cs
