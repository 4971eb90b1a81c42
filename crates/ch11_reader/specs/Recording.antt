-- What a recording is read as: its packets, or its first fault and the packet's offset (IRIG 106-17
-- Chapter 11). Secondary headers, data of other types and reserved bits are let pass.
use Rattle.std.specs.Prelude.{◌≡◌, ℕ, zero, suc, ◌+◌, ◌==◌, Bool, false, nat_lt, if◌then◌else◌, List, [], ◌∷◌, length}
use Rattle.std.specs.Prelude.{take, drop, Result, Ok, Err}
use Rattle.std.specs.List.{AllByRecursion}
use Rattle.ch11_header.specs.declared.header.Header.{Header}
use Rattle.ch11_header.specs.declared.error.HeaderError.{HeaderError}
use Rattle.ch11_header.specs.HeaderReading.{header_in, body_start}
use Rattle.ch11_header.specs.Kinds.{bus_messages}
use Rattle.ch11_f1.specs.declared.error.BodyError.{BodyError}
use Rattle.ch11_f1.specs.BodyReading.{Message, messages_in, ok_or_none}
use Rattle.ch11_reader.specs.declared.error.PacketFault.{PacketFault}
use Rattle.ch11_reader.specs.declared.error.PacketFault.TheVariants as faults
use Rattle.ch11_reader.specs.declared.error.Refusal.{Refusal}
use Rattle.ch11_reader.specs.declared.error.ReadError.{ReadError}
use Rattle.ch11_reader.specs.declared.error.ReadError.TheVariants as errors

-- a packet as it stands in a recording: where it begins, what its header says, and its messages
pub record Found : Type 0 where
  pub offset : ℕ
  pub header : Header
  pub messages : List Message

-- the packet holds MIL-STD-1553 messages, Format 1
abbrev pub holds_messages : Header → Bool
holds_messages h = h.kind == bus_messages

-- the body of the packet that begins these bytes, without its filler
abbrev pub body_of : Header → List ℕ → List ℕ
body_of h bytes = take h.data_length (drop (body_start h) bytes)

-- the messages of the packet that begins these bytes; a packet of another type has none
abbrev pub packet_messages : Header → List ℕ → List Message
packet_messages h bytes = if holds_messages h then ok_or_none (messages_in (body_of h bytes)) else []

abbrev pub with_body : Header → Result (List Message) BodyError → Result Header PacketFault
with_body h (Ok ms) = Ok h
with_body h (Err e) = Err (faults.Body e)

-- behind a lawful header: the packet ends in the file, and its body can be read if it holds messages
abbrev pub with_rest : Header → List ℕ → Result Header PacketFault
with_rest h bytes =
    if nat_lt (length bytes) h.packet_length then Err faults.End
    else if holds_messages h then with_body h (messages_in (body_of h bytes))
    else Ok h

abbrev pub with_header : Result Header HeaderError → List ℕ → Result Header PacketFault
with_header (Ok h) bytes = with_rest h bytes
with_header (Err e) bytes = Err (faults.Header e)

-- the packet that begins these bytes, or its first fault
unfoldable pub packet_at : List ℕ → Result Header PacketFault
packet_at bytes = with_header (header_in bytes) bytes

infixl 10 ◌>>=◌
abbrev pub ◌>>=◌ : {A B : Type 0} → Result A Refusal → (A → Result B Refusal) → Result B Refusal
(Ok x) >>= f = f x
(Err e) >>= f = Err e

-- the answer, a fault with the packet's offset
abbrev pub located : ℕ → Result Header PacketFault → Result Header Refusal
located offset (Ok h) = Ok h
located offset (Err f) = Err (record { offset = offset; fault = f })

-- the packets of the bytes that stand at an offset, one after the other; the first number only bounds
-- how many there can be
unfoldable pub packets_from : ℕ → ℕ → List ℕ → Result (List Found) Refusal
packets_from zero offset bytes = Ok []
packets_from (suc most) offset [] = Ok []
packets_from (suc most) offset (b ∷ bs) = do
  h ← located offset (packet_at (b ∷ bs))
  others ← packets_from most (offset + h.packet_length) (drop h.packet_length (b ∷ bs))
  Ok (record { offset = offset; header = h; messages = packet_messages h (b ∷ bs) } ∷ others)

-- the packets of a recording, which has no more of them than bytes, or its first fault
abbrev pub packets_in : List ℕ → Result (List Found) Refusal
packets_in file = packets_from (length file) 0 file

-- the packets, none where there is a fault
abbrev pub found_or_none : Result (List Found) Refusal → List Found
found_or_none (Ok ps) = ps
found_or_none (Err e) = []

-- the bytes can be read, and none of the packets is of MIL-STD-1553 messages
abbrev pub HoldsNoMessages : List ℕ → Type 0
HoldsNoMessages file = (ps : List Found) × (packets_in file ≡ Ok ps)
    × AllByRecursion (λ p. holds_messages p.header ≡ false) ps

-- What a function returned is what reading gives: the packets, or the first fault and its offset. Want of
-- memory is answered only where there is no fault.
abbrev pub ReadsRecording : Result (List Found) ReadError → Result (List Found) Refusal → Type 0
ReadsRecording (Ok ps) read = read ≡ Ok ps
ReadsRecording (Err (errors.Refused e)) read = read ≡ Err e
ReadsRecording (Err errors.Memory) read = read ≡ Ok (found_or_none read)
