-- The packet of one message on fresh terminals (own choice: one message, at tick 0, with no planned fault).
use Rattle.std.specs.Prelude.{ℕ, ◌≡◌, List, [], ◌∷◌, map, Result, Ok, Err}
use Rattle.mil_word.specs.declared.Line.{Line}
use Rattle.mil_word.specs.Timing.{least_gap}
use Rattle.mil_message.specs.declared.forms.Due.{Due}
use Rattle.mil_message.specs.declared.forms.Form.{Form}
use Rattle.mil_message.specs.Forms.{replies_due}
use Rattle.mil_bus.specs.declared.talks.Talk.{Talk}
use Rattle.mil_bus.specs.Addresses.{fresh_bus}
use Rattle.mil_bus.specs.Exchange.{talk_of}
use Rattle.mil_monitor.specs.Observed.{observed}
use Rattle.ch11_builder.specs.Packet.{Channel, Numbered, packet}
use Rattle.frame_text.specs.declared.faults.Cause.{Cause}
use Rattle.frame_text.specs.Messages.{send_of_text}
use Rattle.bench_one.specs.declared.fault.OneFault.{OneFault}
use Rattle.bench_one.specs.declared.fault.OneFault.TheVariants.{Text, Memory}

-- the addresses that a message names: those whose replies are due
abbrev pub addresses_named : Form → List ℕ
addresses_named form = map (λ (d : Due). d.address) (replies_due form)

-- the exchange of the message on a bus with new terminals at these addresses
unfoldable pub only_talk : Line → Form → Talk
only_talk line form = talk_of (fresh_bus 0 (addresses_named form)) line form least_gap []

abbrev pub only_record : Line → Form → Numbered
only_record line form = record { number = 1; message = observed (only_talk line form) }

abbrev pub channel_of : ℕ → ℕ → Channel
channel_of channel version = record { channel = channel; version = version; limit = 256 }

-- the packet of its record, the first of its channel
unfoldable pub packet_of_send : ℕ → ℕ → Line → Form → List ℕ
packet_of_send channel version line form = packet (channel_of channel version) 0 0 (only_record line form ∷ [])

-- what a text comes to: the packet of the message that it spells, or the first fault of the text
abbrev pub answer_to : ℕ → ℕ → Result (Line × Form) Cause → Result (List ℕ) Cause
answer_to channel version (Ok send) = Ok (packet_of_send channel version send.0 send.1)
answer_to channel version (Err cause) = Err cause

abbrev pub packet_of_text : ℕ → ℕ → List ℕ → Result (List ℕ) Cause
packet_of_text channel version text = answer_to channel version (send_of_text text)

-- a refusal gives the first fault of the text, or says that memory was refused
abbrev pub IsRefusal : Result (List ℕ) Cause → OneFault → Type 0
IsRefusal answer (Text cause place) = answer ≡ Err cause
IsRefusal answer Memory = Unit {0}
