-- The text of a dump (own choice): a line for each packet of a recording, and behind it a line for each of
-- its messages, numbered from 1 over the file.
use Rattle.std.specs.Prelude.{ℕ, ◌+◌, ◌/◌, ◌%◌, if◌then◌else◌, List, [], ◌∷◌, ◌++◌, length, codes, decimal}
use Rattle.numerals.specs.Numerals.{digit_of}
use Rattle.ch11_header.specs.declared.header.Header.{Header}
use Rattle.ch11_f1.specs.BodyReading.{Message}
use Rattle.ch11_reader.specs.Recording.{Found, holds_messages}

-- a byte as two digits
abbrev pub byte_digits : ℕ → List ℕ
byte_digits byte = digit_of (byte / 16) ∷ digit_of (byte % 16) ∷ []

-- a 16-bit word as four digits
abbrev pub word_digits : ℕ → List ℕ
word_digits word = byte_digits (word / 256) ++ byte_digits (word % 256)

-- bus words, each a space and four digits; in the bytes of a word the low one stands first
abbrev pub bus_words : List ℕ → List ℕ
bus_words [] = []
bus_words (low ∷ []) = []
bus_words (low ∷ high ∷ bytes) = 32 ∷ (byte_digits high ++ (byte_digits low ++ bus_words bytes))

-- the line of message n on a channel
unfoldable pub message_line : ℕ → ℕ → Message → List ℕ
message_line n channel m =
    (codes "message " ++ decimal n)
    ++ ((codes " channel " ++ decimal channel)
    ++ ((codes " stamp " ++ decimal m.stamp)
    ++ ((codes " block " ++ word_digits m.block)
    ++ ((codes " gaps " ++ word_digits m.gaps)
    ++ (codes " words" ++ (bus_words m.bytes ++ codes "\n"))))))

-- the end of a packet's line: what it holds, or that it is skipped
unfoldable pub packet_contents : Header → ℕ → List ℕ
packet_contents h count =
    if holds_messages h
    then (codes " seq " ++ decimal h.sequence)
    ++ (codes " flags " ++ (byte_digits h.flags ++ ((codes " messages " ++ decimal count) ++ codes "\n")))
    else codes " skipped\n"

-- the line of a packet at an offset, with so many messages
unfoldable pub packet_line : ℕ → Header → ℕ → List ℕ
packet_line offset h count =
    (codes "packet " ++ decimal offset)
    ++ ((codes " channel " ++ decimal h.channel)
    ++ (codes " type " ++ (byte_digits h.kind ++ packet_contents h count)))

-- the lines of messages on a channel, behind so many messages of the file
abbrev pub message_lines : ℕ → ℕ → List Message → List ℕ
message_lines before channel [] = []
message_lines before channel (m ∷ ms) = message_line (before + 1) channel m ++ message_lines (before + 1) channel ms

-- the lines of packets, behind so many messages of the file
abbrev pub packet_lines : ℕ → List Found → List ℕ
packet_lines before [] = []
packet_lines before (p ∷ ps) =
    packet_line p.offset p.header (length p.messages)
    ++ (message_lines before p.header.channel p.messages ++ packet_lines (before + length p.messages) ps)

-- the dump of a recording
abbrev pub dump_text : List Found → List ℕ
dump_text ps = packet_lines 0 ps
