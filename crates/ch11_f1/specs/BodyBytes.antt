-- The bytes of a body of messages (IRIG 106-17 Chapter 11, MIL-STD-1553 bus data packets, Format 1). All
-- numbers are little-endian.
use Rattle.std.specs.Prelude.{ℕ, ◌+◌, ◌*◌, ◌^◌, List, ◌++◌, length}
use Rattle.std.specs.List.{flat_map}
use Rattle.byteorder.specs.Endian.{little_bytes}
use Rattle.ch11_f1.specs.declared.Record.{Record}

-- the words that were on the bus
abbrev pub words_of : Record → List ℕ
words_of r = r.words.items

-- the intra-packet header: time in eight bytes, block status word, gap times word, and the length of the
-- bus words in bytes
unfoldable pub head_bytes : Record → List ℕ
head_bytes r =
    little_bytes 8 r.stamp ++ (little_bytes 2 r.block
    ++ (little_bytes 2 r.gaps ++ little_bytes 2 (2 * length (words_of r))))

-- a message in a body: its header and its bus words
unfoldable pub record_bytes : Record → List ℕ
record_bytes r = head_bytes r ++ flat_map (little_bytes 2) (words_of r)

-- a body: the channel-specific data word, which is time tag 01 (the first bit of the first word) in bits
-- 31..30 and the count of messages in bits 23..0, and then the messages
unfoldable pub body_bytes : List Record → List ℕ
body_bytes rs = little_bytes 4 (2 ^ 30 + length rs) ++ flat_map record_bytes rs
