-- The types of packets that the bench writes or reads (IRIG 106-17 Chapter 11, table of data types).
use Rattle.std.specs.Prelude.{ℕ}

-- computer generated data, Format 1: a setup record
abbrev pub setup_record : ℕ
setup_record = 0x01

-- computer generated data, Format 3: an index of a recording
abbrev pub recording_index : ℕ
recording_index = 0x03

-- time data, Format 1
abbrev pub time_data : ℕ
time_data = 0x11

-- MIL-STD-1553 bus data, Format 1
abbrev pub bus_messages : ℕ
bus_messages = 0x19
