-- What the fields of a builder say of the records that it holds.
use Rattle.std.specs.Prelude.{◌≡◌, ℕ, ◌+◌, ◌<◌, ◌≤◌, ◌^◌, List, length, take, drop, vec_len}
use Rattle.std.specs.List.{flat_map}
use Rattle.ch11_f1.specs.BodyBytes.{record_bytes}
use Rattle.ch11_builder.specs.Packet.{Numbered, messages_of, size_of, packet_length, first_stamp, last_number, has_gap}
use Rattle.ch11_builder.specs.Held.{Held}
use Rattle.ch11_builder.specs.declared.packing.Packing.TheInside.{Inside}

-- the records that it holds, and the packet that it finished last
pub record State : Type 0 where
  pub held : Held
  pub lent : List ℕ

abbrev pub records_of : Inside → List Numbered
records_of p = p.records

abbrev pub state_of : Inside → State
state_of p = record {
  held = record {
    channel = record { channel = p.channel; version = p.version; limit = p.limit };
    place = p.place;
    before = p.before;
    records = records_of p;
  };
  lent = take p.finished p.done.items;
}

pub record IsBuilt (p : Inside) : Type 0 where
  pub low : 256 ≤ p.limit
  pub high : p.limit ≤ 524288
  pub open_room : length p.filling.items ≡ p.limit
  pub open_len : vec_len p.filling ≡ p.limit
  pub done_room : length p.done.items ≡ p.limit
  pub done_len : vec_len p.done ≡ p.limit
  pub used : p.used ≡ 28 + size_of (records_of p)
  pub within : packet_length (records_of p) ≤ p.limit
  pub finished : p.finished ≤ p.limit
  pub body : drop 28 (take p.used p.filling.items) ≡ flat_map record_bytes (messages_of (records_of p))
  pub count : p.count ≡ length (records_of p)
  pub count_low : p.count ≤ p.used
  pub first : p.first_stamp ≡ first_stamp (records_of p)
  pub first_low : p.first_stamp < 2 ^ 48
  pub last : p.last ≡ last_number p.before (records_of p)
  pub overflow : p.overflow ≡ has_gap p.before (records_of p)
  pub place : p.place ≤ p.before
  pub before_low : p.before + p.count ≤ p.last
