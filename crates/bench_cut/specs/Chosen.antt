-- What is kept of the messages of a packet that are chosen.
use Rattle.std.specs.Prelude.{◌+◌, ◌<◌, ◌^◌, ◌==◌, Bool, if◌then◌else◌, List, length}
use Rattle.ch11_f1.specs.BodyReading.{Message}
use Rattle.bench_cut.specs.Cut.{first_stamp, size_of, sizes_of}
use Rattle.bench_cut.specs.declared.choosing.Chosen.{Chosen}

-- how many they are, how many bytes they take, and the stamp of the first
abbrev pub what_of : List Message → Chosen
what_of ms = record { count = length ms; size = sizes_of ms; first = first_stamp ms }

-- 64 bits count one more
pub record HasRoom (c : Chosen) (m : Message) : Type 0 where
  pub count : c.count + 1 < 2 ^ 64
  pub size : c.size + size_of m < 2 ^ 64

-- with one more behind them
abbrev pub noted : Chosen → Message → Chosen
noted c m = record {
  count = c.count + 1;
  size = c.size + size_of m;
  first = if c.count == 0 then m.stamp else c.first;
}

abbrev pub noted_if : Bool → Chosen → Message → Chosen
noted_if chosen c m = if chosen then noted c m else c
