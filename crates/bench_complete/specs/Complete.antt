-- The complete file of a recording (own choice).
use Rattle.std.specs.Prelude.{◌≡◌, ℕ, ◌+◌, ◌*◌, ◌/◌, nat_lt, if◌then◌else◌, min, max, List, [], ◌∷◌, ◌++◌, Option, None}
use Rattle.std.specs.Prelude.{Some, option_map}
use Rattle.std.specs.Io.KnownBytes.{Appends}
use Rattle.ch11_reader.specs.Recording.{Found}
use Rattle.bench_complete.specs.declared.additions.Additions.{Additions}
use Rattle.bench_complete.specs.declared.additions.UtcSecond.{UtcSecond}
use Rattle.bench_complete.specs.declared.extent.Extent.{Extent}
use Rattle.bench_complete.specs.declared.placed.Placed.{Placed}
use Rattle.bench_complete.specs.declared.times.Times.{Times}
use Rattle.bench_complete.specs.Pieces.{Piece, bytes_of, kept_entries, kept_packets, leading, behind_leading}
use Rattle.bench_complete.specs.Merging.{IsMerge}
use Rattle.bench_complete.specs.TimePackets.{times_in}
use Rattle.bench_complete.specs.SetupRecord.{setup_piece}

-- the lowest and the highest counter, where there is a packet, with one more counter
abbrev pub widened : Option Extent → ℕ → Option Extent
widened None counter = Some (record { low = counter; high = counter })
widened (Some e) counter = Some (record { low = min e.low counter; high = max e.high counter })

abbrev pub extent_behind : Option Extent → List Piece → Option Extent
extent_behind e [] = e
extent_behind e (p ∷ ps) = extent_behind (widened e p.header.counter) ps

-- the lowest and the highest counter of packets
abbrev pub extent_of : List Piece → Option Extent
extent_of ps = extent_behind None ps

abbrev pub low_of : Option Extent → ℕ
low_of None = 0
low_of (Some e) = e.low

-- the whole seconds from the last one at or before the lowest counter to the last one at or before the highest; none
-- where no time is asked for, and none for no packet
abbrev pub times_between : Additions → Option UtcSecond → Option Extent → Times
times_between a (Some start) (Some e) = record {
  start = start.second;
  channel = a.time_channel;
  version = a.version;
  first = e.low / 10000000;
  end = e.high / 10000000 + 1;
}
times_between a start None = record { start = 0; channel = a.time_channel; version = a.version; first = 0; end = 0 }
times_between a None (Some e) = record { start = 0; channel = a.time_channel; version = a.version; first = 0; end = 0 }

-- the lowest counter of time packets and of packets of an extent
abbrev pub low_by : Times → Option Extent → ℕ
low_by t None = 0
low_by t (Some e) = if nat_lt t.first t.end then t.first * 10000000 else e.low

-- the setup record of a text, where there is one
abbrev pub front_of : Option (List ℕ) → ℕ → ℕ → List Piece
front_of None version counter = []
front_of (Some text) version counter = setup_piece version counter text ∷ []

-- the setup record of a text, where there is one, in front of packets; its counter is the lowest of theirs
abbrev pub setup_pieces : Option (List ℕ) → ℕ → List Piece → List Piece
setup_pieces setup version ps = front_of setup version (low_of (extent_of ps))

-- what is made of a recording: the packets that stand in front, and those that are merged behind them
pub record Plan : Type 0 where
  pub front : List Piece
  pub parts : List Piece

-- time packets and the packets of a recording planned: in front stands a setup record that is added, whose counter is
-- the lowest of all packets, and then those that lead the recording; all others are merged
abbrev pub plan_of : Option (List ℕ) → ℕ → List Piece → List Piece → Plan
plan_of setup version times kept = record {
  front = setup_pieces setup version (times ++ kept) ++ leading kept;
  parts = times ++ behind_leading kept;
}

-- the plan for packets of a file by where they stand
abbrev pub plan_by : Option (List ℕ) → Times → List Placed → List ℕ → Plan
plan_by setup t es file = plan_of setup t.version (times_in t) (kept_entries file es)

-- the plan for the packets of a file and what is to be added
abbrev pub plan_for : List ℕ → List Found → Additions → Plan
plan_for file ps a = plan_of (option_map (λ text. text.now) a.setup) a.version
    (times_in (times_between a a.start (extent_of (kept_packets file ps)))) (kept_packets file ps)

-- the file of a plan: what stands in front, and behind it the merge
pub record IsComplete (plan : Plan) (bytes : List ℕ) : Type 0 where
  pub merged : List Piece
  pub merge : IsMerge plan.parts merged
  pub is : bytes ≡ bytes_of (plan.front ++ merged)

-- a writer got the file of a plan
pub record Completes (plan : Plan) (got gets : Option (List ℕ)) : Type 0 where
  pub bytes : List ℕ
  pub complete : IsComplete plan bytes
  pub taken : Appends got gets bytes
