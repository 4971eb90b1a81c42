-- How many messages a full queue refused, by the report, and that as text (own choice).
use Rattle.std.specs.Prelude.{ℕ, ◌==◌, List, [], ◌++◌, length, codes, decimal, if◌then◌else◌}
use Rattle.std.specs.List.{sum_by, flat_map}
use Rattle.ch11_reader.specs.Contents.{capped}
use Rattle.bench_report.specs.Reports.{ChannelPart}

-- the messages of all channels that were refused, as far as 64 bits count them
abbrev pub refused_count : List ChannelPart → ℕ
refused_count parts = capped (sum_by (λ part. length part.refused) parts)

-- so many of a channel
abbrev pub told_of : ℕ → ℕ → List ℕ
told_of refused channel = codes ", " ++ decimal refused ++ codes " of channel " ++ decimal channel

-- those of a channel, if there are any
abbrev pub refused_of : ChannelPart → List ℕ
refused_of part = if length part.refused == 0 then [] else told_of (length part.refused) part.channel

abbrev pub refusals_text : List ChannelPart → List ℕ
refusals_text parts = if refused_count parts == 0 then []
    else (decimal (refused_count parts) ++ codes " messages were refused at a full queue") ++ flat_map refused_of parts
