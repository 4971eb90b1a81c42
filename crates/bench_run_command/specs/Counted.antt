-- How much is in a recording, by its report, and that as text (own choice).
use Rattle.std.specs.Prelude.{ℕ, ◌-◌, List, ◌++◌, length, codes, decimal}
use Rattle.std.specs.List.{sum_by}
use Rattle.ch11_reader.specs.Contents.{capped}
use Rattle.bench_report.specs.Reports.{ChannelPart}

-- the messages of a channel that are in the recording: all that it made, but for those that a full queue refused
abbrev pub kept_count : ChannelPart → ℕ
kept_count part = part.made - length part.refused

-- the messages of all channels, as far as 64 bits count them
abbrev pub message_count : List ChannelPart → ℕ
message_count parts = capped (sum_by kept_count parts)

abbrev pub counts_line : ℕ → ℕ → List ℕ
counts_line packets messages = codes "packets " ++ decimal packets ++ codes " messages " ++ decimal messages
