-- The figures of the channels of a recording whose packets were read so far.
use Rattle.std.specs.Prelude.{◌≡◌, ◌≤◌, ℕ, false, nat_eq, if◌then◌else◌, List, [], ◌∷◌, ◌++◌, Option, None, Some}
use Rattle.std.specs.HashMap.{get}
use Rattle.ch11_f1.specs.BodyReading.{Message}
use Rattle.ch11_reader.specs.declared.packet.Packet.{Packet}
use Rattle.ch11_reader.specs.Recording.{Found, holds_messages}
use Rattle.ch11_reader.specs.Contents.{total_in}
use Rattle.bench_select.specs.declared.selection.Selection.{Selection}
use Rattle.bench_stat.specs.declared.channels.ChannelFigures.{ChannelFigures}
use Rattle.bench_stat.specs.declared.streaming.TallyByChannel.{TallyByChannel}
use Rattle.bench_stat.specs.declared.tally.Tally.{Tally}
use Rattle.bench_stat.specs.Chosen.{history_of}
use Rattle.bench_stat.specs.Figures.{has_channel, headers, is_listed}
use Rattle.bench_stat.specs.Steps.{tally_of}

-- the figures of a channel, where it is listed
abbrev pub tally_in : Selection → List Found → ℕ → Option Tally
tally_in s ps channel =
    if is_listed s (headers ps) channel then Some (tally_of channel (history_of s ps channel)) else None

-- those of a channel before its first message, where there are none
abbrev pub tally_or_none : ℕ → Option Tally → Tally
tally_or_none channel None = tally_of channel []
tally_or_none channel (Some tally) = tally

-- figures with those of one more channel, where there are any
abbrev pub with_figures : Option Tally → List ChannelFigures → List ChannelFigures
with_figures None figures = figures
with_figures (Some tally) figures = figures ++ tally.figures ∷ []

-- each channel that is listed has its figures, and no other, so none from the end on; a channel without packets of
-- messages has no messages
pub record AreTalliesOf (s : Selection) (ps : List Found) (so_far : TallyByChannel) : Type 0 where
  pub each : (channel : ℕ) → get nat_eq so_far.channels channel ≡ tally_in s ps channel
  pub above : (channel : ℕ) → so_far.end ≤ channel → get nat_eq so_far.channels channel ≡ None
  pub none : (channel : ℕ) → has_channel channel (headers ps) ≡ false → history_of s ps channel ≡ []

-- the packet behind others is listed so, and has these messages
pub record IsPacketBehind (ps : List Found) (q : Found) (p : Packet) (messages : List Message) : Type 0 where
  pub header : q.header ≡ p.header
  pub before : p.before ≡ total_in ps
  pub given : q.messages ≡ messages
  pub other : holds_messages q.header ≡ false → q.messages ≡ []
