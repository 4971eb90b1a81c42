-- What is told of channels beside their figures, as far as it is shown (own choice).
use Rattle.std.specs.Prelude.{◌≡◌, ℕ, ◌<◌, ◌-◌, ◌^◌, ◌==◌, Bool, true, nat_eq, List, length, reverse, Some}
use Rattle.std.specs.HashMap.{get}
use Rattle.std.specs.List.{list_any}
use Rattle.std.specs.Option.{is_some}
use Rattle.ch11_f1.specs.BodyReading.{Message}
use Rattle.ch11_layout.specs.Stamps.{Recorded}
use Rattle.ch11_reader.specs.declared.packet.Packet.{Packet}
use Rattle.ch11_reader.specs.Listing.{listed_behind, listing}
use Rattle.ch11_reader.specs.Recording.{Found}
use Rattle.bench_select.specs.declared.selection.Selection.{Selection}
use Rattle.bench_stat.specs.declared.channels.ChannelFigures.{ChannelFigures}
use Rattle.bench_stat.specs.declared.followed.Followed.{Followed}
use Rattle.bench_stat.specs.declared.shown.Shown.{Shown}
use Rattle.bench_stat.specs.declared.told.Told.{Told}
use Rattle.bench_stat.specs.declared.following_packets.ToldChannels.{ToldChannels}
use Rattle.bench_stat.specs.Chosen.{history_of}
use Rattle.bench_stat.specs.Details.{details_of, losses_of}
use Rattle.bench_stat.specs.Entries.{AreEntries}
use Rattle.bench_stat.specs.Slices.{AreBusy}
use Rattle.bench_stat.specs.Streaming.{IsPacketBehind}

-- this is told of messages, newest first
pub record IsFollowed (shown : Shown) (history : List Recorded) (f : Followed) : Type 0 where
  pub details : shown.long ≡ true → f.details ≡ Some (details_of history)
  pub flows : shown.by_subaddress ≡ true → AreEntries history f.flows.items
  pub load : shown.load ≡ true → AreBusy history f.slices.items

-- this is told of a channel: of its packets, and of the selected ones of its messages
pub record IsTold (shown : Shown) (s : Selection) (ps : List Found) (channel : ℕ) (t : Told) : Type 0 where
  pub losses : t.losses ≡ losses_of channel (listing ps)
  pub messages : IsFollowed shown (history_of s ps channel) t.messages

-- one of these figures is of the channel
abbrev pub has_figures : List ChannelFigures → ℕ → Bool
has_figures figures channel = list_any (λ (f : ChannelFigures). f.channel == channel) figures

-- the channels of these figures are told of, and no other
pub record AreTold (shown : Shown) (s : Selection) (figures : List ChannelFigures) (ps : List Found)
    (told : ToldChannels) : Type 0 where
  pub there : (channel : ℕ) → is_some (get nat_eq told.channels channel) ≡ has_figures figures channel
  pub each : (channel : ℕ) (t : Told) → get nat_eq told.channels channel ≡ Some t → IsTold shown s ps channel t

-- the packet behind others is so in all that an index tells of it, and has these messages
pub record IsListedBehind (ps : List Found) (q : Found) (p : Packet) (messages : List Message) : Type 0 where
  pub behind : IsPacketBehind ps q p messages
  pub listed : p ≡ listed_behind (reverse ps) q
  pub few : length ps < 2 ^ 64 - 1
