-- The recording of a bench, read back.
use Rattle.std.proofs.Common.{◌≡◌, ℕ, List, [], ◌∷◌, ◌++◌, map, refl, sym, ap, ◌∙◌, append_assoc}
use Rattle.std.specs.List.{AllByRecursion}
use Rattle.ch11_f1.specs.BodyReading.{Message}
use Rattle.ch11_f1.specs.Again.{as_message}
use Rattle.ch11_builder.specs.Packet.{Numbered, messages_of}
use Rattle.ch11_reader.specs.Recording.{Found}
use Rattle.ch11_reader.specs.Contents.{reading}
use Rattle.ch11_recording.specs.declared.item.Item.{Item}
use Rattle.ch11_recording.specs.Items.{records_in}
use Rattle.ch11_recording.specs.WrittenFile.{Format, held_in, closed_records}
use Rattle.ch11_recording.specs.Laws.{IsFormat, IsPrologue, IsItem, RecordingIsRead, RecordsAreKept}
use Rattle.bench_core.specs.Bench.{ChannelState, Bench}
use Rattle.bench_core.specs.Settled.{kept_of, HasRecorded, ReadsBack}
use Rattle.bench_settings.proofs.Lists.{records_both}
use Rattle.bench_core.proofs.Steps.{IsChannel, IsBench}

abbrev heard : List Numbered → List Message
heard ns = map as_message (messages_of ns)

heard_both : (ns ms : List Numbered) → heard (ns ++ ms) ≡ heard ns ++ heard ms
heard_both [] ms = refl
heard_both (n ∷ ns) ms = ap (λ (xs : List Message). as_message n.message ∷ xs) (heard_both ns ms)

front_of : (xs ys : List Item) → AllByRecursion IsItem (xs ++ ys) → AllByRecursion IsItem xs
front_of [] ys all = tt
front_of (x ∷ xs) ys all = (all.0, front_of xs ys all.1)

pub settled_channels : (items : List Item) (channels : List ChannelState) → AllByRecursion (IsChannel items) channels → AllByRecursion (λ l. records_in l.channel items ≡ kept_of l) channels
settled_channels items [] all = tt
settled_channels items (l ∷ channels) all = (all.0.settled, settled_channels items channels all.1)

module _ (read : RecordingIsRead) (kept : RecordsAreKept) (f : Format) where
  channel_read : (b : Bench) (l : ChannelState) (ps : List Found) → reading ps l.channel ≡ heard (closed_records f l.channel b.taken) → IsChannel (b.taken ++ b.queue) l
      → reading ps l.channel ++ heard ((held_in f l.channel b.taken).records ++ records_in l.channel b.queue) ≡ heard (kept_of l)
  channel_read b l ps is channel =
      let closed : List Numbered = closed_records f l.channel b.taken in
      let held : List Numbered = (held_in f l.channel b.taken).records in
      let queued : List Numbered = records_in l.channel b.queue in
      ap (λ (ms : List Message). ms ++ heard (held ++ queued)) is
      ∙ sym (heard_both closed (held ++ queued))
      ∙ ap heard (sym (append_assoc closed held queued) ∙ ap (λ (ns : List Numbered). ns ++ queued) (kept f l.channel b.taken)
      ∙ sym (records_both l.channel b.taken b.queue) ∙ channel.settled)

  channels_read : (b : Bench) (channels : List ChannelState) (ps : List Found) → ((channel : ℕ) → reading ps channel ≡ heard (closed_records f channel b.taken))
      → AllByRecursion (IsChannel (b.taken ++ b.queue)) channels
      → AllByRecursion (λ l. reading ps l.channel ++ heard ((held_in f l.channel b.taken).records ++ records_in l.channel b.queue) ≡ heard (kept_of l)) channels
  channels_read b [] ps is all = tt
  channels_read b (l ∷ channels) ps is all = (channel_read b l ps (is l.channel) all.0, channels_read b channels ps is all.1)

  pub reads_back : (prologue : List ℕ) (b : Bench) → IsFormat f → IsPrologue prologue → IsBench b → AllByRecursion HasRecorded b.channels → ReadsBack f prologue b
  reads_back prologue b good first is recorded =
      let r = read f prologue b.taken good first (front_of b.taken b.queue (is.items recorded)) in
      (r.0, r.1, channels_read b b.channels r.0 r.2 is.channels)
