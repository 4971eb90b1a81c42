-- One more item of a recording that is being written.
use Rattle.std.proofs.Common.{◌≡◌, ◌≢◌, ℕ, zero, suc, ◌+◌, ◌-◌, ◌≤◌, List, [], ◌∷◌, ◌++◌, length, map, slice_get, slice_index_or, slice_set, Option, Some, refl, sym, ap, ◌∙◌, arith}
use Rattle.std.specs.List.{AllByRecursion, concat}
use Rattle.std.proofs.lemmas.List.{append-nil}
use Rattle.std.proofs.lemmas.Bool.{eqb-true, eq-eqb, false_from_ne_true}
use Rattle.ch11_writer.specs.Writing.{IsWritten, Puts, PutsNone, progress_of}
use Rattle.ch11_builder.specs.Packet.{Channel}
use Rattle.ch11_builder.specs.Held.{Held, fresh}
use Rattle.ch11_builder.specs.Laws.{PacketHasItsLength}
use Rattle.ch11_recording.specs.declared.item.Item.{Item}
use Rattle.ch11_recording.specs.Items.{channel_of}
use Rattle.ch11_recording.specs.WrittenFile.{Format, channel_in, concerns, met, held_in, closing, written_file, closed_by, closed_packets, whole_packets}
use Rattle.ch11_recording.specs.Counting.{Counting, Counts}
use Rattle.ch11_recording.specs.Recording.{IsRecordingOf, AreDistinct}
use Rattle.ch11_recording.proofs.Growth.{after_more, file_more}
use Rattle.ch11_recording.proofs.Kept.{not_mine, mine, items_channel}
use Rattle.ch11_recording.proofs.Whole.{HaveBytes, closed_has_bytes, count_goes_on, file_length, none_counted, packets_go_on}

all_others : (g k : ℕ → Held) (c : ℕ) (channels : List ℕ) → AllByRecursion (λ other. other ≢ c) channels → ((d : ℕ) → d ≢ c → k d ≡ g d) → map g channels ≡ map k channels
all_others g k c [] others same = refl
all_others g k c (d ∷ channels) others same = rw (same d others.0, all_others g k c channels others.1 same) refl

stands : (P : ℕ → Type 0) (channels : List ℕ) (i c : ℕ) → AllByRecursion P channels → slice_get channels i ≡ Some c → P c
stands P [] i c all at = absurd cc
stands P (d ∷ channels) zero c all at = let same : d ≡ c = cc in rw (← same) all.0
stands P (d ∷ channels) (suc i) c all at = stands P channels i c all.1 at

others_of : (d c : ℕ) (channels : List ℕ) → d ≡ c → AllByRecursion (λ other. other ≢ d) channels → AllByRecursion (λ other. other ≢ c) channels
others_of d c channels here all = rw (← here) all

-- what each channel holds, where one of them changes
held_go : (g k : ℕ → Held) (channels : List ℕ) (i c : ℕ) (v : Held) → AreDistinct channels → slice_get channels i ≡ Some c → k c ≡ v → ((d : ℕ) → d ≢ c → k d ≡ g d)
    → slice_set (map g channels) i v ≡ map k channels
held_go g k [] i c v distinct at is same = absurd cc
held_go g k (d ∷ channels) zero c v distinct at is same =
    let here : d ≡ c = cc in
    rw (here, is, all_others g k c channels (others_of d c channels here distinct.0) same) refl
held_go g k (d ∷ channels) (suc i) c v distinct at is same =
    let other : c ≢ d = stands (λ (x : ℕ). x ≢ d) channels i c distinct.0 at in
    rw (same d (λ (e : d ≡ c). other (sym e)), held_go g k channels i c v distinct.1 at is same) refl

held_at : (g : ℕ → Held) (channels : List ℕ) (i c : ℕ) (d : Held) → slice_get channels i ≡ Some c → slice_index_or (map g channels) i d ≡ g c
held_at g [] i c d at = absurd cc
held_at g (x ∷ channels) zero c d at = let same : x ≡ c = cc in ap g same
held_at g (x ∷ channels) (suc i) c d at = held_at g channels i c d at

own : (f : Format) (channel : ℕ) (items : List Item) → (held_in f channel items).channel.channel ≡ channel
own f channel items = ap (λ (c : Channel). c.channel) (items_channel (fresh (channel_in f channel)) items)

held_more : (f : Format) (items : List Item) (x : Item) (channel : ℕ) → channel_of x ≡ channel → held_in f channel (items ++ x ∷ []) ≡ met (held_in f channel items) x
held_more f items x channel of =
    after_more (fresh (channel_in f channel)) items x
    ∙ mine (held_in f channel items) x (eq-eqb (channel_of x) (held_in f channel items).channel.channel (of ∙ sym (own f channel items)))

held_same : (f : Format) (items : List Item) (x : Item) (channel d : ℕ) → channel_of x ≡ channel → d ≢ channel → held_in f d (items ++ x ∷ []) ≡ held_in f d items
held_same f items x channel d of other =
    after_more (fresh (channel_in f d)) items x
    ∙ not_mine (held_in f d items) x (false_from_ne_true (concerns (held_in f d items) x)
    (λ e. other (sym (own f d items) ∙ sym (eqb-true (channel_of x) (held_in f d items).channel.channel e) ∙ of)))

-- the count, where these packets are put
counts_on : {S : Type 0} (taken : S → Option (List ℕ)) (f : Format) (prologue : List ℕ) (before : Option (List ℕ)) (items : List Item) (qs : List (List ℕ)) (old new : Counting S)
    → HaveBytes qs → IsWritten (written_file f prologue items) before (progress_of taken old.writing)
    → old.packets ≡ whole_packets (old.writing.taken - length prologue) (closed_packets f items) → Counts qs old new
    → new.packets ≡ whole_packets (new.writing.taken - length prologue) (closed_packets f items ++ qs)
counts_on taken f prologue before items qs old new all written is counts =
    let long : length (written_file f prologue items) ≡ length prologue + length (concat (closed_packets f items)) = file_length f prologue items in
    let within : old.writing.taken ≤ length prologue + length (concat (closed_packets f items)) = omega (arith, written.within, long) in
    count_goes_on (closed_packets f items) qs (length prologue) old.writing.taken new.writing.taken old.packets new.packets old.writing.failed all within
    (λ whole. written.whole whole ∙ long) is counts.grows counts.counted
    (λ failed. (ap (λ (w : Counting _). w.writing.taken) (counts.silent failed), ap (λ (w : Counting _). w.packets) (counts.silent failed)))

-- the item is one of the channel that the builder has
pub goes_on : {S : Type 0} (taken : S → Option (List ℕ)) → PacketHasItsLength → (item : ℕ → Item) (f : Format) (prologue : List ℕ) (before : Option (List ℕ)) (channels : List ℕ) (i channel : ℕ)
    (items : List Item) (held : List Held) (old new : Counting S) (d h k : Held)
    → ((c : ℕ) → channel_of (item c) ≡ c) → AreDistinct channels → slice_get channels i ≡ Some channel
    → IsRecordingOf taken f prologue before channels items (record { held = held; writing = old.writing; packets = old.packets })
    → h ≡ slice_index_or held i d → k ≡ met h (item h.channel.channel) → Puts (closing h (item h.channel.channel)) (progress_of taken old.writing) (progress_of taken new.writing)
    → Counts (closed_by h (item h.channel.channel)) old new
    → IsRecordingOf taken f prologue before channels (items ++ item channel ∷ []) (record { held = slice_set held i k; writing = new.writing; packets = new.packets })
goes_on taken size item f prologue before channels i channel items held old new d h k of distinct at is from next puts counts =
    let g : ℕ → Held = λ (c : ℕ). held_in f c items in
    let x : Item = item channel in
    let here : h ≡ g channel = from ∙ ap (λ (ls : List Held). slice_index_or ls i d) is.held ∙ held_at g channels i channel d at in
    let number : h.channel.channel ≡ channel = ap (λ (l : Held). l.channel.channel) here ∙ own f channel items in
    let same_item : item h.channel.channel ≡ x = ap item number in
    let of_channel : channel_of x ≡ channel = of channel in
    record {
      held = ap (λ (ls : List Held). slice_set ls i k) is.held
          ∙ held_go g (λ (c : ℕ). held_in f c (items ++ x ∷ [])) channels i channel k distinct at
          (held_more f items x channel of_channel ∙ ap (λ (l : Held). met l x) (sym here) ∙ ap (met h) (sym same_item) ∙ sym next)
          (λ c other. held_same f items x channel c of_channel other);
      written =
          let bytes : written_file f prologue (items ++ x ∷ []) ≡ written_file f prologue items ++ closing h (item h.channel.channel) =
          file_more f prologue items x
          ∙ ap (λ (c : ℕ). written_file f prologue items ++ closing (held_in f c items) x) of_channel
          ∙ ap (λ (l : Held). written_file f prologue items ++ closing l x) (sym here)
          ∙ ap (λ (y : Item). written_file f prologue items ++ closing h y) (sym same_item) in
          rw bytes (puts (written_file f prologue items) before is.written);
      packets =
          let packets : closed_packets f (items ++ x ∷ []) ≡ closed_packets f items ++ closed_by h (item h.channel.channel) =
          packets_go_on f items x
          ∙ ap (λ (c : ℕ). closed_packets f items ++ closed_by (held_in f c items) x) of_channel
          ∙ ap (λ (l : Held). closed_packets f items ++ closed_by l x) (sym here)
          ∙ ap (λ (y : Item). closed_packets f items ++ closed_by h y) (sym same_item) in
          counts_on taken f prologue before items (closed_by h (item h.channel.channel)) old new (closed_has_bytes size h (item h.channel.channel)) is.written is.packets counts
          ∙ ap (whole_packets (new.writing.taken - length prologue)) (sym packets);
    }

-- a recording with nothing in it
pub file_of_none : (f : Format) (prologue : List ℕ) → written_file f prologue [] ≡ prologue
unfolding written_file
file_of_none f prologue = append-nil prologue

pub begun : {S : Type 0} (taken : S → Option (List ℕ)) (f : Format) (before : Option (List ℕ)) (channels bytes : List ℕ) (held : List Held) (old new : Counting S)
    → IsRecordingOf taken f [] before channels [] (record { held = held; writing = old.writing; packets = old.packets })
    → Puts bytes (progress_of taken old.writing) (progress_of taken new.writing) → new.packets ≡ old.packets
    → IsRecordingOf taken f bytes before channels [] (record { held = held; writing = new.writing; packets = new.packets })
begun taken f before channels bytes held old new is puts same = record {
  held = is.held;
  written =
      let nothing : IsWritten [] before (progress_of taken old.writing) = rw (← file_of_none f []) is.written in
      rw (file_of_none f bytes) (puts [] before nothing);
  packets = same ∙ is.packets ∙ none_counted f (old.writing.taken - length {A = ℕ} []) ∙ sym (none_counted f (new.writing.taken - length bytes));
}

-- the end is no packet
pub told : {S : Type 0} (taken : S → Option (List ℕ)) (f : Format) (prologue : List ℕ) (before : Option (List ℕ)) (channels : List ℕ) (items : List Item) (held : List Held) (old new : Counting S)
    → IsRecordingOf taken f prologue before channels items (record { held = held; writing = old.writing; packets = old.packets })
    → PutsNone (progress_of taken old.writing) (progress_of taken new.writing) → new.writing.taken ≡ old.writing.taken → new.packets ≡ old.packets
    → IsRecordingOf taken f prologue before channels items (record { held = held; writing = new.writing; packets = new.packets })
told taken f prologue before channels items held old new is puts count same = record {
  held = is.held;
  written = puts (written_file f prologue items) before is.written;
  packets = same ∙ is.packets ∙ ap (λ (n : ℕ). whole_packets (n - length prologue) (closed_packets f items)) (sym count);
}

pub held_got : (held : List Held) (i : ℕ) (h d : Held) → slice_get held i ≡ Some h → slice_index_or held i d ≡ h
held_got [] i h d at = absurd cc
held_got (x ∷ held) zero h d at = cc
held_got (x ∷ held) (suc i) h d at = held_got held i h d at
