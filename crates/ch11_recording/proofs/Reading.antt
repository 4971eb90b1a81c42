-- A recording is read again.
use Rattle.std.proofs.Common.{◌≡◌, ℕ, Bool, true, false, ◌&&◌, cond, eqb, List, [], ◌∷◌, ◌++◌, length, map, refl, sym, ap, ◌∙◌, append_assoc}
use Rattle.std.specs.List.{AllByRecursion}
use Rattle.std.proofs.lemmas.List.{append-nil}
use Rattle.std.proofs.lemmas.Bool.{eqb-true}
use Rattle.ch11_f1.specs.BodyReading.{Message}
use Rattle.ch11_f1.specs.Again.{as_message}
use Rattle.ch11_builder.specs.Packet.{Numbered, Channel, messages_of}
use Rattle.ch11_builder.specs.Held.{Held, fresh, packet_of}
use Rattle.ch11_builder.specs.Laws.{PacketHasItsLength, HeaderIsReadAgain, MessagesAreReadAgain}
use Rattle.ch11_reader.specs.Recording.{Found, holds_messages, packets_in}
use Rattle.ch11_reader.specs.Contents.{reading}
use Rattle.ch11_reader.specs.Joined.{later, RecordingsJoin, OthersAreSilent}
use Rattle.ch11_recording.specs.declared.item.Item.{Item}
use Rattle.ch11_recording.specs.Items.{channel_of}
use Rattle.ch11_recording.specs.WrittenFile.{Format, channel_in, concerns, closes, held_in, closing, written_file, closed_records}
use Rattle.ch11_recording.specs.Laws.{IsFormat, IsPrologue, IsItem, ReadsBack}
use Rattle.ch11_recording.proofs.Growth.{file_more, closed_more}
use Rattle.ch11_recording.proofs.Kept.{items_channel}
use Rattle.ch11_recording.proofs.Packets.{IsGood, held_is_good, closing_is_piece, found, closed_is_read}

-- ---- readings

reading_both : (ps qs : List Found) (channel : ℕ) → reading (ps ++ qs) channel ≡ reading ps channel ++ reading qs channel
reading_both [] qs channel = refl
reading_both (p ∷ ps) qs channel =
    let first : List Message = cond (eqb p.header.channel channel) p.messages [] in
    ap (λ (ms : List Message). first ++ ms) (reading_both ps qs channel) ∙ sym (append_assoc first (reading ps channel) (reading qs channel))

-- the messages of records
abbrev heard : List Numbered → List Message
heard ns = map as_message (messages_of ns)

heard_both : (ns ms : List Numbered) → heard (ns ++ ms) ≡ heard ns ++ heard ms
heard_both [] ms = refl
heard_both (n ∷ ns) ms = ap (λ (xs : List Message). as_message n.message ∷ xs) (heard_both ns ms)

-- one packet more, of this channel
pub one_more : (h : Held) (by channel : ℕ) → reading (map (later by) (found h ∷ [])) channel ≡ cond (eqb h.channel.channel channel) (heard h.records) []
one_more h by channel = append-nil (cond (eqb h.channel.channel channel) (heard h.records) [])

-- ---- what one more item closes, of a channel

choose_same : (b c d : Bool) (ns ms : List Numbered) → b ≡ true → c ≡ true → d ≡ true → ns ≡ ms → cond b (heard ns) [] ≡ heard (cond (c && d) ms [])
choose_same b c d ns ms p q r same = rw (p, q, r, same) refl

choose_none : (b c d : Bool) (ns ms : List Numbered) → b ≡ false → c ≡ false → cond b (heard ns) [] ≡ heard (cond (c && d) ms [])
choose_none b c d ns ms p q = rw (p, q) refl

neither : (c d : Bool) (ns : List Numbered) → (c ≡ true → d ≡ false) → cond (c && d) ns [] ≡ []
neither false d ns none = refl
neither true d ns none = rw (none refl) refl

own : (f : Format) (channel : ℕ) (items : List Item) → (held_in f channel items).channel.channel ≡ channel
own f channel items = ap (λ (c : Channel). c.channel) (items_channel (fresh (channel_in f channel)) items)

-- the item closes a packet
closed_by_item : (f : Format) (items : List Item) (x : Item) (channel : ℕ) (b : Bool) → eqb (channel_of x) channel ≡ b → closes (held_in f (channel_of x) items) x ≡ true
    → cond (eqb (held_in f (channel_of x) items).channel.channel channel) (heard (held_in f (channel_of x) items).records) []
    ≡ heard (cond (concerns (held_in f channel items) x && closes (held_in f channel items) x) (held_in f channel items).records [])
closed_by_item f items x channel true e is =
    let same : channel_of x ≡ channel = eqb-true (channel_of x) channel e in
    choose_same _ _ _ _ _ (ap (λ (k : ℕ). eqb k channel) (own f (channel_of x) items) ∙ e) (ap (eqb (channel_of x)) (own f channel items) ∙ e)
    (ap (λ (k : ℕ). closes (held_in f k items) x) (sym same) ∙ is) (ap (λ (k : ℕ). (held_in f k items).records) same)
closed_by_item f items x channel false e is =
    choose_none _ _ _ _ _ (ap (λ (k : ℕ). eqb k channel) (own f (channel_of x) items) ∙ e) (ap (eqb (channel_of x)) (own f channel items) ∙ e)

-- the item closes none
closed_by_none : (f : Format) (items : List Item) (x : Item) (channel : ℕ) → closes (held_in f (channel_of x) items) x ≡ false
    → cond (concerns (held_in f channel items) x && closes (held_in f channel items) x) (held_in f channel items).records [] ≡ []
closed_by_none f items x channel is =
    neither _ _ _ (λ (mine : concerns (held_in f channel items) x ≡ true).
    let same : channel_of x ≡ channel = eqb-true (channel_of x) channel (ap (eqb (channel_of x)) (sym (own f channel items)) ∙ mine) in
    ap (λ (k : ℕ). closes (held_in f k items) x) (sym same) ∙ is)

closing_none : (h : Held) (x : Item) → closes h x ≡ false → closing h x ≡ []
closing_none h x is = rw is refl

closing_one : (h : Held) (x : Item) → closes h x ≡ true → closing h x ≡ packet_of h
closing_one h x is = rw is refl

-- ---- one item more

either_way : {A : Type 0} (b : Bool) (xs : List A) → cond b [] [] ++ xs ≡ xs
either_way true xs = refl
either_way false xs = refl

file_is_prologue : (f : Format) (prologue : List ℕ) → written_file f prologue [] ≡ prologue
unfolding written_file
file_is_prologue f prologue = append-nil prologue

module _ (size : PacketHasItsLength) (header : HeaderIsReadAgain) (messages : MessagesAreReadAgain) (join : RecordingsJoin) (silent : OthersAreSilent)
    (f : Format) (good : IsFormat f) (prologue : List ℕ) where
  abbrev file : List Item → List ℕ
  file items = written_file f prologue items

  reads_none : (items : List Item) (x : Item) → closes (held_in f (channel_of x) items) x ≡ false → ReadsBack f prologue items → ReadsBack f prologue (items ++ x ∷ [])
  reads_none items x is reads = (
    reads.0,
    ap packets_in (file_more f prologue items x ∙ ap (λ (bytes : List ℕ). file items ++ bytes) (closing_none (held_in f (channel_of x) items) x is) ∙ append-nil (file items)) ∙ reads.1,
    λ (channel : ℕ). reads.2 channel
        ∙ ap heard (sym (closed_more (fresh (channel_in f channel)) items x
        ∙ ap (λ (ns : List Numbered). closed_records f channel items ++ ns) (closed_by_none f items x channel is)
        ∙ append-nil (closed_records f channel items))),
  )

  reads_one : (items : List Item) (x : Item) → closes (held_in f (channel_of x) items) x ≡ true → AllByRecursion IsItem items → IsItem x
      → ReadsBack f prologue items → ReadsBack f prologue (items ++ x ∷ [])
  reads_one items x is all last reads =
      let h : Held = held_in f (channel_of x) items in
      let fine : IsGood h = held_is_good f (channel_of x) items good last.0 all in
      let by : ℕ = length (file items) in (
        reads.0 ++ map (later by) (found h ∷ []),
        ap packets_in (file_more f prologue items x ∙ ap (λ (bytes : List ℕ). file items ++ bytes) (closing_one h x is))
            ∙ join (file items) (packet_of h) reads.0 (found h ∷ []) reads.1 (closed_is_read size header messages h fine (closing_is_piece h x fine is)),
        λ (channel : ℕ). reading_both reads.0 (map (later by) (found h ∷ [])) channel
            ∙ ap (λ (ms : List Message). ms ++ reading (map (later by) (found h ∷ [])) channel) (reads.2 channel)
            ∙ ap (λ (ms : List Message). heard (closed_records f channel items) ++ ms) (one_more h by channel ∙ closed_by_item f items x channel (eqb (channel_of x) channel) refl is)
            ∙ sym (heard_both (closed_records f channel items) (cond (concerns (held_in f channel items) x && closes (held_in f channel items) x) (held_in f channel items).records []))
            ∙ ap heard (sym (closed_more (fresh (channel_in f channel)) items x)),
      )

  reads_more : (items : List Item) (x : Item) (b : Bool) → closes (held_in f (channel_of x) items) x ≡ b → AllByRecursion IsItem items → IsItem x
      → ReadsBack f prologue items → ReadsBack f prologue (items ++ x ∷ [])
  reads_more items x true is all last reads = reads_one items x is all last reads
  reads_more items x false is all last reads = reads_none items x is reads

  all_more : (items : List Item) (x : Item) → AllByRecursion IsItem items → IsItem x → AllByRecursion IsItem (items ++ x ∷ [])
  all_more [] x all last = (last, tt)
  all_more (y ∷ items) x all last = (all.0, all_more items x all.1 last)

  reads_all : (earlier items : List Item) → AllByRecursion IsItem earlier → AllByRecursion IsItem items → ReadsBack f prologue earlier → ReadsBack f prologue (earlier ++ items)
  reads_all earlier [] before all reads = rw (append-nil earlier) reads
  reads_all earlier (x ∷ items) before all reads =
      rw (← append_assoc earlier (x ∷ []) items)
      (reads_all (earlier ++ x ∷ []) items (all_more earlier x before all.0) all.1
      (reads_more earlier x (closes (held_in f (channel_of x) earlier) x) refl before all.0 reads))

  none_heard : (ps : List Found) (channel : ℕ) → AllByRecursion (λ (p : Found). holds_messages p.header ≡ false → p.messages ≡ []) ps
      → AllByRecursion (λ (p : Found). holds_messages p.header ≡ false) ps → reading ps channel ≡ []
  none_heard [] channel quiet others = refl
  none_heard (p ∷ ps) channel quiet others =
      rw (quiet.0 others.0, none_heard ps channel quiet.1 others.1) (either_way (eqb p.header.channel channel) [])

  pub recording_is_read : (items : List Item) → IsPrologue prologue → AllByRecursion IsItem items → ReadsBack f prologue items
  recording_is_read items is all =
      reads_all [] items tt all
      (is.0, ap packets_in (file_is_prologue f prologue) ∙ is.1, λ (channel : ℕ). none_heard is.0 channel (silent prologue is.0 is.1) is.2)
