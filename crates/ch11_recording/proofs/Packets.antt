-- A packet that a channel closes is read as one packet, with its records.
use Rattle.std.proofs.Common.{◌≡◌, ℕ, zero, suc, ◌+◌, ◌^◌, ◌<◌, ◌≤◌, Bool, true, false, true≢false, not, ◌||◌, cond, leb, List, [], ◌∷◌, ◌++◌, length, take, drop, map, Ok, refl, sym, ap, ◌∙◌, arith}
use Rattle.std.specs.List.{AllByRecursion}
use Rattle.std.proofs.lemmas.Bool.{le-ltb, le-leb, lt-ltb}
use Rattle.std.proofs.lemmas.List.{append-nil, drop_all}
use Rattle.ch11_header.specs.declared.header.Header.{Header}
use Rattle.ch11_header.specs.HeaderReading.{header_in}
use Rattle.ch11_f1.specs.BodyBytes.{words_of}
use Rattle.ch11_f1.specs.BodyReading.{Message, messages_in}
use Rattle.ch11_f1.specs.Again.{as_message}
use Rattle.ch11_builder.specs.Packet.{Numbered, messages_of, size_of, packet_length, has_gap, header_of}
use Rattle.ch11_builder.specs.Cutting.{is_empty, is_piece}
use Rattle.ch11_builder.specs.Held.{Held, fresh, fits, pushed, closed, packet_of}
use Rattle.ch11_builder.specs.Recorded.{IsRecorded, IsChannel}
use Rattle.ch11_builder.specs.Laws.{PacketHasItsLength, HeaderIsReadAgain, MessagesAreReadAgain}
use Rattle.ch11_reader.specs.Recording.{Found, body_of, packet_at, packets_from, packets_in}
use Rattle.ch11_reader.specs.Recording as reader
use Rattle.ch11_recording.specs.declared.item.Item.{Item}
use Rattle.ch11_recording.specs.declared.item.Item.TheVariants as item
use Rattle.ch11_recording.specs.Items.{numbered}
use Rattle.ch11_recording.specs.WrittenFile.{Format, channel_in, concerns, closes, met, after_item, after_items, held_in}
use Rattle.ch11_recording.specs.Laws.{IsFormat, IsItem}
use Rattle.ch11_recording.proofs.Kept.{kept_open, opened, not_mine, mine}

-- ---- what a channel holds can be a packet

-- its open records can be one packet, if there is any
pub record IsGood (h : Held) : Type 0 where
  pub channel : IsChannel h.channel
  pub records : AllByRecursion IsRecorded h.records
  pub piece : (is_empty h.records || is_piece h.channel.limit h.records) ≡ true

one_is_piece : (limit : ℕ) (n : Numbered) → 256 ≤ limit → length (words_of n.message) ≤ 40 → is_piece limit (n ∷ []) ≡ true
one_is_piece limit n low few =
    rw (le-leb (packet_length (n ∷ [])) limit (omega (arith, low, few)), lt-ltb n.message.stamp (n.message.stamp + 1000000) (omega arith)) refl

all_more : (ns : List Numbered) (n : Numbered) → AllByRecursion IsRecorded ns → IsRecorded n → AllByRecursion IsRecorded (ns ++ n ∷ [])
all_more [] n all last = (last, tt)
all_more (m ∷ ns) n all last = (all.0, all_more ns n all.1 last)

more_is_piece : (h : Held) (n : Numbered) (ns : List Numbered) → h.records ≡ ns → IsChannel h.channel → IsRecorded n → (is_empty ns || is_piece h.channel.limit (ns ++ n ∷ [])) ≡ true
    → (is_empty (ns ++ n ∷ []) || is_piece h.channel.limit (ns ++ n ∷ [])) ≡ true
more_is_piece h n [] is good recorded fit = one_is_piece h.channel.limit n good.low recorded.words
more_is_piece h n (m ∷ ns) is good recorded fit = fit

fits_is : (h : Held) (n : Numbered) → fits h n ≡ (is_empty h.records || is_piece h.channel.limit (h.records ++ n ∷ []))
unfolding fits
fits_is h n = refl

pushed_is_good : (h : Held) (n : Numbered) (fit : Bool) → fits h n ≡ fit → IsGood h → IsRecorded n → IsGood (pushed h n)
pushed_is_good h n true f good recorded = rw (kept_open h n f) (record {
  channel = good.channel;
  records = all_more h.records n good.records recorded;
  piece = more_is_piece h n h.records refl good.channel recorded (sym (fits_is h n) ∙ f);
})
pushed_is_good h n false f good recorded = rw (opened h n f) (record {
  channel = good.channel;
  records = (recorded, tt);
  piece = one_is_piece h.channel.limit n good.channel.low recorded.words;
})

ended_is_good : (h : Held) (none : Bool) → is_empty h.records ≡ none → IsGood h → IsGood (cond (is_empty h.records) h (closed h))
ended_is_good h true e good = rw e good
ended_is_good h false e good = rw e (record { channel = good.channel; records = tt; piece = refl })

met_is_good : (h : Held) (x : Item) → IsGood h → IsItem x → IsGood (met h x)
met_is_good h (item.Message channel number message) good is = pushed_is_good h (numbered number message) (fits h (numbered number message)) refl good is.1.0
met_is_good h (item.End channel) good is = ended_is_good h (is_empty h.records) refl good

after_is_good : (h : Held) (x : Item) (b : Bool) → concerns h x ≡ b → IsGood h → IsItem x → IsGood (after_item h x)
after_is_good h x true e good is = rw (mine h x e) (met_is_good h x good is)
after_is_good h x false e good is = rw (not_mine h x e) good

pub items_are_good : (h : Held) (items : List Item) → IsGood h → AllByRecursion IsItem items → IsGood (after_items h items)
items_are_good h [] good all = good
items_are_good h (x ∷ later) good all = items_are_good (after_item h x) later (after_is_good h x (concerns h x) refl good all.0) all.1

pub held_is_good : (f : Format) (channel : ℕ) (items : List Item) → IsFormat f → channel < 2 ^ 16 → AllByRecursion IsItem items → IsGood (held_in f channel items)
held_is_good f channel items good low all =
    items_are_good (fresh (channel_in f channel)) items
    (record { channel = record { channel = low; version = good.version; low = good.low; high = good.high }; records = tt; piece = refl }) all

-- ---- a closed packet

-- where an item closes a packet, the open records are a piece
pub closing_is_piece : (h : Held) (x : Item) → IsGood h → closes h x ≡ true → is_piece h.channel.limit h.records ≡ true
closing_is_piece h x good is = go h.records refl x is good.piece
  where
    not_true : (b : Bool) → not b ≡ true → b ≡ false
    not_true true e = cc
    not_true false e = refl

    go : (ns : List Numbered) → h.records ≡ ns → (y : Item) → closes h y ≡ true → (is_empty h.records || is_piece h.channel.limit h.records) ≡ true → is_piece h.channel.limit h.records ≡ true
    go (n ∷ ns) r y is piece = rw r (ap (λ (ms : List Numbered). is_empty ms || is_piece h.channel.limit ms) (sym r) ∙ piece)
    go [] r (item.Message channel number message) is piece =
        absurd (true≢false (sym (fits_is h (numbered number message) ∙ ap (λ (ms : List Numbered). is_empty ms || is_piece h.channel.limit (ms ++ numbered number message ∷ [])) r) ∙ not_true (fits h (numbered number message)) is))
    go [] r (item.End channel) is piece = absurd (true≢false (sym (ap is_empty r) ∙ not_true (is_empty h.records) is))

abbrev pub header_of_held : Held → Header
header_of_held h = header_of h.channel h.place h.before h.records

plain_flags : (b : Bool) → leb 128 (cond b 0x10 0) ≡ false
plain_flags true = refl
plain_flags false = refl

nothing : (most offset : ℕ) → packets_from most offset [] ≡ Ok []
unfolding packets_from
nothing zero offset = refl
nothing (suc most) offset = refl

abbrev pub found : Held → Found
found h = record { offset = 0; header = header_of_held h; messages = map as_message (messages_of h.records) }

module _ (size : PacketHasItsLength) (header : HeaderIsReadAgain) (messages : MessagesAreReadAgain) where
  length_is : (h : Held) → length (packet_of h) ≡ packet_length h.records
  length_is h = size h.channel h.place h.before h.records

  header_is : (h : Held) → IsGood h → is_piece h.channel.limit h.records ≡ true → header_in (packet_of h) ≡ Ok (header_of_held h)
  header_is h good piece =
      ap header_in (sym (append-nil (packet_of h))) ∙ header h.channel h.place h.before h.records [] good.channel good.records piece

  messages_are : (h : Held) → IsGood h → is_piece h.channel.limit h.records ≡ true
      → messages_in (take (4 + size_of h.records) (drop 24 (packet_of h))) ≡ Ok (map as_message (messages_of h.records))
  messages_are h good piece =
      ap (λ (bytes : List ℕ). messages_in (take (4 + size_of h.records) (drop 24 bytes))) (sym (append-nil (packet_of h)))
      ∙ messages h.channel h.place h.before h.records [] good.channel good.records piece

  body_is : (h : Held) → body_of (header_of_held h) (packet_of h) ≡ take (4 + size_of h.records) (drop 24 (packet_of h))
  body_is h = rw (plain_flags (has_gap h.before h.records)) refl

  read_is : (h : Held) → IsGood h → is_piece h.channel.limit h.records ≡ true
      → messages_in (body_of (header_of_held h) (packet_of h)) ≡ Ok (map as_message (messages_of h.records))
  read_is h good piece = ap messages_in (body_is h) ∙ messages_are h good piece

  packet_is : (h : Held) → IsGood h → is_piece h.channel.limit h.records ≡ true → packet_at (packet_of h) ≡ Ok (header_of_held h)
  unfolding packet_at
  packet_is h good piece =
      let whole = le-ltb (length (packet_of h)) (packet_length h.records) (omega (arith, length_is h)) in
      rw (header_is h good piece, whole, read_is h good piece) refl

  found_in : (h : Held) → IsGood h → is_piece h.channel.limit h.records ≡ true
      → reader.packet_messages (header_of_held h) (packet_of h) ≡ map as_message (messages_of h.records)
  found_in h good piece = rw (read_is h good piece) refl

  one_packet : (bytes : List ℕ) (g : Header) → 0 < length bytes → length bytes ≡ g.packet_length → packet_at bytes ≡ Ok g
      → packets_in bytes ≡ Ok (record { offset = 0; header = g; messages = reader.packet_messages g bytes } ∷ [])
  unfolding packets_from
  one_packet [] g some whole at = absurd (omega (arith, some))
  one_packet (b ∷ bs) g some whole at = rw (at, drop_all g.packet_length (b ∷ bs) (omega (arith, whole))) (rw (nothing (length bs) (0 + g.packet_length)) refl)

  pub closed_is_read : (h : Held) → IsGood h → is_piece h.channel.limit h.records ≡ true → packets_in (packet_of h) ≡ Ok (found h ∷ [])
  closed_is_read h good piece =
      one_packet (packet_of h) (header_of_held h) (omega (arith, length_is h)) (length_is h) (packet_is h good piece)
      ∙ ap (λ (ms : List Message). Ok (record { offset = 0; header = header_of_held h; messages = ms } ∷ [])) (found_in h good piece)
