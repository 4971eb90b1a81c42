-- Each packet of messages in a written file is of the channel of an item.
use Rattle.std.proofs.Common.{◌≡◌, ℕ, Bool, true, false, true≢false, List, [], ◌∷◌, ◌++◌, length, Ok, refl, sym, ap, ◌∙◌, subst, append_assoc}
use Rattle.std.specs.List.{AllByRecursion}
use Rattle.std.proofs.lemmas.List.{append-nil}
use Rattle.ch11_builder.specs.Held.{Held, packet_of}
use Rattle.ch11_builder.specs.Laws.{PacketHasItsLength, HeaderIsReadAgain, MessagesAreReadAgain}
use Rattle.ch11_reader.specs.Recording.{Found, holds_messages, packets_in}
use Rattle.ch11_reader.specs.Joined.{later, RecordingsJoin}
use Rattle.ch11_recording.specs.declared.item.Item.{Item}
use Rattle.ch11_recording.specs.Items.{channel_of}
use Rattle.ch11_recording.specs.WrittenFile.{Format, closes, held_in, closing, written_file}
use Rattle.ch11_recording.specs.Laws.{IsFormat, IsPrologue, IsItem, FileGoesOn}
use Rattle.bench_headline.proofs.Held.{own}
use Rattle.bench_headline.proofs.Packets.{IsGood, held_is_good, closing_is_piece, found, closed_is_read}

closing_none : (h : Held) (x : Item) → closes h x ≡ false → closing h x ≡ []
closing_none h x is = rw is refl

closing_one : (h : Held) (x : Item) → closes h x ≡ true → closing h x ≡ packet_of h
closing_one h x is = rw is refl

file_is_prologue : (f : Format) (prologue : List ℕ) → written_file f prologue [] ≡ prologue
unfolding written_file
file_is_prologue f prologue = append-nil prologue

-- what holds of all elements of a list and of one more
more : {X : Type 0} (P : X → Type 0) (xs : List X) (x : X) → AllByRecursion P xs → P x → AllByRecursion P (xs ++ x ∷ [])
more P [] x all last = (last, tt)
more P (y ∷ xs) x all last = (all.0, more P xs x all.1 last)

module _ (Known : ℕ → Type 0) where
  -- the packet, if it is one of messages, is of a known channel
  abbrev pub IsKnown : Found → Type 0
  IsKnown p = holds_messages p.header ≡ true → Known p.header.channel

  -- the item is of a known channel and fits a packet
  abbrev pub IsFine : Item → Type 0
  IsFine x = Known (channel_of x) × IsItem x

  items_in : (items : List Item) → AllByRecursion IsFine items → AllByRecursion IsItem items
  items_in [] all = tt
  items_in (x ∷ items) all = (all.0.1, items_in items all.1)

  none_known : (ps : List Found) → AllByRecursion (λ (p : Found). holds_messages p.header ≡ false) ps → AllByRecursion IsKnown ps
  none_known [] all = tt
  none_known (p ∷ ps) all = (λ holds. absurd (true≢false (sym holds ∙ all.0)), none_known ps all.1)

  module _ (size : PacketHasItsLength) (header : HeaderIsReadAgain) (messages : MessagesAreReadAgain) (join : RecordingsJoin) (goes_on : FileGoesOn)
      (f : Format) (good : IsFormat f) (prologue : List ℕ) where
    -- the file of the items can be read, and its packets of messages are of known channels
    abbrev AreKnown : List Item → Type 0
    AreKnown items = (ps : List Found) × (packets_in (written_file f prologue items) ≡ Ok ps) × AllByRecursion IsKnown ps

    known_none : (items : List Item) (x : Item) → closes (held_in f (channel_of x) items) x ≡ false → AreKnown items → AreKnown (items ++ x ∷ [])
    known_none items x is known = (
      known.0,
      ap packets_in (goes_on f prologue items x ∙ ap (λ (bytes : List ℕ). written_file f prologue items ++ bytes) (closing_none (held_in f (channel_of x) items) x is) ∙ append-nil (written_file f prologue items))
          ∙ known.1,
      known.2,
    )

    known_one : (items : List Item) (x : Item) → closes (held_in f (channel_of x) items) x ≡ true → AllByRecursion IsFine items → IsFine x
        → AreKnown items → AreKnown (items ++ x ∷ [])
    known_one items x is all last known =
        let h : Held = held_in f (channel_of x) items in
        let fine : IsGood h = held_is_good f (channel_of x) items good last.1.0 (items_in items all) in
        let by : ℕ = length (written_file f prologue items) in (
          known.0 ++ later by (found h) ∷ [],
          ap packets_in (goes_on f prologue items x ∙ ap (λ (bytes : List ℕ). written_file f prologue items ++ bytes) (closing_one h x is))
              ∙ join (written_file f prologue items) (packet_of h) known.0 (found h ∷ []) known.1 (closed_is_read size header messages h fine (closing_is_piece h x fine is)),
          more IsKnown known.0 (later by (found h)) known.2 (λ holds. subst Known (sym (own f (channel_of x) items)) last.0),
        )

    known_more : (items : List Item) (x : Item) (b : Bool) → closes (held_in f (channel_of x) items) x ≡ b → AllByRecursion IsFine items → IsFine x
        → AreKnown items → AreKnown (items ++ x ∷ [])
    known_more items x true is all last known = known_one items x is all last known
    known_more items x false is all last known = known_none items x is known

    known_all : (earlier items : List Item) → AllByRecursion IsFine earlier → AllByRecursion IsFine items → AreKnown earlier → AreKnown (earlier ++ items)
    known_all earlier [] before all known = rw (append-nil earlier) known
    known_all earlier (x ∷ items) before all known =
        rw (← append_assoc earlier (x ∷ []) items)
        (known_all (earlier ++ x ∷ []) items (more IsFine earlier x before all.0) all.1
        (known_more earlier x (closes (held_in f (channel_of x) earlier) x) refl before all.0 known))

    pub file_is_known : (items : List Item) → IsPrologue prologue → AllByRecursion IsFine items
        → (ps : List Found) × (packets_in (written_file f prologue items) ≡ Ok ps) × AllByRecursion IsKnown ps
    file_is_known items is all = known_all [] items tt all (is.0, ap packets_in (file_is_prologue f prologue) ∙ is.1, none_known is.0 is.2)
