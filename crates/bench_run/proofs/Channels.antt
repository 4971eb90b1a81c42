-- Entries of several jobs as items of their channels.
use Rattle.std.proofs.Common.{◌≡◌, ◌≢◌, ℕ, zero, suc, ◌<◌, Bool, true, false, eqb, eq-eqb, ne_eqb, List, [], ◌∷◌, length, map, slice_index, ⊎_elim, refl, sym, ap, ◌∙◌, arith}
use Rattle.std.specs.List.{AllByRecursion}
use Rattle.std.proofs.lemmas.Bool.Decides.{eqb_tells}
use Rattle.mil_trunk.specs.Views.{with_tag}
use Rattle.ch11_builder.specs.Packet.{Numbered}
use Rattle.ch11_recording.specs.declared.item.Item.{Item}
use Rattle.ch11_recording.specs.Items.{channel_of, record_in, records_in, part_of, to_the_end}
use Rattle.ch11_recording.specs.Recording.{AreDistinct}
use Rattle.bench_run.specs.declared.entry.Entry.{Entry}
use Rattle.bench_run.specs.declared.entry.Entry.TheVariants as entry
use Rattle.bench_run.specs.Entries.{index_of, item_of, entry_of, entries_to_the_end}
use Rattle.bench_run.specs.Writer.{item_with, record_of, records_at}

-- ---- channels that are all distinct

one_of_all : (P : ℕ → Type 0) (channels : List ℕ) (i : ℕ) → AllByRecursion P channels → i < length channels → P (slice_index channels i)
one_of_all P [] i all lt = absurd (omega (arith, lt))
one_of_all P (c ∷ channels) zero all lt = all.0
one_of_all P (c ∷ channels) (suc i) all lt = one_of_all P channels i all.1 (omega (arith, lt))

same_index : (channels : List ℕ) (i j : ℕ) → AreDistinct channels → i < length channels → j < length channels → slice_index channels i ≡ slice_index channels j → i ≡ j
same_index [] i j distinct low low' e = absurd (omega (arith, low))
same_index (c ∷ channels) zero zero distinct low low' e = refl
same_index (c ∷ channels) zero (suc j) distinct low low' e = absurd (one_of_all (λ other. other ≢ c) channels j distinct.0 (omega (arith, low')) (sym e))
same_index (c ∷ channels) (suc i) zero distinct low low' e = absurd (one_of_all (λ other. other ≢ c) channels i distinct.0 (omega (arith, low)) e)
same_index (c ∷ channels) (suc i) (suc j) distinct low low' e = ap suc (same_index channels i j distinct.1 (omega (arith, low)) (omega (arith, low')) e)

same_test : (channels : List ℕ) (i j : ℕ) → AreDistinct channels → i < length channels → j < length channels → eqb (slice_index channels i) (slice_index channels j) ≡ eqb i j
same_test channels i j distinct low low' =
    ⊎_elim (λ h. eq-eqb (slice_index channels i) (slice_index channels j) (ap (slice_index channels) h.1) ∙ sym h.0)
    (λ h. ne_eqb (slice_index channels i) (slice_index channels j) (λ e. h.1 (same_index channels i j distinct low low' e)) ∙ sym h.0)
    (eqb_tells i j)

-- ---- an entry as an item

channel_is : (channels : List ℕ) (x : Entry) → channel_of (item_of channels x) ≡ slice_index channels (index_of x)
channel_is channels (entry.Message index number message) = refl
channel_is channels (entry.End index) = refl

record_is : (channels : List ℕ) (x : Entry) → record_in (item_of channels x) ≡ record_of x
record_is channels (entry.Message index number message) = refl
record_is channels (entry.End index) = refl

pub item_is : (channels : List ℕ) (x : Entry) → item_of channels x ≡ item_with x (slice_index channels (index_of x))
item_is channels (entry.Message index number message) = refl
item_is channels (entry.End index) = refl

-- the item is of the channel of an index where its entry is of the index
own_test : (channels : List ℕ) (t : ℕ) (x : Entry) → AreDistinct channels → t < length channels → index_of x < length channels
    → eqb (channel_of (item_of channels x)) (slice_index channels t) ≡ eqb (index_of x) t
own_test channels t x distinct low own = ap (λ c. eqb c (slice_index channels t)) (channel_is channels x) ∙ same_test channels (index_of x) t distinct own low

-- the records of the channel of an index are those of the index
pub records_are : (channels : List ℕ) (t : ℕ) (got : List Entry) → AreDistinct channels → t < length channels → AllByRecursion (λ x. index_of x < length channels) got
    → records_in (slice_index channels t) (map (item_of channels) got) ≡ records_at t got
records_are channels t [] distinct low all = refl
records_are channels t (x ∷ got) distinct low all = rw (own_test channels t x distinct low all.0, record_is channels x, records_are channels t got distinct low all.1) refl

part_more : (channels : List ℕ) (t : ℕ) (x : Entry) (got : List Entry) (b : Bool) → eqb (index_of x) t ≡ b → eqb (channel_of (item_of channels x)) (slice_index channels t) ≡ eqb (index_of x) t
    → part_of (slice_index channels t) (map (item_of channels) got) ≡ map (item_of channels) (with_tag index_of t got)
    → part_of (slice_index channels t) (map (item_of channels) (x ∷ got)) ≡ map (item_of channels) (with_tag index_of t (x ∷ got))
part_more channels t x got true e own rest = rw (own, e) (ap (λ (items : List Item). item_of channels x ∷ items) rest)
part_more channels t x got false e own rest = rw (own, e) rest

-- the items of the channel of an index are those of the entries of the index
pub part_is : (channels : List ℕ) (t : ℕ) (got : List Entry) → AreDistinct channels → t < length channels → AllByRecursion (λ x. index_of x < length channels) got
    → part_of (slice_index channels t) (map (item_of channels) got) ≡ map (item_of channels) (with_tag index_of t got)
part_is channels t [] distinct low all = refl
part_is channels t (x ∷ got) distinct low all = part_more channels t x got (eqb (index_of x) t) refl (own_test channels t x distinct low all.0) (part_is channels t got distinct low all.1)

pub ended_is : (channels : List ℕ) (t : ℕ) (ns : List Numbered) → map (item_of channels) (entries_to_the_end t ns) ≡ to_the_end (slice_index channels t) ns
ended_is channels t [] = refl
ended_is channels t (n ∷ ns) = ap (λ (items : List Item). item_of channels (entry_of t n) ∷ items) (ended_is channels t ns)

-- ---- a channel that no job has

other_test : (channels : List ℕ) (channel : ℕ) (x : Entry) → AllByRecursion (λ c. c ≢ channel) channels → index_of x < length channels
    → eqb (channel_of (item_of channels x)) channel ≡ false
other_test channels channel x other low =
    ap (λ c. eqb c channel) (channel_is channels x)
    ∙ ne_eqb (slice_index channels (index_of x)) channel (one_of_all (λ c. c ≢ channel) channels (index_of x) other low)

pub no_part : (channels : List ℕ) (channel : ℕ) (got : List Entry) → AllByRecursion (λ c. c ≢ channel) channels → AllByRecursion (λ x. index_of x < length channels) got
    → part_of channel (map (item_of channels) got) ≡ []
no_part channels channel [] other all = refl
no_part channels channel (x ∷ got) other all = rw (other_test channels channel x other all.0) (no_part channels channel got other all.1)

pub no_records : (channels : List ℕ) (channel : ℕ) (got : List Entry) → AllByRecursion (λ c. c ≢ channel) channels → AllByRecursion (λ x. index_of x < length channels) got
    → records_in channel (map (item_of channels) got) ≡ []
no_records channels channel [] other all = refl
no_records channels channel (x ∷ got) other all = rw (other_test channels channel x other all.0) (no_records channels channel got other all.1)
