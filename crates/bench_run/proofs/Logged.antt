-- What a recorder has of the entries that it was given, one more at a time.
use Rattle.std.proofs.Common.{◌≡◌, ℕ, zero, suc, ◌+◌, ◌*◌, ◌<◌, ◌≤◌, Bool, true, false, true≢false, not, ◌||◌, cond, List, [], ◌∷◌, ◌++◌, length, map, slice_get, slice_index, Option, Some, refl, sym, ap, ◌∙◌, subst, arith, append_assoc, length-append}
use Rattle.std.specs.List.{AllByRecursion}
use Rattle.std.proofs.lemmas.List.{map-append}
use Rattle.std.proofs.lemmas.Option.{slice_get-get_or}
use Rattle.ch11_builder.specs.Held.{Held, latest_number}
use Rattle.ch11_recording.specs.declared.item.Item.{Item}
use Rattle.ch11_recording.specs.Items.{last_number}
use Rattle.ch11_recording.specs.Laws.{LatestIsLast}
use Rattle.ch11_recording.specs.WrittenFile.{Format, held_in}
use Rattle.ch11_recording.specs.Recording.{Recording, AreDistinct, GoesOn}
use Rattle.bench_run.specs.declared.entry.Entry.{Entry}
use Rattle.bench_run.specs.declared.entry.Entry.TheVariants as entry
use Rattle.bench_run.specs.Entries.{index_of, item_of}
use Rattle.bench_run.specs.Writer.{item_with, records_at, FitsRecording, IsLogged, IsTakenBy}
use Rattle.bench_run.proofs.Channels.{item_is, records_are}

held_at : (g : ℕ → Held) (channels : List ℕ) (i : ℕ) → i < length channels → slice_get (map g channels) i ≡ Some (g (slice_index channels i))
held_at g [] i low = absurd (omega (arith, low))
held_at g (c ∷ channels) zero low = refl
held_at g (c ∷ channels) (suc i) low = held_at g channels i (omega (arith, low))

pub has_place : (held : List Held) (i : ℕ) (h : Held) → slice_get held i ≡ Some h → i < length held
has_place [] i h at = absurd cc
has_place (k ∷ held) zero h at = omega arith
has_place (k ∷ held) (suc i) h at = let low = has_place held i h at in omega (arith, low)

channel_at : (channels : List ℕ) (i : ℕ) → i < length channels → slice_get channels i ≡ Some (slice_index channels i)
channel_at channels i low = slice_get-get_or channels i 0 low

all_more : (P : Entry → Type 0) (got : List Entry) (x : Entry) → AllByRecursion P got → P x → AllByRecursion P (got ++ x ∷ [])
all_more P [] x all last = (last, tt)
all_more P (y ∷ got) x all last = (all.0, all_more P got x all.1 last)

module _ {S : Type 0} (taken : S → Option (List ℕ)) (failures : S → ℕ) (f : Format) (prologue : List ℕ) (before : S) (channels : List ℕ) where
  -- what the builder of a channel holds, once all of these were recorded
  abbrev pub holding : ℕ → List Entry → Held
  holding t got = held_in f (slice_index channels t) (map (item_of channels) got)

  held_is : (got : List Entry) (r : Recording S) (t : ℕ) → IsLogged taken failures f prologue before channels got r true → t < length channels → slice_get r.held t ≡ Some (holding t got)
  held_is got r t is low =
      ap (λ (held : List Held). slice_get held t) is.recording.held
      ∙ held_at (λ channel. held_in f channel is.items) channels t low
      ∙ ap (λ (items : List Item). Some (held_in f (slice_index channels t) items)) (is.all refl)

  -- an entry that fits is taken
  pub fitting : LatestIsLast → AreDistinct channels → (got : List Entry) (r : Recording S) (x : Entry) → IsLogged taken failures f prologue before channels got r true → FitsRecording channels got x
      → IsTakenBy r.held x (holding (index_of x) got)
  fitting latest distinct got r (entry.End index) is fits = held_is got r index is fits
  fitting latest distinct got r (entry.Message index number message) is fits =
      let last : latest_number (holding index got) ≡ last_number (records_at index got) =
      latest f (slice_index channels index) (map (item_of channels) got) ∙ ap last_number (records_are channels index got distinct fits.index_low (is.indices refl)) in
      record {
        there = held_is got r index is fits.index_low;
        next = record { above = subst (λ n. n < number) (sym last) fits.next.above; stamp = fits.next.stamp };
      }

  more_few : (got : List Entry) (x : Entry) (a b : ℕ) → a ≤ length prologue + 524288 * length got → b ≤ a + 524288 → b ≤ length prologue + 524288 * length (got ++ x ∷ [])
  more_few got x a b few more = omega (arith, few, more, length-append got (x ∷ []))

  -- after one that was not kept nothing changes
  pub still : (got : List Entry) (r : Recording S) (x : Entry) → IsLogged taken failures f prologue before channels got r false → IsLogged taken failures f prologue before channels (got ++ x ∷ []) r false
  still got r x is = record {
    items = is.items;
    recording = is.recording;
    all = λ whole. absurd (true≢false (sym whole));
    indices = λ whole. absurd (true≢false (sym whole));
    unfit = λ cut.
        let u = is.unfit cut in
        record {
          earlier = u.earlier;
          later = u.later ++ x ∷ [];
          here = u.here;
          split = ap (λ (l : List Entry). l ++ x ∷ []) u.split ∙ append_assoc u.earlier (u.here ∷ u.later) (x ∷ []);
          unfit = u.unfit;
        };
    rose = is.rose;
    not_fewer = is.not_fewer;
    unfinished = is.unfinished;
    few = more_few got x r.writing.taken r.writing.taken is.few (omega arith);
  }

  -- one that is not kept
  pub not_kept : (got : List Entry) (r s : Recording S) (x : Entry) → s ≡ r → IsLogged taken failures f prologue before channels got r true → ¬ FitsRecording channels got x
      → IsLogged taken failures f prologue before channels (got ++ x ∷ []) s false
  not_kept got r s x same is unfit = subst (λ (q : Recording S). IsLogged taken failures f prologue before channels (got ++ x ∷ []) q false) (sym same) (record {
    items = is.items;
    recording = is.recording;
    all = λ whole. absurd (true≢false (sym whole));
    indices = λ whole. absurd (true≢false (sym whole));
    unfit = λ cut. record { earlier = got; later = []; here = x; split = refl; unfit = unfit };
    rose = is.rose;
    not_fewer = is.not_fewer;
    unfinished = is.unfinished;
    few = more_few got x r.writing.taken r.writing.taken is.few (omega arith);
  })

  -- one that has no job
  pub has_index : (got : List Entry) (x : Entry) → FitsRecording channels got x → index_of x < length channels
  has_index got (entry.Message index number message) fits = fits.index_low
  has_index got (entry.End index) fits = fits

  rises : (old new : Bool) (a b : ℕ) → b ≡ cond (old || not new) a (a + 1) → (old ≡ true → failures before < a) → failures before ≤ a
      → (new ≡ true → failures before < b) × (failures before ≤ b)
  rises true new a b e up le = ((λ failed. omega (arith, e, up refl)), omega (arith, e, le))
  rises false true a b e up le = ((λ failed. omega (arith, e, le)), omega (arith, e, le))
  rises false false a b e up le = ((λ failed. absurd (true≢false (sym failed))), omega (arith, e, le))

  -- one that is kept
  pub kept : AreDistinct channels → (got : List Entry) (r s : Recording S) (x : Entry) → IsLogged taken failures f prologue before channels got r true → index_of x < length channels
      → GoesOn taken (index_of x) (item_with x) r s → s.writing.finished ≡ false → s.writing.taken ≤ r.writing.taken + 524288
      → failures s.writing.sink ≡ cond (r.writing.failed || not s.writing.failed) (failures r.writing.sink) (failures r.writing.sink + 1)
      → IsLogged taken failures f prologue before channels (got ++ x ∷ []) s true
  kept distinct got r s x is low goes unfinished few failed =
      let up = rises r.writing.failed s.writing.failed (failures r.writing.sink) (failures s.writing.sink) failed is.rose is.not_fewer in
      record {
        items = is.items ++ item_with x (slice_index channels (index_of x)) ∷ [];
        recording = goes f prologue (taken before) channels (slice_index channels (index_of x)) is.items distinct (channel_at channels (index_of x) low) is.recording;
        all = λ whole.
            ap (λ (items : List Item). items ++ item_with x (slice_index channels (index_of x)) ∷ []) (is.all refl)
            ∙ ap (λ (i : Item). map (item_of channels) got ++ i ∷ []) (sym (item_is channels x))
            ∙ sym (map-append (item_of channels) got (x ∷ []));
        indices = λ whole. all_more (λ y. index_of y < length channels) got x (is.indices refl) low;
        unfit = λ cut. absurd (true≢false cut);
        rose = up.0;
        not_fewer = up.1;
        unfinished = unfinished;
        few = more_few got x r.writing.taken s.writing.taken is.few few;
      }

  -- one that the recorder was given
  pub one_more : LatestIsLast → AreDistinct channels → (got : List Entry) (r s : Recording S) (x : Entry) (whole result : Bool) → whole ≡ true
      → (result ≡ true → GoesOn taken (index_of x) (item_with x) r s) → (result ≡ true → index_of x < length channels) → (result ≡ false → s ≡ r)
      → ((h : Held) → index_of x < length channels → IsTakenBy r.held x h → result ≡ true)
      → s.writing.finished ≡ false → s.writing.taken ≤ r.writing.taken + 524288
      → failures s.writing.sink ≡ cond (r.writing.failed || not s.writing.failed) (failures r.writing.sink) (failures r.writing.sink + 1)
      → IsLogged taken failures f prologue before channels got r whole → IsLogged taken failures f prologue before channels (got ++ x ∷ []) s result
  one_more latest distinct got r s x true true old goes low same when unfinished few failed is = kept distinct got r s x is (low refl) (goes refl) unfinished few failed
  one_more latest distinct got r s x true false old goes low same when unfinished few failed is =
      not_kept got r s x (same refl) is (λ fits. absurd (true≢false (sym (when (holding (index_of x) got) (has_index got x fits) (fitting latest distinct got r x is fits)))))
  one_more latest distinct got r s x false result old goes low same when unfinished few failed is = absurd (true≢false (sym old))

  -- one that it was not given
  pub none_more : (got : List Entry) (r : Recording S) (x : Entry) (whole : Bool) → whole ≡ false
      → IsLogged taken failures f prologue before channels got r whole → IsLogged taken failures f prologue before channels (got ++ x ∷ []) r whole
  none_more got r x true old is = absurd (true≢false old)
  none_more got r x false old is = still got r x is
