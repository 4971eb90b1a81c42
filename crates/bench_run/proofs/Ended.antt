-- Where each job sent its records in rising order and then its end mark, all that was received could be recorded.
use Rattle.std.proofs.Common.{◌≡◌, ℕ, suc, ◌^◌, ◌<◌, ◌≤◌, Bool, true, false, eqb, eq-eqb, eqb-true, List, [], ◌∷◌, ◌++◌, length, map, slice_index, ⊎_elim, refl, sym, ap, ◌∙◌, subst, arith}
use Rattle.std.specs.Prelude.{◌==◌}
use Rattle.std.specs.List.{AllByRecursion, filter}
use Rattle.std.proofs.lemmas.List.Elements.{filter-append}
use Rattle.std.proofs.lemmas.Bool.{cases_lt}
use Rattle.ch11_f1.specs.declared.Record.{Record}
use Rattle.mil_trunk.specs.Views.{with_tag}
use Rattle.ch11_builder.specs.Packet.{Numbered, last_number}
use Rattle.ch11_recording.specs.Items.{numbered_from, part_of, to_the_end}
use Rattle.ch11_recording.specs.Recording.{AreDistinct}
use Rattle.bench_run.specs.declared.entry.Entry.{Entry}
use Rattle.bench_run.specs.declared.entry.Entry.TheVariants as entry
use Rattle.bench_run.specs.Entries.{index_of, item_of, entry_of, entries_to_the_end}
use Rattle.bench_run.specs.Writer.{record_of, records_at, IsNextNumber, FitsRecording, IsUnfit, AreOrdered}
use Rattle.bench_run.proofs.Channels.{part_is, ended_is}
use Rattle.bench_run.proofs.Tagged.{all_by_index}

records_more : (t : ℕ) (x : Entry) (got : List Entry) (b : Bool) → eqb (index_of x) t ≡ b → records_at t got ≡ records_at t (with_tag index_of t got)
    → records_at t (x ∷ got) ≡ records_at t (with_tag index_of t (x ∷ got))
records_more t x got true e rest = rw (e, e) (ap (λ (ns : List Numbered). record_of x ++ ns) rest)
records_more t x got false e rest = rw e rest

-- the records of an index are those of its entries
records_at_tag : (t : ℕ) (got : List Entry) → records_at t got ≡ records_at t (with_tag index_of t got)
records_at_tag t [] = refl
records_at_tag t (x ∷ got) = records_more t x got (eqb (index_of x) t) refl (records_at_tag t got)

record_first : (t : ℕ) (n : Numbered) (es : List Entry) → records_at t (entry_of t n ∷ es) ≡ n ∷ records_at t es
record_first t n es = rw (eq-eqb t t refl) refl

not_none : (es rest : List Entry) (x : Entry) → [] ≡ es ++ x ∷ rest → ⊥
not_none [] rest x e = absurd cc
not_none (y ∷ es) rest x e = absurd cc

-- a message among a job's entries comes behind lower numbers, and its stamp fits
in_order : (t low : ℕ) (ns : List Numbered) (es rest : List Entry) (number : ℕ) (message : Record) → AreOrdered low ns
    → entries_to_the_end t ns ≡ es ++ entry.Message t number message ∷ rest → IsNextNumber (last_number low (records_at t es)) number message
in_order t low [] [] rest number message ordered e = absurd cc
in_order t low [] (y ∷ es) rest number message ordered e = let none : [] ≡ es ++ entry.Message t number message ∷ rest = cc in absurd (not_none es rest (entry.Message t number message) none)
in_order t low (n ∷ ns) [] rest number message ordered e =
    let is_number : n.number ≡ number = cc in
    let is_message : n.message ≡ message = cc in
    record { above = subst (λ k. low < k) is_number ordered.0.above; stamp = subst (λ (m : Record). m.stamp < 2 ^ 48) is_message ordered.0.stamp }
in_order t low (n ∷ ns) (y ∷ es) rest number message ordered e =
    let first : entry_of t n ≡ y = cc in
    let later : entries_to_the_end t ns ≡ es ++ entry.Message t number message ∷ rest = cc in
    let more = in_order t n.number ns es rest number message ordered.1 later in
    record {
      above = subst (λ (z : Entry). last_number low (records_at t (z ∷ es)) < number) first (subst (λ (ms : List Numbered). last_number low ms < number) (sym (record_first t n es)) more.above);
      stamp = more.stamp;
    }

-- an entry is one of its index
tag_first : (x : Entry) (later : List Entry) → with_tag index_of (index_of x) (x ∷ later) ≡ x ∷ with_tag index_of (index_of x) later
tag_first x later = rw (eq-eqb (index_of x) (index_of x) refl) refl

tag_split : (got earlier later : List Entry) (x : Entry) → got ≡ earlier ++ x ∷ later
    → with_tag index_of (index_of x) got ≡ with_tag index_of (index_of x) earlier ++ x ∷ with_tag index_of (index_of x) later
tag_split got earlier later x e =
    ap (with_tag index_of (index_of x)) e
    ∙ filter-append (λ (y : Entry). index_of y == index_of x) earlier (x ∷ later)
    ∙ ap (λ (l : List Entry). with_tag index_of (index_of x) earlier ++ l) (tag_first x later)

low_more : (channels : List ℕ) (t : ℕ) (x : Entry) (es : List Entry) (b : Bool) → eqb (index_of x) t ≡ b → t < length channels
    → AllByRecursion (λ y. index_of y < length channels) (with_tag index_of t es) → AllByRecursion (λ y. index_of y < length channels) (with_tag index_of t (x ∷ es))
low_more channels t x es true is low rest = rw is (subst (λ k. k < length channels) (sym (eqb-true (index_of x) t is)) low, rest)
low_more channels t x es false is low rest = rw is rest

low_in : (channels : List ℕ) (t : ℕ) → t < length channels → (es : List Entry) → AllByRecursion (λ y. index_of y < length channels) (with_tag index_of t es)
low_in channels t low [] = tt
low_in channels t low (x ∷ es) = low_more channels t x es (eqb (index_of x) t) refl low (low_in channels t low es)

-- ---- records with their numbers, but for some

ordered_above : (low lower : ℕ) (ns : List Numbered) → lower ≤ low → AreOrdered low ns → AreOrdered lower ns
ordered_above low lower [] le ordered = tt
ordered_above low lower (n ∷ ns) le ordered = let first = ordered.0.above in (record { above = omega (arith, le, first); stamp = ordered.0.stamp }, ordered.1)

filter_more : (p : Numbered → Bool) (low : ℕ) (n : Numbered) (ns : List Numbered) (b : Bool) → p n ≡ b → AreOrdered low (n ∷ ns) → AreOrdered n.number (filter p ns) → AreOrdered low (filter p (n ∷ ns))
filter_more p low n ns true is ordered rest = rw is (ordered.0, rest)
filter_more p low n ns false is ordered rest = let first = ordered.0.above in rw is (ordered_above n.number low (filter p ns) (omega (arith, first)) rest)

ordered_filter : (p : Numbered → Bool) (low : ℕ) (ns : List Numbered) → AreOrdered low ns → AreOrdered low (filter p ns)
ordered_filter p low [] ordered = tt
ordered_filter p low (n ∷ ns) ordered = filter_more p low n ns (p n) refl ordered (ordered_filter p n.number ns ordered.1)

ordered_from : (number low : ℕ) (rs : List Record) → low < number → AllByRecursion (λ r. r.stamp < 2 ^ 48) rs → AreOrdered low (numbered_from number rs)
ordered_from number low [] above small = tt
ordered_from number low (r ∷ rs) above small = (record { above = above; stamp = small.0 }, ordered_from (suc number) number rs (omega arith) small.1)

-- some of the records, numbered from 1
pub some_ordered : (p : Numbered → Bool) (rs : List Record) → AllByRecursion (λ r. r.stamp < 2 ^ 48) rs → AreOrdered 0 (filter p (numbered_from 1 rs))
some_ordered p rs small = ordered_filter p 0 (numbered_from 1 rs) (ordered_from 1 0 rs (omega arith) small)

-- ---- all that was received

module _ (channels : List ℕ) (got : List Entry) (sent : ℕ → List Numbered) where
  -- each job's entries are its records and then its end mark, and there are no others
  abbrev pub AreEnded : Type 0
  AreEnded = ((t : ℕ) → t < length channels → with_tag index_of t got ≡ entries_to_the_end t (sent t)) × ((t : ℕ) → length channels ≤ t → with_tag index_of t got ≡ [])

  low_index : AreEnded → (earlier later : List Entry) (x : Entry) → got ≡ earlier ++ x ∷ later → index_of x < length channels
  low_index ended earlier later x e =
      ⊎_elim (λ low. low) (λ high. absurd (not_none (with_tag index_of (index_of x) earlier) (with_tag index_of (index_of x) later) x (sym (ended.1 (index_of x) high) ∙ tag_split got earlier later x e)))
      (cases_lt (index_of x) (length channels))

  fits_there : AreEnded → ((t : ℕ) → t < length channels → AreOrdered 0 (sent t)) → (earlier later : List Entry) (x : Entry) → got ≡ earlier ++ x ∷ later → FitsRecording channels earlier x
  fits_there ended ordered earlier later (entry.End index) e = low_index ended earlier later (entry.End index) e
  fits_there ended ordered earlier later (entry.Message index number message) e =
      let x : Entry = entry.Message index number message in
      let low : index < length channels = low_index ended earlier later x e in
      let own = in_order index 0 (sent index) (with_tag index_of index earlier) (with_tag index_of index later) number message (ordered index low) (sym (ended.0 index low) ∙ tag_split got earlier later x e) in
      record { index_low = low; next = record { above = subst (λ (ns : List Numbered). last_number 0 ns < number) (sym (records_at_tag index earlier)) own.above; stamp = own.stamp } }

  -- all could be recorded
  pub all_fit : AreEnded → ((t : ℕ) → t < length channels → AreOrdered 0 (sent t)) → ¬ IsUnfit channels got
  all_fit ended ordered u = u.unfit (fits_there ended ordered u.earlier u.later u.here u.split)

  all_low : AreEnded → AllByRecursion (λ x. index_of x < length channels) got
  all_low ended = all_by_index (λ x. index_of x < length channels) got each
    where
      each : (t : ℕ) → AllByRecursion (λ x. index_of x < length channels) (with_tag index_of t got)
      each t = ⊎_elim (λ low. low_in channels t low got) (λ high. subst (AllByRecursion (λ x. index_of x < length channels)) (sym (ended.1 t high)) tt) (cases_lt t (length channels))

  -- of each channel the recording has the job's records and then its end mark
  pub parts_are : AreEnded → AreDistinct channels → (t : ℕ) → t < length channels → part_of (slice_index channels t) (map (item_of channels) got) ≡ to_the_end (slice_index channels t) (sent t)
  parts_are ended distinct t low =
      part_is channels t got distinct low (all_low ended) ∙ ap (map (item_of channels)) (ended.0 t low) ∙ ended_is channels t (sent t)
