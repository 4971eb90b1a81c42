-- A channel's recording, record by record.
use Rattle.std.proofs.Common.{◌≡◌, ℕ, suc, ◌+◌, ◌*◌, ◌≤◌, ◌<◌, ◌^◌, List, [], ◌∷◌, ◌++◌, length, take, map, refl, sym, ap, ◌∙◌, subst, arith}
use Rattle.std.specs.Prelude.{Bool, true, false, not, ◌||◌, cond, Some, Ok, slice_get}
use Rattle.std.specs.declared.option.Option.{Option}
use Rattle.std.specs.List.{AllByRecursion}
use Rattle.std.specs.Io.KnownBytes.{Appends}
use Rattle.std.proofs.lemmas.List.{length-append, take_all}
use Rattle.ch11_f1.specs.declared.Record.{Record}
use Rattle.bc_machine.specs.declared.placed.Placed.{Placed}
use Rattle.job_file.specs.Spelled.{ChannelJob}
use Rattle.job_file.specs.Meaning.{records}
use Rattle.ch11_writer.specs.Writing.{Writing, IsWritten, progress_of}
use Rattle.ch11_builder.specs.Packet.{Numbered, messages_of}
use Rattle.ch11_builder.specs.Held.{Held, latest_number}
use Rattle.ch11_builder.specs.Laws.{PushedIsLatest}
use Rattle.ch11_builder.specs.Recorded.{IsRecorded}
use Rattle.ch11_f1.specs.Again.{as_message}
use Rattle.ch11_reader.specs.Recording.{packets_in, packets_from}
use Rattle.ch11_recording.specs.declared.item.Item.{Item}
use Rattle.ch11_recording.specs.declared.item.Item.TheVariants as item
use Rattle.ch11_recording.specs.Items.{numbered, numbered_from, to_the_end}
use Rattle.ch11_recording.specs.Laws.{IsFormat, RecordingIsRead, EndedIsClosed}
use Rattle.ch11_recording.specs.WrittenFile.{held_in}
use Rattle.ch11_recording.specs.Recording.{Recording, IsRecordingOf, GoesOn}
use Rattle.bench_core.specs.OneChannel.{items_of, format_of, channel_file, IsReadAs}
use Rattle.bench_core.proofs.OneChannelNumbers.{items_more, recorded_more, take_next, held_more, held_channel, ended, own_part, all_items, messages_again}

nothing_read : packets_in [] ≡ Ok []
unfolding packets_from
nothing_read = refl

-- the first n records of the job are in the recording; `before` is the sink as it was
pub record Stage {S : Type 0} (taken : S → Option (List ℕ)) (failures : S → ℕ) (job : ChannelJob) (placed : List Placed) (version limit : ℕ) (before : S) (n : ℕ) (r : Recording S) : Type 0 where
  pub recording : IsRecordingOf taken (format_of version limit) [] (taken before) (job.channel ∷ []) (items_of job.channel (take n (records job placed))) r
  pub count : length (take n (records job placed)) ≡ n
  pub own : (held_in (format_of version limit) job.channel (items_of job.channel (take n (records job placed)))).channel.channel ≡ job.channel
  pub latest : latest_number (held_in (format_of version limit) job.channel (items_of job.channel (take n (records job placed)))) ≡ n
  pub recorded : AllByRecursion IsRecorded (numbered_from 1 (take n (records job placed)))
  pub unfinished : r.writing.finished ≡ false
  pub few : r.writing.taken ≤ n * 524288
  pub rose : r.writing.failed ≡ true → failures before < failures r.writing.sink
  pub kept : failures before ≤ failures r.writing.sink

module _ {S : Type 0} (taken : S → Option (List ℕ)) (failures : S → ℕ) (job : ChannelJob) (placed : List Placed) (version limit : ℕ) (before : S) where
  -- nothing is recorded yet
  pub first_stage : (n : ℕ) (r : Recording S) → n ≡ 0 → IsRecordingOf taken (format_of version limit) [] (taken before) (job.channel ∷ []) [] r
      → r.writing ≡ record { sink = before; taken = 0; failed = false; finished = false } → Stage taken failures job placed version limit before n r
  first_stage n r is begun fresh = subst (λ k. Stage taken failures job placed version limit before k r) (sym is) (record {
    recording = begun;
    count = refl;
    own = refl;
    latest = refl;
    recorded = tt;
    unfinished = ap (λ (w : Writing S). w.finished) fresh;
    few = let t : r.writing.taken ≡ 0 = ap (λ (w : Writing S). w.taken) fresh in omega arith;
    rose = λ failed. (let f : r.writing.failed ≡ false = ap (λ (w : Writing S). w.failed) fresh in absurd (cc));
    kept = let s : failures r.writing.sink ≡ failures before = ap (λ (w : Writing S). failures w.sink) fresh in omega arith;
  })

  -- the channel's number so far, as its recorder looks at it
  pub is_next : (n : ℕ) (r : Recording S) (h : Held) → Stage taken failures job placed version limit before n r → slice_get r.held 0 ≡ Some h → latest_number h < n + 1
  is_next n r h s at =
      let held : r.held ≡ held_in (format_of version limit) job.channel (items_of job.channel (take n (records job placed))) ∷ [] = s.recording.held in
      let e : Some (held_in (format_of version limit) job.channel (items_of job.channel (take n (records job placed)))) ≡ Some h = sym (ap (λ (hs : List Held). slice_get hs 0) held) ∙ at in
      let same : held_in (format_of version limit) job.channel (items_of job.channel (take n (records job placed))) ≡ h = cc in
      omega (arith, ap latest_number (sym same) ∙ s.latest)

  -- what the channel holds now
  abbrev pub holding : ℕ → Held
  holding n = held_in (format_of version limit) job.channel (items_of job.channel (take n (records job placed)))

  pub channel_now : (n : ℕ) (r : Recording S) → Stage taken failures job placed version limit before n r → slice_get r.held 0 ≡ Some (holding n)
  channel_now n r st = ap (λ (hs : List Held). slice_get hs 0) st.recording.held

  pub one_channel : (n : ℕ) (r : Recording S) → Stage taken failures job placed version limit before n r → 0 < length r.held
  one_channel n r st = let e : length r.held ≡ 1 = ap (λ (hs : List Held). length hs) st.recording.held in omega arith

  pub rises : (old new : Bool) (a b : ℕ) → b ≡ cond (old || not new) a (a + 1) → (old ≡ true → failures before < a) → failures before ≤ a
      → (new ≡ true → failures before < b) × (failures before ≤ b)
  rises true new a b e up le = ((λ f. omega (arith, e, up refl)), omega (arith, e))
  rises false true a b e up le = ((λ f. omega (arith, e)), omega (arith, e))
  rises false false a b e up le = ((λ f. absurd (cc)), omega (arith, e))

  -- one more record
  pub next_stage : PushedIsLatest → (n k : ℕ) (q : Record) (r s : Recording S) → Stage taken failures job placed version limit before n r
      → slice_get (records job placed) n ≡ Some q → k ≡ n + 1 → IsRecorded (numbered k q)
      → GoesOn taken 0 (λ channel. item.Message channel k q) r s → s.writing.finished ≡ false → s.writing.taken ≤ r.writing.taken + 524288
      → failures s.writing.sink ≡ cond (r.writing.failed || not s.writing.failed) (failures r.writing.sink) (failures r.writing.sink + 1)
      → Stage taken failures job placed version limit before k s
  next_stage pushed_last n k q r s st at is fits goes unfinished few failed =
      let f = format_of version limit in
      let rs : List Record = take n (records job placed) in
      let more : take k (records job placed) ≡ rs ++ q ∷ [] = ap (λ i. take i (records job placed)) (is ∙ one n) ∙ take_next (records job placed) n q at in
      let items : items_of job.channel (take k (records job placed)) ≡ items_of job.channel rs ++ item.Message job.channel k q ∷ [] =
      ap (items_of job.channel) more ∙ items_more job.channel n rs q st.count ∙ ap (λ i. items_of job.channel rs ++ item.Message job.channel i q ∷ []) (sym is) in
      let up = rises r.writing.failed s.writing.failed (failures r.writing.sink) (failures s.writing.sink) failed st.rose st.kept in
      record {
        recording = rw items (goes f [] (taken before) (job.channel ∷ []) job.channel (items_of job.channel rs) (tt, tt) refl st.recording);
        count = rw more (omega (arith, length-append rs (q ∷ []), st.count, is));
        own = rw items (held_channel f job.channel (items_of job.channel rs) k q st.own);
        latest = rw (items, held_more f job.channel (items_of job.channel rs) k q st.own) (pushed_last (held_in f job.channel (items_of job.channel rs)) (numbered k q));
        recorded = rw more (recorded_more n rs q st.count st.recorded (rw is at fits));
        unfinished = unfinished;
        few = omega (arith, few, st.few, is);
        rose = up.0;
        kept = up.1;
      }
    where
      one : (i : ℕ) → i + 1 ≡ suc i
      one i = omega arith

  -- all records, and then the end mark
  pub last_stage : (n : ℕ) (r s : Recording S) → Stage taken failures job placed version limit before n r → n ≡ length (records job placed)
      → GoesOn taken 0 (λ channel. item.End channel) r s
      → IsRecordingOf taken (format_of version limit) [] (taken before) (job.channel ∷ []) (to_the_end job.channel (numbered_from 1 (records job placed))) s
  last_stage n r s st is goes =
      let all : take n (records job placed) ≡ records job placed = take_all n (records job placed) (omega (arith, is)) in
      let items : items_of job.channel (take n (records job placed)) ++ item.End job.channel ∷ [] ≡ to_the_end job.channel (numbered_from 1 (records job placed)) =
      ended job.channel (numbered_from 1 (take n (records job placed))) ∙ ap (λ (rs : List Record). to_the_end job.channel (numbered_from 1 rs)) all in
      subst (λ (xs : List Item). IsRecordingOf taken (format_of version limit) [] (taken before) (job.channel ∷ []) xs s) items
      (goes (format_of version limit) [] (taken before) (job.channel ∷ []) job.channel (items_of job.channel (take n (records job placed))) (tt, tt) refl st.recording)

  -- the recording is read as the job's records
  pub read_again : RecordingIsRead → EndedIsClosed → (n : ℕ) (r : Recording S) → Stage taken failures job placed version limit before n r → n ≡ length (records job placed)
      → IsFormat (format_of version limit) → job.channel < 2 ^ 16 → IsReadAs job.channel (records job placed) (channel_file job.channel version limit (records job placed))
  read_again read closed n r st is format low =
      let f = format_of version limit in
      let ns : List Numbered = numbered_from 1 (records job placed) in
      let all : take n (records job placed) ≡ records job placed = take_all n (records job placed) (omega (arith, is)) in
      let fits : AllByRecursion IsRecorded ns = subst (λ (rs : List Record). AllByRecursion IsRecorded (numbered_from 1 rs)) all st.recorded in
      let got = read f [] (to_the_end job.channel ns) format ([], nothing_read, tt) (all_items job.channel ns low fits) in (
        got.0,
        got.1,
        got.2 job.channel ∙ ap (λ (xs : List Numbered). map as_message (messages_of xs)) (closed f job.channel (to_the_end job.channel ns) ns (own_part job.channel ns))
            ∙ ap (map as_message) (messages_again 1 (records job placed)),
      )

-- what a finished writer's sink took
pub took_all : {S : Type 0} (taken : S → Option (List ℕ)) (put : List ℕ) (before : Option (List ℕ)) (w : Writing S) → IsWritten put before (progress_of taken w) → w.failed ≡ false
    → Appends before (taken w.sink) put
took_all taken put before w is ok =
    let whole : take w.taken put ≡ put = take_all w.taken put (omega (arith, is.whole ok)) in
    subst (λ (bytes : List ℕ). Appends before (taken w.sink) bytes) whole is.taken

-- a writer that could not finish failed once more than before
pub rose_at_end : (first a b : ℕ) (old ok : Bool) → b ≡ cond (old || ok) a (a + 1) → ok ≡ false → (old ≡ true → first < a) → first ≤ a → first < b
rose_at_end first a b true ok e f up le = omega (arith, e, up refl)
rose_at_end first a b false true e f up le = absurd (cc)
rose_at_end first a b false false e f up le = omega (arith, e)

-- what a failed writer's sink took
pub took_part : {S : Type 0} (taken : S → Option (List ℕ)) (put : List ℕ) (before : Option (List ℕ)) (w : Writing S) (sink : S) (count : ℕ) → IsWritten put before (progress_of taken w)
    → count ≡ w.taken → sink ≡ w.sink → Appends before (taken sink) (take count put)
took_part taken put before w sink count is counted at = rw (counted, at) is.taken
