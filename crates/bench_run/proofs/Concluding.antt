-- What a run leaves: the file of what was received, or its beginning.
use Rattle.std.proofs.Common.{◌≡◌, ℕ, suc, ◌+◌, ◌-◌, ◌<◌, ◌≤◌, ◌^◌, Bool, true, false, ◌||◌, cond, List, [], ◌∷◌, ◌++◌, length, map, nat_le, Option, refl, sym, ap, ◌∙◌, subst, arith, length-append}
use Rattle.std.specs.List.{concat}
use Rattle.std.specs.Io.KnownBytes.{Appends}
use Rattle.std.proofs.lemmas.List.{take_all}
use Rattle.job_file.specs.Jobs.{JobState}
use Rattle.ch11_builder.specs.Held.{Held, packet_of}
use Rattle.ch11_recording.specs.declared.item.Item.{Item}
use Rattle.ch11_recording.specs.Items.{channel_of}
use Rattle.ch11_recording.specs.WrittenFile.{Format, held_in, closes, closed_by, closed_packets_behind, closed_packets, whole_packets, written_file}
use Rattle.ch11_recording.specs.Recording.{Recording, IsRecordingOf}
use Rattle.ch11_recording.specs.Laws.{IsFormat, RecordingIsRead, RecordsAreKept, EndedIsClosed, FileIsPackets, AllPacketsAreWhole}
use Rattle.bench_report.specs.Reports.{ChannelPart}
use Rattle.bench_settings.specs.declared.settings.Settings.{Settings}
use Rattle.bench_settings.specs.Lawful.{AreLawful, channels_of, format_of}
use Rattle.bench_run.specs.declared.entry.Entry.{Entry}
use Rattle.bench_run.specs.Entries.{item_of}
use Rattle.bench_run.specs.Runs.{Ran, IsCut}
use Rattle.bench_run.specs.Writer.{IsLogged}
use Rattle.bench_run.specs.Ending.{IsAll}
use Rattle.bench_run.proofs.Endings.{items_sound, nothing_unfit, got_few, parts_are, read_are, others_none, others_silent}

-- ---- packets

closed_few : (h : Held) (x : Item) (b : Bool) → length (cond b (packet_of h ∷ []) []) ≤ 1
closed_few h x true = omega arith
closed_few h x false = omega arith

behind_few : (f : Format) (earlier items : List Item) → length (closed_packets_behind f earlier items) ≤ length items
behind_few f earlier [] = omega arith
behind_few f earlier (x ∷ items) =
    let h : Held = held_in f (channel_of x) earlier in
    let rest = behind_few f (earlier ++ x ∷ []) items in
    omega (arith, rest, closed_few h x (closes h x), length-append (closed_by h x) (closed_packets_behind f (earlier ++ x ∷ []) items))

packets_few : (f : Format) (items : List Item) → length (closed_packets f items) ≤ length items
unfolding closed_packets
packets_few f items = behind_few f [] items

whole_few : (bytes : ℕ) (ps : List (List ℕ)) → whole_packets bytes ps ≤ length ps
whole_few bytes [] = omega arith
whole_few bytes (p ∷ ps) = go (nat_le (length p) bytes) (whole_few (bytes - length p) ps)
  where
    go : (b : Bool) → whole_packets (bytes - length p) ps ≤ length ps → cond b (suc (whole_packets (bytes - length p) ps)) 0 ≤ suc (length ps)
    go true low = omega (arith, low)
    go false low = omega arith

whole_is : (b : Bool) → (b ≡ false → ⊥) → b ≡ true
whole_is true not_false = refl
whole_is false not_false = absurd (not_false refl)

length-mapped : (f : Entry → Item) (es : List Entry) → length (map f es) ≡ length es
length-mapped f [] = refl
length-mapped f (e ∷ es) = ap suc (length-mapped f es)

module _ {S : Type 0} (taken : S → Option (List ℕ)) (failures : S → ℕ) (most : ℕ) (given jobs : List JobState) (s : Settings) (before : S) (parts : List ChannelPart) (got : List Entry)
    (old : Recording S) (whole : Bool) (lawful : AreLawful jobs s) (small : s.version < 2 ^ 8)
    (all : IsAll s.queue most given jobs parts got) (logged : IsLogged taken failures (format_of s) s.prologue.items before (channels_of jobs) got old whole) where
  items_are : logged.items ≡ map (item_of (channels_of jobs)) got
  items_are = logged.all (whole_is whole (λ cut. nothing_unfit s.queue most given jobs parts got all (logged.unfit cut)))

  -- the recording is that of all that was received
  abbrev IsRecorded_ : Recording S → Type 0
  IsRecorded_ r = IsRecordingOf taken (format_of s) s.prologue.items (taken before) (channels_of jobs) (map (item_of (channels_of jobs)) got) r

  pub of_all : (r : Recording S) → IsRecordingOf taken (format_of s) s.prologue.items (taken before) (channels_of jobs) logged.items r → IsRecorded_ r
  of_all r is = subst (λ (items : List Item). IsRecordingOf taken (format_of s) s.prologue.items (taken before) (channels_of jobs) items r) items_are is

  -- a report has a count of at most ten digits
  pub count_fits : (r : Recording S) → IsRecorded_ r → r.packets ≤ 9999999999
  count_fits r is =
      let items : List Item = map (item_of (channels_of jobs)) got in
      let few = got_few s.queue most given jobs parts got all in
      let fewer = packets_few (format_of s) items in
      let fewest = whole_few (r.writing.taken - length s.prologue.items) (closed_packets (format_of s) items) in
      omega (arith, few, fewer, fewest, is.packets, length-mapped (item_of (channels_of jobs)) got, lawful.ranges.few)

  module _ (read : RecordingIsRead) (keeps : RecordsAreKept) (closed : EndedIsClosed) (file : FileIsPackets) (packets : AllPacketsAreWhole) where
    -- the sink took the whole file
    pub ran : (r : Recording S) → IsRecorded_ r → r.writing.failed ≡ false → Ran taken most given jobs s before (record { channels = parts; packets = r.packets }) r.writing.sink
    ran r is sound =
        let f = format_of s in
        let prologue : List ℕ = s.prologue.items in
        let items : List Item = map (item_of (channels_of jobs)) got in
        let bytes : List ℕ = written_file f prologue items in
        let long : r.writing.taken ≡ length bytes = is.written.whole sound in
        let good : IsFormat f = record { version = small; low = lawful.ranges.limit_low; high = lawful.ranges.limit_high } in
        let sound_items = items_sound s.queue most given jobs parts got all in
        let rs = read f prologue items good lawful.prologue sound_items in
        let joined = ap (λ (bs : List ℕ). length bs) (file f prologue items) in
        let rest : r.writing.taken - length prologue ≡ length (concat (closed_packets f items)) =
        omega (arith, long, joined, length-append prologue (concat (closed_packets f items))) in (
          bytes,
          subst (Appends (taken before) (taken r.writing.sink)) (take_all r.writing.taken bytes (omega (arith, long))) is.written.taken,
          record {
            items = items;
            format = good;
            sound = sound_items;
            file = refl;
            parts = parts_are s.queue most given jobs parts got all s refl lawful.distinct;
            others = others_none s.queue most given jobs parts got all;
            packets = is.packets ∙ ap (λ n. whole_packets n (closed_packets f items)) rest ∙ packets f items;
            found = rs.0;
            readable = rs.1;
            read = read_are s.queue most given jobs parts got all closed f rs.0 lawful.distinct rs.2;
            silent = others_silent s.queue most given jobs parts got all keeps f rs.0 rs.2;
          },
        )

  -- the sink failed
  pub cut : (r : Recording S) (count : ℕ) → IsRecorded_ r → count ≡ r.writing.taken → IsCut taken most given jobs s before (record { channels = parts; packets = r.packets }) count r.writing.sink
  cut r count is same = record {
    items = map (item_of (channels_of jobs)) got;
    bytes = rw same is.written.taken;
    within = omega (arith, same, is.written.within);
    parts = parts_are s.queue most given jobs parts got all s refl lawful.distinct;
    others = others_none s.queue most given jobs parts got all;
    packets = is.packets ∙ ap (λ n. whole_packets (n - length s.prologue.items) (closed_packets (format_of s) (map (item_of (channels_of jobs)) got))) (sym same);
  }

  pub rose : (ended : Bool) (a b : ℕ) → b ≡ cond (old.writing.failed || ended) a (a + 1) → a ≡ failures old.writing.sink → ended ≡ false → failures before < b
  rose ended a b e is last = go old.writing.failed refl
    where
      go : (failed : Bool) → old.writing.failed ≡ failed → failures before < b
      go true was = let up = logged.rose was in let same : b ≡ a = e ∙ ap (λ x. cond (x || ended) a (a + 1)) was in omega (arith, up, same, is)
      go false was = let low = logged.not_fewer in let same : b ≡ a + 1 = e ∙ ap (λ x. cond (x || ended) a (a + 1)) was ∙ ap (λ x. cond x a (a + 1)) last in omega (arith, low, same, is)
