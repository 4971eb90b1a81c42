-- The complete file of a recording is read as the recording.
use Rattle.std.proofs.Common.{◌≡◌, ◌⊎◌, inl, inr, ℕ, zero, suc, ◌+◌, ◌-◌, ◌<◌, ◌≤◌, ◌^◌, Bool, true, false, cond, eqb, ltb, ◌&&◌, List, [], ◌∷◌, ◌++◌, length, get_or, Option, None, Some, option_map, Result, Ok, Err, refl, sym, ap, subst, ◌∙◌, append_assoc, arith}
use Rattle.std.proofs.lemmas.Bool.{cases_eq, ltb-true}
use Rattle.std.proofs.lemmas.List.Elements.{filter-append}
use Rattle.ch11_f1.specs.BodyReading.{Message}
use Rattle.ch11_reader.specs.Recording.{Found, packet_messages, packets_in}
use Rattle.ch11_reader.specs.Contents.{reading}
use Rattle.bench_complete.specs.declared.additions.Additions.{Additions}
use Rattle.bench_complete.specs.declared.additions.UtcSecond.{UtcSecond}
use Rattle.bench_complete.specs.declared.extent.Extent.{Extent}
use Rattle.bench_complete.specs.declared.fault.CompleteFault.{CompleteFault}
use Rattle.bench_complete.specs.declared.times.Times.{Times}
use Rattle.bench_complete.specs.Pieces.{Piece, kept_packets, leading, behind_leading}
use Rattle.bench_complete.specs.Merging.{of_channel}
use Rattle.bench_complete.specs.TimePackets.{time_piece, times_from, times_in}
use Rattle.bench_complete.specs.SetupRecord.{setup_piece}
use Rattle.bench_complete.specs.Complete.{IsComplete, plan_for, extent_of, low_of, times_between, front_of}
use Rattle.bench_complete.specs.Judging.{AllReadAt, is_setup, judged_additions, judged_recording}
use Rattle.bench_complete.specs.Laws.{AreOptions, ReadingStays}
use Rattle.bench_complete.proofs.Merged.{of_channel-same, of_channel-other}
use Rattle.bench_complete.proofs.Sound.{all_read}
use Rattle.bench_complete.proofs.Planned.{AreBelow, first_small, found_below, low_is, low_small, small}
use Rattle.bench_complete.proofs.Channels.{all_append, all_merged}
use Rattle.bench_complete.proofs.Front.{channel_all}
use Rattle.bench_complete.proofs.Again.{IsWhole, AreWhole, messages_in, found_from, read_again, heard, kept_whole, kept_heard}
use Rattle.bench_complete.proofs.Added.{times_whole, setup_whole}

-- ---- what is added holds no message

heard_append : (ps qs : List Piece) → messages_in (ps ++ qs) ≡ messages_in ps ++ messages_in qs
heard_append [] qs = refl
heard_append (p ∷ ps) qs =
    ap (λ (l : List Message). packet_messages p.header p.bytes ++ l) (heard_append ps qs) ∙ sym (append_assoc (packet_messages p.header p.bytes) (messages_in ps) (messages_in qs))

times_silent_by : (channel : ℕ) (p : Piece) (ps : List Piece) → packet_messages p.header p.bytes ≡ [] → messages_in (of_channel channel ps) ≡ []
    → (p.header.channel ≡ channel) ⊎ (p.header.channel ≡ channel → ⊥) → messages_in (of_channel channel (p ∷ ps)) ≡ []
times_silent_by channel p ps none rest (inl same) =
    ap messages_in (of_channel-same channel p ps same) ∙ ap (λ (l : List Message). l ++ messages_in (of_channel channel ps)) none ∙ rest
times_silent_by channel p ps none rest (inr ne) = ap messages_in (of_channel-other channel p ps ne) ∙ rest

times_silent : (t : Times) (channel count second : ℕ) → messages_in (of_channel channel (times_from t count second)) ≡ []
times_silent t channel zero second = refl
times_silent t channel (suc count) second =
    times_silent_by channel (time_piece t second) (times_from t count (second + 1)) refl (times_silent t channel count (second + 1)) (cases_eq t.channel channel)

front_silent : (setup : Option (List ℕ)) (version counter channel : ℕ) → messages_in (of_channel channel (front_of setup version counter)) ≡ []
front_silent None version counter channel = refl
front_silent (Some text) version counter channel = times_silent_by channel (setup_piece version counter text) [] refl refl (cases_eq 0 channel)

-- ---- options that were judged

sound_setup : (setup : Bool) (r : Result (List Found) CompleteFault) (f : CompleteFault) (ps : List Found) → cond setup r (Err f) ≡ Ok ps → (setup ≡ true) × (r ≡ Ok ps)
sound_setup true r f ps is = (refl, is)
sound_setup false r f ps is = cc

channel_is : (a : Additions) (start : Option UtcSecond) (x : Option Extent) → (times_between a start x).channel ≡ a.time_channel
channel_is a None None = refl
channel_is a (Some s) None = refl
channel_is a None (Some e) = refl
channel_is a (Some s) (Some e) = refl

version_of : (a : Additions) (start : Option UtcSecond) (x : Option Extent) → (times_between a start x).version ≡ a.version
version_of a None None = refl
version_of a (Some s) None = refl
version_of a None (Some e) = refl
version_of a (Some s) (Some e) = refl

shorter : (size : ℕ) → (ltb 0 size && ltb size 524001) ≡ true → size ≤ 524000
shorter size is = omega (arith, ltb-true size 524001 (second (ltb 0 size) (ltb size 524001) is))
  where
    second : (a b : Bool) → (a && b) ≡ true → b ≡ true
    second true b e = e
    second false b e = cc

front_whole : (setup : Option (List ℕ)) (version counter : ℕ) → is_setup setup ≡ true → version < 2 ^ 8 → counter < 2 ^ 48 → AreWhole (front_of setup version counter)
front_whole None version counter is small low = tt
front_whole (Some text) version counter is small low = (setup_whole version counter text small low (shorter (length text) is), tt)

whole_by : (p : Piece) (ps : List Piece) (setup : Bool) → eqb p.header.kind 1 ≡ setup → AreWhole (p ∷ ps) → AreWhole (leading ps) × AreWhole (behind_leading ps)
    → AreWhole (leading (p ∷ ps)) × AreWhole (behind_leading (p ∷ ps))
whole_by p ps true s all rest = rw s ((all.0, rest.0), rest.1)
whole_by p ps false s all rest = rw s (tt, all)

-- those that lead and those that stand behind them
whole_parts : (ps : List Piece) → AreWhole ps → AreWhole (leading ps) × AreWhole (behind_leading ps)
whole_parts [] all = (tt, tt)
whole_parts (p ∷ ps) all = whole_by p ps (eqb p.header.kind 1) refl all (whole_parts ps all.1)

-- ---- the law

module _ (file bytes : List ℕ) (a : Additions) (ps : List Found) (small_bytes : (k : ℕ) → get_or file k 0 < 256) (options : AreOptions a) (read : packets_in file ≡ Ok ps)
    (sound : judged_additions file (Ok ps) a ≡ Ok ps) (complete : IsComplete (plan_for file ps a) bytes) where
  abbrev extent : Option Extent
  extent = extent_of (kept_packets file ps)

  abbrev times : Times
  times = times_between a a.start extent

  abbrev parts : List Piece
  parts = times_in times ++ kept_packets file ps

  all : AllReadAt file ps
  all = all_read file ps small_bytes read

  abbrev setup : Option (List ℕ)
  setup = option_map (λ text. text.now) a.setup

  judgement : (is_setup setup ≡ true) × (judged_recording file (Ok ps) a ≡ Ok ps)
  judgement = sound_setup (is_setup setup) (judged_recording file (Ok ps) a) _ ps sound

  below : AreBelow (kept_packets file ps)
  below = found_below file ps all

  low_below : low_of (extent_of parts) < 2 ^ 48
  low_below = subst (λ (k : ℕ). k < 2 ^ 48) (low_is a a.start extent (kept_packets file ps) refl) (low_small (kept_packets file ps) a extent below refl)

  times_end : times.first + (times.end - times.first) ≤ 28147498
  times_end =
      let s = small (kept_packets file ps) a extent below refl in
      let f = first_small (kept_packets file ps) a extent below refl in
      omega (arith, s.end, f)

  abbrev kept : List Piece
  kept = kept_packets file ps

  abbrev lead : List Piece
  lead = leading kept

  abbrev rest : List Piece
  rest = behind_leading kept

  both_whole : AreWhole lead × AreWhole rest
  both_whole = whole_parts kept (kept_whole file ps all)

  parts_whole : AreWhole (times_in times ++ rest)
  parts_whole =
      all_append IsWhole (times_in times) rest
      (times_whole times (times.end - times.first) times.first times_end
      (subst (λ (k : ℕ). k < 2 ^ 16) (sym (channel_is a a.start extent)) options.channel)
      (subst (λ (k : ℕ). k < 2 ^ 8) (sym (version_of a a.start extent)) options.version)) both_whole.1

  abbrev added : List Piece
  added = front_of setup a.version (low_of (extent_of parts))

  abbrev pub whole_file : List Piece
  whole_file = (added ++ lead) ++ complete.merged

  pub all_whole : AreWhole whole_file
  all_whole =
      all_append IsWhole (added ++ lead) complete.merged
      (all_append IsWhole added lead (front_whole setup a.version (low_of (extent_of parts)) judgement.0 options.version low_below) both_whole.0)
      (all_merged IsWhole (times_in times ++ rest) complete.merged complete.merge parts_whole)

  front_heard : (channel : ℕ) → messages_in (of_channel channel (added ++ lead)) ≡ messages_in (of_channel channel lead)
  front_heard channel =
      ap messages_in (filter-append _ added lead)
      ∙ heard_append (of_channel channel added) (of_channel channel lead)
      ∙ ap (λ (l : List Message). l ++ messages_in (of_channel channel lead)) (front_silent setup a.version (low_of (extent_of parts)) channel)

  merged_heard : (channel : ℕ) → messages_in (of_channel channel complete.merged) ≡ messages_in (of_channel channel rest)
  merged_heard channel =
      ap messages_in (complete.merge.channels channel ∙ filter-append _ (times_in times) rest)
      ∙ heard_append (of_channel channel (times_in times)) (of_channel channel rest)
      ∙ ap (λ (l : List Message). l ++ messages_in (of_channel channel rest)) (times_silent times channel (times.end - times.first) times.first)

  all_heard : (channel : ℕ) → reading (found_from 0 whole_file) channel ≡ reading ps channel
  all_heard channel =
      heard channel 0 whole_file
      ∙ ap messages_in (filter-append _ (added ++ lead) complete.merged)
      ∙ heard_append (of_channel channel (added ++ lead)) (of_channel channel complete.merged)
      ∙ ap (λ (l : List Message). l ++ messages_in (of_channel channel complete.merged)) (front_heard channel)
      ∙ ap (λ (l : List Message). messages_in (of_channel channel lead) ++ l) (merged_heard channel)
      ∙ sym (heard_append (of_channel channel lead) (of_channel channel rest))
      ∙ ap messages_in (channel_all channel kept)
      ∙ kept_heard file channel ps all

  pub file_read : packets_in bytes ≡ Ok (found_from 0 whole_file)
  file_read = ap packets_in complete.is ∙ read_again whole_file all_whole

  stays : (qs : List Found) × (packets_in bytes ≡ Ok qs) × ((channel : ℕ) → reading qs channel ≡ reading ps channel)
  stays = (found_from 0 whole_file, file_read, all_heard)

pub reading_stays : ReadingStays
reading_stays file bytes a ps small_bytes options read sound complete = stays file bytes a ps small_bytes options read sound complete
