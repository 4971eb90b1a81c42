-- A job that is played beside the file while its states are kept.
use Rattle.std.proofs.Common.{◌≡◌, ℕ, zero, suc, ◌+◌, ◌*◌, ◌<◌, ◌≤◌, List, [], ◌∷◌, ◌++◌, length, take, Some, refl, sym, ap, ◌∙◌, subst, ⊎_elim, arith}
use Rattle.std.specs.List.{slice_get}
use Rattle.std.proofs.lemmas.Bool.{cases_lt}
use Rattle.std.proofs.lemmas.List.{length-append, take_all, take-append-le}
use Rattle.std.proofs.lemmas.Option.{slice_get_within}
use Rattle.ch11_f1.specs.declared.Record.{Record}
use Rattle.bc_machine.specs.Running.{MachineState}
use Rattle.job_file.specs.Jobs.{JobState}
use Rattle.ch11_f1.specs.BodyReading.{Message}
use Rattle.ch11_builder.specs.Packet.{Numbered}
use Rattle.ch11_recording.specs.Items.{numbered, last_number}
use Rattle.ch11_reader.specs.Recording.{Found}
use Rattle.ch11_reader.specs.Contents.{reading}
use Rattle.bench_report.specs.Reports.{ChannelPart}
use Rattle.bench_settings.specs.Kept.{kept_records}
use Rattle.replay.specs.declared.tracks.Mark.{Mark}
use Rattle.replay.specs.declared.standings.Standing.{Standing}
use Rattle.replay.specs.declared.checkpoints.Stop.{Stop}
use Rattle.replay.specs.declared.checkpoints.Due.{Due}
use Rattle.replay.specs.Accord.{played, kept_in, AgreesOn}
use Rattle.replay.specs.Places.{heard_channels, heard_of}
use Rattle.replay.specs.Finding.{count_to}
use Rattle.replay.specs.Tracks.{Pair, IsThere, IsMarked, AreMarks}
use Rattle.replay.specs.Playing.{IsNextRecorded, IsNextRefused, IsOver, IsPlaying}
use Rattle.replay.specs.Keeping.{AreStatesKeptTo, IsBehind, IsDue, KeepsMoreStates, AddsStates, IsPlayed}
use Rattle.replay.proofs.Counting.{room}
use Rattle.replay.proofs.KeptLists.{kept_next, HasMore, has_more}
use Rattle.replay.proofs.PlayingOn.{last_is, keeps_at, passes_at, accords_at}
use Rattle.replay.proofs.Keeping.{keeping_begins, keeping_ends}

module _ (found : List Found) (job : JobState) (part : ChannelPart) where
  abbrev rs : List Record
  rs = played job part

  abbrev so_far : ℕ → List Numbered
  so_far n = kept_records part.refused (take n rs)

  abbrev own : Pair
  own = record { job = job; part = part }

  -- ---- one message

  -- those that were kept so far are the first of all
  first_kept : (n : ℕ) → n ≤ length rs → take (length (so_far n)) (kept_in job part) ≡ so_far n
  first_kept n le =
      let more : HasMore part.refused 1 n (length rs) rs = has_more part.refused 1 n (length rs) rs le in
      let whole : kept_in job part ≡ so_far n ++ more.later = ap (kept_records part.refused) (sym (take_all (length rs) rs (omega arith))) ∙ more.is in
      ap (λ (ns : List Numbered). take (length (so_far n)) ns) whole ∙ take-append-le (length (so_far n)) (so_far n) more.later (omega arith) ∙ take_all (length (so_far n)) (so_far n) (omega arith)

  -- behind a message that was kept the controller stands behind the last of as many
  behind_kept : (n heard : ℕ) (next : MachineState) (hs rest : List Message) (marks : List Mark) → IsNextRecorded job part n next hs rest → IsPlaying found job part (n + 1) next rest marks
      → length marks ≡ heard + 1 → IsThere job part (last_number (take heard (kept_in job part))) next
  behind_kept n heard next hs rest marks told is long =
      let within : n < length rs = slice_get_within rs n told.message told.comes in
      let count : heard ≡ length (so_far (n + 1)) = omega (arith, long, is.all.counted) in
      let last : last_number (so_far (n + 1)) ≡ n + 1 = ap last_number (kept_next part.refused n rs told.message told.comes told.listed) ∙ last_is 0 (so_far n) (numbered (n + 1) told.message) in
      subst (λ (k : ℕ). IsThere job part k next)
      (sym last ∙ sym (ap last_number (first_kept (n + 1) (omega (arith, within)))) ∙ ap (λ (k : ℕ). last_number (take k (kept_in job part))) (sym count))
      is.there

  -- ---- as the code meets them

  one_mark : (mark : Mark) → IsMarked job part 0 mark → (k : ℕ) (other : Mark) → slice_get (mark ∷ []) k ≡ Some other → IsMarked job part (last_number (take k [])) other
  one_mark mark is zero other at = let same : mark ≡ other = cc in subst (IsMarked job part 0) same is
  one_mark mark is (suc k) other at = absurd cc

  pub played_begins : (channels : List ℕ) (s : Standing) (hs : List Message) (mark : Mark) (marks : List Mark) (due next : Due) (old new : List Stop) → s.heard ≡ 0 → IsThere job part 0 s.machine
      → hs ≡ reading found job.channel → mark.number ≡ s.machine.point.number → mark.last ≡ s.machine.latest → marks ≡ mark ∷ [] → due.stop ≡ 0 → due.channel ≡ job.channel → length new ≡ length old
      → IsDue channels due.channel (s.heard + 1) (length new) next → KeepsMoreStates due.channel channels s due.stop old next.stop new → IsPlayed found job part channels 0 s hs marks next old new
  played_begins channels s hs mark marks due next old new none there heard number last pushed first channel count is keeps = record {
    playing = record {
      there = there;
      read = sym heard;
      all = subst (AreMarks job part []) (sym pushed) (record {
        counted = refl;
        each = one_mark mark (record { machine = s.machine; there = there; number_is = number; last_is = last });
      });
    };
    heard = ap length pushed ∙ ap (λ (n : ℕ). n + 1) (sym none);
    few = omega (arith, none);
    keeping = record {
      due_is = subst (λ (c : ℕ). IsDue channels c (s.heard + 1) (length new) next) channel is;
      count = count;
      kept = λ before are. keeps before own (sym channel) behind (subst (λ (n : ℕ). AreStatesKeptTo before own channels n old) (sym first) (keeping_begins before own channels old are));
    };
  }
    where
      behind : IsBehind own s
      behind = subst (λ (n : ℕ). IsThere job part (last_number (take n (kept_in job part))) s.machine) (sym none) there

  pub plays_kept : (channels : List ℕ) (n : ℕ) (s : Standing) (next : MachineState) (mark : Mark) (hs rest : List Message) (marks others : List Mark) (due later : Due) (old new newer : List Stop)
      → IsPlayed found job part channels n s hs marks due old new → IsNextRecorded job part s.machine.point.number next hs rest → mark.number ≡ next.point.number → mark.last ≡ next.latest
      → others ≡ marks ++ mark ∷ [] → length newer ≡ length new → IsDue channels due.channel (s.heard + 1 + 1) (length newer) later
      → KeepsMoreStates due.channel channels (record { heard = s.heard + 1; machine = next }) due.stop new later.stop newer
      → IsPlayed found job part channels (n + 1) (record { heard = s.heard + 1; machine = next }) rest others later old newer
  plays_kept channels n s next mark hs rest marks others due later old new newer is told number last pushed count due_is keeps = record {
    playing = playing;
    heard = long;
    few = omega (arith, is.few);
    keeping = record {
      due_is = subst (λ (c : ℕ). IsDue channels c (s.heard + 1 + 1) (length newer) later) is.keeping.due_is.channel_is due_is;
      count = count ∙ is.keeping.count;
      kept = λ before are.
          keeps before own (sym is.keeping.due_is.channel_is)
          (behind_kept n (s.heard + 1) next hs rest others (subst (λ (k : ℕ). IsNextRecorded job part k next hs rest) is.playing.there.number_is told) playing long)
          (is.keeping.kept before are);
    };
  }
    where
      playing : IsPlaying found job part (n + 1) next rest others
      playing = keeps_at found job part n s.machine next mark hs rest marks others is.playing told number last pushed

      long : length others ≡ s.heard + 1 + 1
      long = ap length pushed ∙ length-append marks (mark ∷ []) ∙ ap (λ (k : ℕ). k + 1) is.heard

  pub plays_refused : (channels : List ℕ) (n : ℕ) (s : Standing) (next : MachineState) (hs rest : List Message) (marks : List Mark) (due : Due) (old new : List Stop)
      → IsPlayed found job part channels n s hs marks due old new → IsNextRefused job part s.machine.point.number next hs rest
      → IsPlayed found job part channels (n + 1) (record { heard = s.heard; machine = next }) rest marks due old new
  plays_refused channels n s next hs rest marks due old new is told = record {
    playing = passes_at found job part n s.machine next hs rest marks is.playing told;
    heard = is.heard;
    few = omega (arith, is.few);
    keeping = record { due_is = is.keeping.due_is; count = is.keeping.count; kept = is.keeping.kept };
  }

  -- ---- at the end

  -- no state is due any more, as no message of the channel is left
  none_due : (channels : List ℕ) (heard count : ℕ) (due : Due) (marks : List Mark) → channels ≡ heard_channels found → AgreesOn found job part → AreMarks job part (kept_in job part) marks
      → length marks ≡ heard + 1 → IsDue channels job.channel (heard + 1) count due → count ≤ due.stop
  none_due channels heard count due marks are agrees all long is =
      ⊎_elim
      (λ less.
      let some : heard + 1 ≤ due.heard = is.from less in
      let counted : due.heard ≡ heard_of found (64 * due.stop) job.channel =
      is.counted ∙ ap (λ (c : ℕ). count_to channels (64 * due.stop) c) is.channel_is ∙ ap (λ (cs : List ℕ). count_to cs (64 * due.stop) job.channel) are in
      absurd (omega (arith, some, counted, room found (64 * due.stop) job part agrees, all.counted, long)))
      (λ le. le)
      (cases_lt due.stop count)

  pub all_kept : (channels : List ℕ) (n : ℕ) (s : Standing) (hs : List Message) (marks : List Mark) (due : Due) (old new : List Stop) → channels ≡ heard_channels found
      → IsPlayed found job part channels n s hs marks due old new → n ≡ part.made → IsOver job part s.machine.point.number hs → AddsStates own channels old new
  all_kept channels n s hs marks due old new are is all over before checkpoints =
      let accord = accords_at found job part n s.machine hs marks is.playing all over in
      keeping_ends before own channels due.stop new (is.keeping.kept before checkpoints)
      (none_due channels s.heard (length new) due marks are accord.0 accord.1 is.heard is.keeping.due_is)
