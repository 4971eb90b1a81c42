-- Jobs, report and recording of a finished run agree.
use Rattle.std.proofs.Common.{◌≡◌, ℕ, zero, suc, true, List, [], ◌∷◌, length, map, slice_get, Some, Ok, refl, sym, ap, ◌∙◌, subst, arith}
use Rattle.std.specs.List.{AllByRecursion}
use Rattle.ch11_f1.specs.declared.Record.{Record}
use Rattle.job_file.specs.Jobs.{JobState, job_in}
use Rattle.job_file.specs.Meaning.{records}
use Rattle.ch11_f1.specs.Again.{as_message}
use Rattle.ch11_builder.specs.Packet.{messages_of}
use Rattle.ch11_builder.specs.Laws.{PacketHasItsLength, HeaderIsReadAgain, MessagesAreReadAgain}
use Rattle.ch11_reader.specs.Recording.{Found, packets_in}
use Rattle.ch11_reader.specs.Joined.{RecordingsJoin}
use Rattle.ch11_recording.specs.declared.item.Item.{Item}
use Rattle.ch11_recording.specs.Items.{channel_of}
use Rattle.ch11_recording.specs.Laws.{IsItem, FileGoesOn}
use Rattle.bench_report.specs.Reports.{ChannelPart, RunReport}
use Rattle.bench_settings.specs.declared.settings.Settings.{Settings}
use Rattle.bench_settings.specs.Lawful.{AreLawful, channels_of, format_of}
use Rattle.bench_settings.specs.Kept.{kept_records}
use Rattle.bench_run.specs.Runs.{IsRun, IsPartOf, IsReadAs, ArePairs, records_of}
use Rattle.replay.specs.Accord.{Agrees, AgreesOn, AreOfChannels, reported, played, is_one}
use Rattle.replay.specs.PlacedActions.{PlacedActionsSuffice}
use Rattle.bench_headline.proofs.Written.{IsFine, file_is_known}
use Rattle.bench_headline.proofs.Channels.{of_these}

-- ---- pairs

-- what stands at the same place belongs together
at_place : {X Y : Type 0} (P : X → Y → Type 0) (xs : List X) (ys : List Y) (k : ℕ) (x : X) (y : Y) → ArePairs P xs ys → slice_get xs k ≡ Some x → slice_get ys k ≡ Some y → P x y
at_place P [] ys k x y are at at' = absurd cc
at_place P (a ∷ xs) [] k x y are at at' = absurd are
at_place P (a ∷ xs) (b ∷ ys) zero x y are at at' =
    let left : a ≡ x = cc in
    let right : b ≡ y = cc in
    rw (← left, ← right) are.0
at_place P (a ∷ xs) (b ∷ ys) (suc k) x y are at at' = at_place P xs ys k x y are.1 at at'

channels_are : (posts : ℕ) (jobs : List JobState) (s : Settings) (items : List Item) (js : List JobState) (parts : List ChannelPart) → ArePairs (IsPartOf posts jobs s items) js parts
    → reported parts ≡ channels_of js
channels_are posts jobs s items [] [] are = refl
channels_are posts jobs s items (j ∷ js) (p ∷ parts) are = rw (are.0.channel, channels_are posts jobs s items js parts are.1) refl
channels_are posts jobs s items [] (p ∷ parts) are = absurd are
channels_are posts jobs s items (j ∷ js) [] are = absurd are

-- ---- one job

agrees_on : PlacedActionsSuffice → (posts : ℕ) (jobs : List JobState) (s : Settings) (items : List Item) (found : List Found) (job : JobState) (part : ChannelPart)
    → IsPartOf posts jobs s items job part → IsReadAs found job part → AgreesOn found job part
agrees_on suffice posts jobs s items found job part is read =
    let same : played job part ≡ records_of job =
    ap (records (job_in job)) is.placed ∙ suffice (job_in job) job.actions part.made (omega (arith, is.made)) in
    record {
      made = is.made ∙ ap (λ (rs : List Record). length rs) (sym same);
      read = read ∙ ap (λ (rs : List Record). map as_message (messages_of (kept_records part.refused rs))) (sym same);
    }

-- ---- all of them

fine : (channels : List ℕ) (items : List Item) → AllByRecursion (λ x. is_one channels (channel_of x) ≡ true) items → AllByRecursion IsItem items
    → AllByRecursion (IsFine (λ c. is_one channels c ≡ true)) items
fine channels [] all sound = tt
fine channels (x ∷ items) all sound = ((all.0, sound.0), fine channels items all.1 sound.1)

only_one : (ps qs : List Found) (bytes : List ℕ) → packets_in bytes ≡ Ok ps → packets_in bytes ≡ Ok qs → ps ≡ qs
only_one ps qs bytes a b = cc

module _ (size : PacketHasItsLength) (header : HeaderIsReadAgain) (messages : MessagesAreReadAgain) (join : RecordingsJoin) (goes_on : FileGoesOn) (suffice : PlacedActionsSuffice)
    (posts : ℕ) (given jobs : List JobState) (s : Settings) (report : RunReport) (bytes : List ℕ) (found : List Found)
    (lawful : AreLawful jobs s) (run : IsRun posts given jobs s report bytes) (readable : packets_in bytes ≡ Ok found) where
  known : AreOfChannels (channels_of jobs) found
  known =
      let channels : List ℕ = channels_of jobs in
      let whole = file_is_known (λ c. is_one channels c ≡ true) size header messages join goes_on (format_of s) run.format s.prologue.items run.items lawful.prologue
      (fine channels run.items (of_these channels run.items run.others) run.sound) in
      subst (AreOfChannels channels) (only_one whole.0 found bytes (ap packets_in run.file ∙ whole.1) readable) whole.2

  pub agrees : Agrees jobs report.channels found
  agrees = record {
    channels = channels_are posts given s run.items jobs report.channels run.parts;
    known = known;
    each = λ k job part at at'.
        agrees_on suffice posts given s run.items found job part
        (at_place (IsPartOf posts given s run.items) jobs report.channels k job part run.parts at at')
        (subst (λ ps. IsReadAs ps job part) (only_one run.found found bytes run.readable readable)
        (at_place (IsReadAs run.found) jobs report.channels k job part run.read at at'));
  }
