-- Where there is a first difference, there is no accord.
use Rattle.std.proofs.Common.{◌≡◌, ℕ, ◌≤◌, true, false, List, [], ◌∷◌, ◌++◌, length, Some, sym, ap, ◌∙◌, subst, ⊎_elim, arith}
use Rattle.std.specs.List.{slice_get}
use Rattle.std.proofs.lemmas.List.{length-map, take_all}
use Rattle.job_file.specs.Jobs.{JobState}
use Rattle.ch11_f1.specs.Again.{as_message}
use Rattle.ch11_builder.specs.Packet.{Numbered, messages_of}
use Rattle.ch11_reader.specs.Recording.{Found, holds_messages}
use Rattle.ch11_reader.specs.Contents.{reading}
use Rattle.bench_report.specs.Reports.{ChannelPart}
use Rattle.bench_settings.specs.Lawful.{channels_of}
use Rattle.bench_settings.specs.Kept.{kept_records}
use Rattle.bench_settings.proofs.Lists.{map_at}
use Rattle.replay.specs.Accord.{reported, played, kept_in, is_one, AreOfChannels, AgreesOn, Agrees}
use Rattle.replay.specs.Differences.{IsWrongChannel, IsStranger, awaited, IsUnlike, IsLeftOver, IsMiscounted, IsAtFault, IsFirstJob, IsFirstDifference}

-- what is said of all holds of one
behind : (channels : List ℕ) (before : List Found) (p : Found) (later : List Found) → AreOfChannels channels (before ++ p ∷ later)
    → holds_messages p.header ≡ true → is_one channels p.header.channel ≡ true
behind channels [] p later all = all.0
behind channels (q ∷ before) p later all = behind channels before p later all.1

-- all that were made are awaited
pub awaited_all : (job : JobState) (part : ChannelPart) → part.made ≡ length (played job part) → awaited job part ≡ kept_in job part
awaited_all job part made =
    let short : length (played job part) ≤ part.made = omega (arith, made) in
    ap (kept_records part.refused) (take_all part.made (played job part) short)

-- an accord leaves no number at fault
pub faultless : (found : List Found) (job : JobState) (part : ChannelPart) (number : ℕ) → AgreesOn found job part → ¬ IsAtFault found job part number
faultless found job part number agrees fault =
    ⊎_elim unlike (λ other. ⊎_elim left_over miscounted other) fault
  where
    same : awaited job part ≡ kept_in job part
    same = awaited_all job part agrees.made

    unlike : IsUnlike found job part number → ⊥
    unlike u =
        let there : slice_get (kept_in job part) u.place ≡ Some _ = ap (λ (ns : List Numbered). slice_get ns u.place) (sym same) ∙ u.kept in
        u.unlike (ap (λ ms. slice_get ms u.place) agrees.read
        ∙ map_at as_message (messages_of (kept_in job part)) u.place u.message
        (map_at (λ (n : Numbered). n.message) (kept_in job part) u.place _ there))

    left_over : IsLeftOver found job part number → ⊥
    left_over l =
        let longer : length (reading found job.channel) ≡ length (kept_in job part) =
        ap length agrees.read
        ∙ length-map (messages_of (kept_in job part)) as_message
        ∙ length-map (kept_in job part) (λ (m : Numbered). m.message) in
        absurd (omega (arith, l.more, longer, ap length same))

    miscounted : IsMiscounted job part number → ⊥
    miscounted m = m.wrong agrees.made

pub excluded : (jobs : List JobState) (parts : List ChannelPart) (found : List Found) (channel number : ℕ)
    → IsFirstDifference jobs parts found channel number → ¬ Agrees jobs parts found
excluded jobs parts found channel number first agrees =
    ⊎_elim (λ w. wrong w.1) (λ other. ⊎_elim (λ s. stranger s.2) (λ j. of_job j.2) other) first
  where
    wrong : IsWrongChannel (channels_of jobs) (reported parts) channel → ⊥
    wrong w = w.differ (ap (λ (cs : List ℕ). slice_get cs w.place) agrees.channels)

    stranger : IsStranger (channels_of jobs) found channel → ⊥
    stranger s =
        let all : AreOfChannels (channels_of jobs) (s.before ++ s.packet ∷ s.later) = subst (AreOfChannels (channels_of jobs)) s.file agrees.known in
        let known : is_one (channels_of jobs) s.packet.header.channel ≡ true = behind (channels_of jobs) s.before s.packet s.later all s.messages in
        absurd (let wrong : true ≡ false = sym known ∙ s.unknown in cc)

    of_job : IsFirstJob jobs parts found channel number → ⊥
    of_job j = faultless found j.job j.part number (agrees.each j.index j.job j.part j.job_there j.part_there) j.first.fault
