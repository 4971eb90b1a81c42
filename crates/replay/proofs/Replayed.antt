-- A recording under the debugger, as it is opened and moved.
use Rattle.std.proofs.Common.{◌≡◌, ℕ, ◌≤◌, ◌%◌, List, length, sym, ap, ◌∙◌, subst, arith}
use Rattle.std.proofs.lemmas.Option.{slice_get_within}
use Rattle.job_file.specs.Jobs.{JobState}
use Rattle.ch11_reader.specs.Recording.{Found}
use Rattle.bench_report.specs.Reports.{ChannelPart}
use Rattle.bench_settings.specs.Lawful.{channels_of}
use Rattle.bench_settings.proofs.Lists.{map_at}
use Rattle.replay.specs.declared.timeline.Timeline.{Timeline}
use Rattle.replay.specs.Accord.{Agrees, AreOfChannels, reported}
use Rattle.replay.specs.Opening.{AgreeBefore}
use Rattle.replay.specs.Places.{heard_channels}
use Rattle.replay.specs.Moves.{ReplayState}
use Rattle.replay.specs.Tracks.{Pair, jobs_in, parts_in}
use Rattle.replay.specs.Standings.{HaveNoExtraMessages, IsTimeline}
use Rattle.replay.specs.Replaying.{IsReplay}
use Rattle.replay.proofs.Counting.{room}

pub agreed : (jobs : List JobState) (parts : List ChannelPart) (found : List Found) → reported parts ≡ channels_of jobs → AreOfChannels (channels_of jobs) found
    → AgreeBefore found jobs parts (length jobs) → Agrees jobs parts found
agreed jobs parts found channels known each = record {
  channels = channels;
  known = known;
  each = λ index job part j q. each index job part (slice_get_within jobs index job j) j q;
}

-- no job has more messages in the file than were kept
pub have_room : (pairs : List Pair) (found : List Found) (channels : List ℕ) → Agrees (jobs_in pairs) (parts_in pairs) found → channels ≡ heard_channels found → HaveNoExtraMessages pairs channels
have_room pairs found channels agrees is =
    subst (HaveNoExtraMessages pairs) (sym is)
    (λ i p at. room found (length (heard_channels found)) p.job p.part
    (agrees.each i p.job p.part (map_at (λ (q : Pair). q.job) pairs i p at) (map_at (λ (q : Pair). q.part) pairs i p at)))

abbrev pub state_at : Timeline → List Found → ℕ → ReplayState
state_at t found place = record { jobs = jobs_in t.tracks.items; parts = parts_in t.tracks.items; found = found; place = place }

module _ (t new : Timeline) (found : List Found) (place replayed : ℕ) (tracks : new.tracks ≡ t.tracks) (channels : new.channels ≡ t.channels)
    (is : IsReplay (state_at t found place) t replayed) where
  agrees : Agrees (jobs_in new.tracks.items) (parts_in new.tracks.items) found
  agrees = rw (tracks) is.agrees

  channels_are : new.channels.items ≡ heard_channels found
  channels_are = ap (λ v. v.items) channels ∙ is.channels_are

  pub is_within : (n : ℕ) → n ≤ length (heard_channels found) → n ≤ length t.channels.items
  is_within n le = omega (arith, le, ap length is.channels_are)

  pub moved : (n played : ℕ) → n ≤ length (heard_channels found) → IsTimeline new n → played ≤ n % 64 → IsReplay (state_at new found n) new played
  moved n played le stands few = record {
    agrees = agrees;
    channels_are = channels_are;
    place = omega (arith, le, ap length channels_are);
    stands = stands;
    few = few;
  }

  pub stayed : IsTimeline new place → IsReplay (state_at new found place) new replayed
  stayed stands = record {
    agrees = agrees;
    channels_are = channels_are;
    place = omega (arith, is.place, ap length is.channels_are, ap length channels_are);
    stands = stands;
    few = is.few;
  }

pub agreed_pairs : (pairs : List Pair) (jobs : List JobState) (parts : List ChannelPart) (found : List Found) → jobs_in pairs ≡ jobs → parts_in pairs ≡ parts → Agrees jobs parts found
    → Agrees (jobs_in pairs) (parts_in pairs) found
agreed_pairs pairs jobs parts found js ps agrees =
    subst (λ (xs : List JobState). Agrees xs (parts_in pairs) found) (sym js) (subst (λ (xs : List ChannelPart). Agrees jobs xs found) (sym ps) agrees)

pub opened : (t : Timeline) (pairs : List Pair) (found : List Found) (channels : List ℕ) → t.tracks.items ≡ pairs → t.channels.items ≡ channels → Agrees (jobs_in pairs) (parts_in pairs) found
    → channels ≡ heard_channels found → IsTimeline t 0 → IsReplay (state_at t found 0) t 0
opened t pairs found channels tracks all agrees are stands = record {
  agrees = subst (λ (ps : List Pair). Agrees (jobs_in ps) (parts_in ps) found) (sym tracks) agrees;
  channels_are = all ∙ are;
  place = omega arith;
  stands = stands;
  few = omega arith;
}
