-- A world before any step.
use Rattle.std.proofs.Common.{◌≡◌, ℕ, suc, ◌<◌, ◌≤◌, ◌^◌, List, [], ◌∷◌, length, map, refl, sym, ap, ◌∙◌, arith, subst}
use Rattle.std.specs.List.{AllByRecursion}
use Rattle.ch11_recording.specs.declared.item.Item.{Item}
use Rattle.job_file.specs.Jobs.{JobState}
use Rattle.ch11_builder.specs.Held.{Held, fresh}
use Rattle.ch11_recording.specs.Recording.{AreDistinct}
use Rattle.ch11_recording.specs.Laws.{IsFormat, IsPrologue}
use Rattle.ch11_recording.specs.WrittenFile.{Format, channel_in, held_in, closed_packets}
use Rattle.ch11_recording.proofs.Recordings.{file_of_none}
use Rattle.bench_settings.specs.Lawful.{channels_of}
use Rattle.bench_core.specs.Bench.{ChannelState, begun_channel, begun}
use Rattle.bench_core.specs.Settled.{IsFresh}
use Rattle.bench_core.specs.Channels.{IsMade}
use Rattle.bench_core.specs.World.{IsKeptWorld}
use Rattle.bench_core.proofs.Fields.{state}

abbrev pub begun_of : List JobState → List ChannelState
begun_of jobs = map begun_channel jobs

same_channels : (jobs : List JobState) → map (λ (l : ChannelState). l.channel) (begun_of jobs) ≡ channels_of jobs
same_channels [] = refl
same_channels (j ∷ jobs) = ap (λ (cs : List ℕ). j.channel ∷ cs) (same_channels jobs)

all_fresh : (jobs : List JobState) → AllByRecursion (λ (j : JobState). j.channel < 2 ^ 16) jobs → AllByRecursion IsFresh (begun_of jobs)
all_fresh [] low = tt
all_fresh (j ∷ jobs) low = (record { channel = low.0; made = refl; refused = refl }, all_fresh jobs low.1)

none_made : (jobs : List JobState) → AllByRecursion IsMade (begun_of jobs)
none_made [] = tt
none_made (j ∷ jobs) = (record { recorded = tt; few = omega arith }, none_made jobs)

none_held : (f : Format) (jobs : List JobState) → map (λ (j : JobState). fresh (channel_in f j.channel)) jobs ≡ map (λ (l : ChannelState). held_in f l.channel []) (begun_of jobs)
none_held f [] = refl
none_held f (j ∷ jobs) = ap (λ (hs : List Held). fresh (channel_in f j.channel) ∷ hs) (none_held f jobs)

as_many : (jobs : List JobState) → length (begun_of jobs) ≡ length jobs
as_many [] = refl
as_many (j ∷ jobs) = ap suc (as_many jobs)

no_packets : (f : Format) → 0 ≡ length (closed_packets f [])
unfolding closed_packets
no_packets f = refl

pub begun_kept : (f : Format) (prologue : List ℕ) (most : ℕ) (jobs : List JobState) (capacity slots : ℕ) → AllByRecursion (λ (j : JobState). j.channel < 2 ^ 16) jobs → AreDistinct (channels_of jobs)
    → IsFormat f → IsPrologue prologue → length jobs ≤ 32 → capacity ≤ slots
    → IsKeptWorld slots (map (λ (j : JobState). fresh (channel_in f j.channel)) jobs) prologue 0 (state f prologue most (begun_of jobs) capacity [] [])
begun_kept f prologue most jobs capacity slots low distinct format first few room = record {
  reached = record {
    channels = begun_of jobs;
    capacity = capacity;
    steps = [];
    fresh = all_fresh jobs low;
    distinct = subst AreDistinct (sym (same_channels jobs)) distinct;
    is = refl;
  };
  made = none_made jobs;
  format = format;
  prologue = first;
  held = none_held f jobs;
  file = sym (file_of_none f prologue);
  packets = no_packets f;
  few = omega (arith, as_many jobs, few);
  room = room;
}

module _ (f : Format) (prologue : List ℕ) (most : ℕ) (jobs : List JobState) (capacity : ℕ) (ls : List ChannelState) (queue taken : List Item) (shown : List ℕ)
    (channels : ls ≡ begun_of jobs) (no_items : queue ≡ []) (none_taken : taken ≡ []) (same : shown ≡ prologue) where
  pub begun_is : state f shown most ls capacity queue taken
      ≡ record { format = f; prologue = prologue; most = most; bench = begun capacity (map begun_channel jobs) }
  begun_is =
      ap (λ (bytes : List ℕ). state f bytes most ls capacity queue taken) same
      ∙ ap (λ (bs : List ChannelState). state f prologue most bs capacity queue taken) channels
      ∙ ap (λ (xs : List Item). state f prologue most (begun_of jobs) capacity xs taken) no_items
      ∙ ap (λ (xs : List Item). state f prologue most (begun_of jobs) capacity [] xs) none_taken

  pub begun_fields : (slots : ℕ) (builders : List Held) (bytes : List ℕ) → builders ≡ map (λ (j : JobState). fresh (channel_in f j.channel)) jobs → bytes ≡ prologue
      → AllByRecursion (λ (j : JobState). j.channel < 2 ^ 16) jobs → AreDistinct (channels_of jobs) → IsFormat f → IsPrologue prologue → length jobs ≤ 32 → capacity ≤ slots
      → IsKeptWorld slots builders bytes 0 (state f shown most ls capacity queue taken)
  begun_fields slots builders bytes held file low distinct format first few room =
      subst (λ (ps : List ℕ). IsKeptWorld slots builders bytes 0 (state f ps most ls capacity queue taken)) (sym same)
      (subst (λ (bs : List ChannelState). IsKeptWorld slots builders bytes 0 (state f prologue most bs capacity queue taken)) (sym channels)
      (subst (λ (xs : List Item). IsKeptWorld slots builders bytes 0 (state f prologue most (begun_of jobs) capacity xs taken)) (sym no_items)
      (subst (λ (xs : List Item). IsKeptWorld slots builders bytes 0 (state f prologue most (begun_of jobs) capacity [] xs)) (sym none_taken)
      (subst (λ (hs : List Held). IsKeptWorld slots hs bytes 0 (state f prologue most (begun_of jobs) capacity [] [])) (sym held)
      (subst (λ (bs : List ℕ). IsKeptWorld slots (map (λ (j : JobState). fresh (channel_in f j.channel)) jobs) bs 0 (state f prologue most (begun_of jobs) capacity [] [])) (sym file)
      (begun_kept f prologue most jobs capacity slots low distinct format first few room))))))
