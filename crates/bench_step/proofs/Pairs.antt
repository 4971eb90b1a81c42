-- The lines of all channels, one after the other.
use Rattle.std.proofs.Common.{◌≡◌, ℕ, zero, suc, ◌<◌, ◌≤◌, List, [], ◌∷◌, ◌++◌, length, take, map, refl, sym, ap, ◌∙◌, append_assoc, append-nil, arith, Some, slice_get, get_or, flat_map, zip}
use Rattle.text_lines.specs.Words.{Text}
use Rattle.job_file.specs.Jobs.{JobState}
use Rattle.ch11_reader.specs.Recording.{Found}
use Rattle.bench_report.specs.Reports.{ChannelPart}
use Rattle.replay.specs.Accord.{Agrees}

abbrev pub Pair : Type 0
Pair = JobState × ChannelPart

-- the job and the part at an index
pub record IsPairAt (jobs : List JobState) (parts : List ChannelPart) (i : ℕ) : Type 0 where
  pub job : JobState
  pub part : ChannelPart
  pub job_there : slice_get jobs i ≡ Some job
  pub part_there : slice_get parts i ≡ Some part
  -- one more pair behind those before it
  pub more : (f : Pair → Text) → flat_map f (take (suc i) (zip jobs parts)) ≡ flat_map f (take i (zip jobs parts)) ++ f (job, part)

pub pair_at : (jobs : List JobState) (parts : List ChannelPart) (i : ℕ) → length parts ≡ length jobs → i < length jobs → IsPairAt jobs parts i
pair_at [] parts i same lt = absurd (omega arith)
pair_at (j ∷ jobs) [] i same lt = absurd (omega arith)
pair_at (j ∷ jobs) (p ∷ parts) zero same lt = record { job = j; part = p; job_there = refl; part_there = refl; more = λ f. append-nil (f (j, p)) }
pair_at (j ∷ jobs) (p ∷ parts) (suc i) same lt =
    let r = pair_at jobs parts i (omega arith) (omega arith) in
    record {
      job = r.job;
      part = r.part;
      job_there = r.job_there;
      part_there = r.part_there;
      more = λ f. ap (λ (l : Text). f (j, p) ++ l) (r.more f) ∙ sym (append_assoc (f (j, p)) (flat_map f (take i (zip jobs parts))) (f (r.job, r.part)));
    }

-- as many parts as jobs
pub same_count : (jobs : List JobState) (parts : List ChannelPart) (found : List Found) → Agrees jobs parts found → length parts ≡ length jobs
same_count jobs parts found agrees = counted parts jobs agrees.channels
  where
    counted : (parts : List ChannelPart) (jobs : List JobState) → map (λ (p : ChannelPart). p.channel) parts ≡ map (λ (j : JobState). j.channel) jobs → length parts ≡ length jobs
    counted [] [] is = refl
    counted [] (j ∷ jobs) is = cc
    counted (p ∷ parts) [] is = cc
    counted (p ∷ parts) (j ∷ jobs) is = ap suc (counted parts jobs cc)

-- all pairs
pub all_pairs : (jobs : List JobState) (parts : List ChannelPart) → length parts ≡ length jobs → take (length jobs) (zip jobs parts) ≡ zip jobs parts
all_pairs [] parts same = refl
all_pairs (j ∷ jobs) [] same = absurd (omega arith)
all_pairs (j ∷ jobs) (p ∷ parts) same = ap (λ (l : List Pair). (j, p) ∷ l) (all_pairs jobs parts (omega arith))

-- what stands at an index
pub read_part : (parts : List ChannelPart) (i : ℕ) (p part : ChannelPart) → slice_get parts i ≡ Some part → get_or parts i p ≡ part
read_part [] i p part there = absurd cc
read_part (q ∷ qs) zero p part there = cc
read_part (q ∷ qs) (suc i) p part there = read_part qs i p part there

-- nothing stands past the end
pub no_part : (parts : List ChannelPart) (i : ℕ) (part : ChannelPart) → length parts ≤ i → slice_get parts i ≡ Some part → ⊥
no_part [] i part past there = cc
no_part (q ∷ qs) zero part past there = omega arith
no_part (q ∷ qs) (suc i) part past there = no_part qs i part (omega arith) there
