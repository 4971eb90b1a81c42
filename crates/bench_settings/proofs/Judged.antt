-- Channels that are named once or twice.
use Rattle.std.proofs.Common.{◌≡◌, ◌≢◌, ℕ, Bool, true, false, ◌||◌, eqb, List, [], ◌∷◌, refl, sym, ◌∙◌}
use Rattle.std.specs.List.{AllByRecursion, list_any}
use Rattle.std.proofs.lemmas.Bool.{eq-eqb, eqb-true}
use Rattle.ch11_recording.specs.Recording.{AreDistinct}
use Rattle.job_file.specs.Jobs.{JobState}
use Rattle.bench_settings.specs.Lawful.{channels_of}

-- one of these jobs has a channel
abbrev pub has_channel : ℕ → List JobState → Bool
has_channel channel jobs = list_any (λ (j : JobState). eqb j.channel channel) jobs

others_apart : (channel : ℕ) (jobs : List JobState) → has_channel channel jobs ≡ false → AllByRecursion (λ other. other ≢ channel) (channels_of jobs)
others_apart channel [] none = tt
others_apart channel (j ∷ jobs) none =
    let parts = or_none (eqb j.channel channel) (has_channel channel jobs) none in
    (λ same. absurd (let wrong : true ≡ false = sym (eq-eqb j.channel channel same) ∙ parts.0 in cc), others_apart channel jobs parts.1)
  where
    or_none : (a b : Bool) → (a || b) ≡ false → (a ≡ false) × (b ≡ false)
    or_none true b e = absurd cc
    or_none false b e = (refl, e)

not_apart : (channel : ℕ) (jobs : List JobState) → has_channel channel jobs ≡ true → ¬ AllByRecursion (λ other. other ≢ channel) (channels_of jobs)
not_apart channel [] some all = absurd cc
not_apart channel (j ∷ jobs) some all = by_case (eqb j.channel channel) refl some all (not_apart channel jobs)
  where
    by_case : (b : Bool) → eqb j.channel channel ≡ b → (b || has_channel channel jobs) ≡ true → (j.channel ≢ channel) × AllByRecursion (λ other. other ≢ channel) (channels_of jobs)
        → (has_channel channel jobs ≡ true → ¬ AllByRecursion (λ other. other ≢ channel) (channels_of jobs)) → ⊥
    by_case true e some all later = all.0 (eqb-true j.channel channel e)
    by_case false e some all later = later some all.1

pub distinct_more : (j : JobState) (jobs : List JobState) → has_channel j.channel jobs ≡ false → AreDistinct (channels_of jobs) → AreDistinct (channels_of (j ∷ jobs))
distinct_more j jobs none distinct = (others_apart j.channel jobs none, distinct)

pub distinct_less : (j : JobState) (jobs : List JobState) → AreDistinct (channels_of (j ∷ jobs)) → AreDistinct (channels_of jobs)
distinct_less j jobs distinct = distinct.1

pub not_distinct : (j : JobState) (jobs : List JobState) → has_channel j.channel jobs ≡ true → ¬ AreDistinct (channels_of (j ∷ jobs))
not_distinct j jobs some distinct = not_apart j.channel jobs some distinct.0
