-- The jobs of the texts so far.
use Rattle.std.proofs.Common.{◌≡◌, ℕ, ◌+◌, ◌<◌, ◌≤◌, List, [], ◌∷◌, ◌++◌, length, take, map, sym, ap, ◌∙◌, subst, slice_index_or, Bor, ⊎_elim, arith}
use Rattle.std.specs.Prelude.{false, if◌then◌else◌, Some, Result, Ok, Err, is_ok, is_err, slice_get, option_map}
use Rattle.std.proofs.lemmas.Bool.{cases_lt}
use Rattle.std.proofs.lemmas.List.{take_all, map_more, map-append}
use Rattle.std.proofs.lemmas.Option.{slice_get-map, slice_get-get_or}
use Rattle.std.proofs.lemmas.Simd.{map-map}
use Rattle.text_lines.specs.Words.{Text}
use Rattle.job_file.specs.Jobs.{JobState, job_in}
use Rattle.job_file.specs.Spelled.{written, spelled}
use Rattle.job_file.specs.Reading.{IsJobRefusal}
use Rattle.job_file.specs.Faults.{IsFirstFault}
use Rattle.job_file.specs.Texts.{AreSpelled, IsAccepted, IsFirstRefused}
use Rattle.job_file.specs.declared.error.JobError.{JobError}

abbrev pub SpelledSoFar : List (Bor Text) → List JobState → Type 0
SpelledSoFar texts jobs = map (λ (job : JobState). Some (job_in job)) jobs ≡ map (λ (text : Bor Text). spelled text.now) texts

abbrev pub all_of : List (Bor Text) → List Text
all_of texts = map (λ (text : Bor Text). text.now) texts

-- each of the first so many texts gives a job
abbrev pub AcceptedSoFar : List (Bor Text) → ℕ → Type 0
AcceptedSoFar texts k = (i : ℕ) (earlier : Text) → i < k → slice_get (all_of texts) i ≡ Some earlier → IsAccepted earlier

pub spelled_so_far : (texts : List (Bor Text)) (jobs : List JobState) → SpelledSoFar texts jobs → AreSpelled (all_of texts) (map job_in jobs)
spelled_so_far texts jobs e =
    map-map spelled (λ (text : Bor Text). text.now) texts ∙ sym e ∙ sym (map-map Some job_in jobs)

text_at : (texts : List (Bor Text)) (i : ℕ) (d : Bor Text) → i < length texts → slice_get (all_of texts) i ≡ Some (slice_index_or texts i d).now
text_at texts i d inside =
    slice_get-map (λ (one : Bor Text). one.now) texts i ∙ ap (option_map (λ (one : Bor Text). one.now)) (slice_get-get_or texts i d inside)

pub first_refused : (texts : List (Bor Text)) (i : ℕ) (d : Bor Text) (fault : JobError) → i < length texts → AcceptedSoFar texts i
    → IsJobRefusal (written (slice_index_or texts i d).now) fault → IsFirstFault (slice_index_or texts i d).now fault → IsFirstRefused (all_of texts) i fault
first_refused texts i d fault inside so_far why first = record {
  text = (slice_index_or texts i d).now;
  there = text_at texts i d inside;
  refused = why;
  first = first;
  before = so_far;
}

pub all_spelled : (texts : List (Bor Text)) (jobs : List JobState) (i : ℕ) → length texts ≤ i → SpelledSoFar (take i texts) jobs → AreSpelled (all_of texts) (map job_in jobs)
all_spelled texts jobs i behind e = spelled_so_far texts jobs (e ∙ ap (map (λ (text : Bor Text). spelled text.now)) (take_all i texts behind))

-- what a push that did not fail leaves
pub pushed : {T E X : Type 0} → (r : Result T E) (new old : List X) (x : X) → is_err r ≡ false → new ≡ (if is_ok r then old ++ x ∷ [] else old) → new ≡ old ++ x ∷ []
pushed (Ok y) new old x fine is = is
pushed (Err y) new old x fine is = absurd (cc)

-- one more text that gives a job
module _ (texts : List (Bor Text)) (i : ℕ) (d : Bor Text) (inside : i < length texts) where
  pub one_spelled : (jobs : List JobState) (job : JobState) → SpelledSoFar (take i texts) jobs → spelled (slice_index_or texts i d).now ≡ Some (job_in job)
      → SpelledSoFar (take (i + 1) texts) (jobs ++ job ∷ [])
  one_spelled jobs job so_far is =
      map-append (λ (one : JobState). Some (job_in one)) jobs (job ∷ [])
      ∙ (rw (so_far, sym is) (sym (map_more (λ (text : Bor Text). spelled text.now) texts i d inside)))

  pub one_accepted : AcceptedSoFar texts i → IsAccepted (slice_index_or texts i d).now → AcceptedSoFar texts (i + 1)
  one_accepted so_far here j earlier less there =
      ⊎_elim (λ before. so_far j earlier before there)
      (λ le.
      let same : j ≡ i = omega (arith, le, less) in
      let at : slice_get (all_of texts) i ≡ Some earlier = subst (λ n. slice_get (all_of texts) n ≡ Some earlier) same there in
      let text : Some (slice_index_or texts i d).now ≡ Some earlier = sym (text_at texts i d inside) ∙ at in
      let is : (slice_index_or texts i d).now ≡ earlier = cc in
      subst IsAccepted is here) (cases_lt j i)
