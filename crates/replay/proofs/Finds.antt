-- A recording under the debugger goes to the first message past its place that is met, or to the latest before it.
use Rattle.std.proofs.Common.{◌≡◌, ℕ, suc, ◌≤◌, List, [], ◌∷◌, length, Option, Some, None, refl, sym, ap, ◌∙◌, subst}
use Rattle.std.specs.List.{AllByRecursion, slice_get}
use Rattle.std.specs.Prelude.{Result, Ok, Err, OnOk, IfErr}
use Rattle.frame_tree.specs.Tree.{Condition}
use Rattle.ch11_reader.specs.Recording.{Found}
use Rattle.bench_settings.proofs.Lists.{map_at}
use Rattle.replay.specs.Accord.{kept_in, Agrees}
use Rattle.replay.specs.Places.{heard_channels}
use Rattle.replay.specs.Moves.{ReplayState, at_place, IsNextMet, IsNowhere, IsLatestMet, IsNowhereBefore, PastWhere, IsMemory}
use Rattle.replay.specs.declared.error.ReplayError.{ReplayError}
use Rattle.replay.specs.Tracks.{Pair, jobs_in, parts_in}
use Rattle.replay.specs.Finding.{count_to, IsMetIn, Finds, FindsBack}
use Rattle.replay.proofs.Counting.{room}
use Rattle.replay.proofs.FirstMet.{next_met, nowhere}
use Rattle.replay.proofs.LatestMet.{latest_met, nowhere_before}

all_from : {X : Type 0} (P : X → Type 0) (xs : List X) → ((i : ℕ) (x : X) → slice_get xs i ≡ Some x → P x) → AllByRecursion P xs
all_from P [] each = tt
all_from P (x ∷ xs) each = (each 0 x refl, all_from P xs (λ i y at. each (suc i) y at))

-- no job has more messages in the file than were kept
pub rooms : (pairs tracks : List Pair) (found : List Found) (channels cs : List ℕ) → tracks ≡ pairs → cs ≡ channels → Agrees (jobs_in pairs) (parts_in pairs) found → channels ≡ heard_channels found
    → AllByRecursion (λ (p : Pair). count_to cs (length cs) p.job.channel ≤ length (kept_in p.job p.part)) tracks
rooms pairs tracks found channels cs same same_channels agrees is =
    subst (λ (ps : List Pair). AllByRecursion (λ (p : Pair). count_to cs (length cs) p.job.channel ≤ length (kept_in p.job p.part)) ps) (sym same)
    (subst (λ (xs : List ℕ). AllByRecursion (λ (p : Pair). count_to xs (length xs) p.job.channel ≤ length (kept_in p.job p.part)) pairs) (sym (same_channels ∙ is))
    (all_from (λ (p : Pair). count_to (heard_channels found) (length (heard_channels found)) p.job.channel ≤ length (kept_in p.job p.part)) pairs
    (λ i p at. room found (length (heard_channels found)) p.job p.part
    (agrees.each i p.job p.part (map_at (λ (q : Pair). q.job) pairs i p at) (map_at (λ (q : Pair). q.part) pairs i p at)))))

module _ (pairs tracks : List Pair) (found : List Found) (place : ℕ) (channels cs : List ℕ) (same : tracks ≡ pairs) (same_channels : cs ≡ channels) (test : Condition)
    (is : channels ≡ heard_channels found) where
  found_as : (r : Option ℕ) → Finds place (IsMetIn cs test tracks) r → Finds place (IsMetIn channels test pairs) r
  found_as r f =
      subst (λ (xs : List ℕ). Finds place (IsMetIn xs test pairs) r) same_channels
      (subst (λ (ps : List Pair). Finds place (IsMetIn cs test ps) r) same f)

  pub goes_there : (n : ℕ) → Finds place (IsMetIn cs test tracks) (Some n) → IsNextMet (record { jobs = jobs_in pairs; parts = parts_in pairs; found = found; place = place }) test n
  goes_there n f = next_met pairs found place channels is test n (found_as (Some n) f)

  pub stays : Finds place (IsMetIn cs test tracks) None → IsNowhere (record { jobs = jobs_in pairs; parts = parts_in pairs; found = found; place = place }) test
  stays f = nowhere pairs found place channels is test (found_as None f)

  found_back_as : (r : Option ℕ) → FindsBack place (IsMetIn cs test tracks) r → FindsBack place (IsMetIn channels test pairs) r
  found_back_as r f =
      subst (λ (xs : List ℕ). FindsBack place (IsMetIn xs test pairs) r) same_channels
      (subst (λ (ps : List Pair). FindsBack place (IsMetIn cs test ps) r) same f)

  pub goes_back_there : (n : ℕ) → FindsBack place (IsMetIn cs test tracks) (Some n) → IsLatestMet (record { jobs = jobs_in pairs; parts = parts_in pairs; found = found; place = place }) test n
  goes_back_there n f = latest_met pairs found place channels is test n (found_back_as (Some n) f)

  pub stays_behind : FindsBack place (IsMetIn cs test tracks) None → IsNowhereBefore (record { jobs = jobs_in pairs; parts = parts_in pairs; found = found; place = place }) test
  stays_behind f = nowhere_before pairs found place channels is test (found_back_as None f)

-- a move to it stops there
pub stops_there : {T E : Type 0} (r : Result T E) (old new : ReplayState) (P : ℕ → Type 0) (n : ℕ) → OnOk r (new ≡ at_place n old) → P n → OnOk r (P new.place)
stops_there (Ok x) old new P n moved met = subst P (sym (ap (λ (s : ReplayState). s.place) moved)) met
stops_there (Err e) old new P n moved met = tt

-- want of memory for a move to it, where there is one
pub somewhere : {T : Type 0} (r : Result T ReplayError) (nowhere : Type 0) → IfErr r (λ e. IsMemory e) → ¬ nowhere → IfErr r (λ e. PastWhere nowhere e)
somewhere (Ok x) nowhere memory there = tt
somewhere (Err e) nowhere memory there = subst (PastWhere nowhere) (sym memory) there
