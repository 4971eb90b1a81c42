-- How a run begins and ends.
use Rattle.std.proofs.Common.{◌≡◌, ℕ, zero, suc, ◌+◌, ◌<◌, ◌≤◌, Bool, true, false, true≢false, not, ◌||◌, cond, List, [], ◌∷◌, length, map, take, slice_get, Option, Some, None, refl, sym, ap, ◌∙◌, subst, arith, append-nil}
use Rattle.std.specs.Io.KnownBytes.{Appends}
use Rattle.mil_trunk.specs.Tags.{bound_of}
use Rattle.mil_trunk.specs.Views.{with_tag}
use Rattle.job_file.specs.Jobs.{JobState}
use Rattle.bench_report.specs.Reports.{ChannelPart}
use Rattle.bench_run.specs.declared.entry.Entry.{Entry}
use Rattle.bench_run.specs.Entries.{index_of}
use Rattle.bench_run.specs.Runs.{ArePairs}
use Rattle.job_file.specs.Rooms.{most_items}
use Rattle.bench_run.specs.Threads.{IsCountedIn, AreJoined}
use Rattle.ch11_recording.specs.WrittenFile.{Format}
use Rattle.ch11_recording.specs.Recording.{Recording}
use Rattle.bench_run.specs.Writer.{IsLogged}
use Rattle.bench_run.specs.Ending.{IsAll}

-- a sink that was not called has taken nothing
pub nothing_taken : (known : Option (List ℕ)) (bytes : List ℕ) → Appends known known (take 0 bytes)
nothing_taken None bytes = tt
nothing_taken (Some xs) bytes = sym (append-nil xs)

-- what was recorded on some channels, where they are these
pub log_moved : {S : Type 0} (taken : S → Option (List ℕ)) (failures : S → ℕ) (f : Format) (prologue : List ℕ) (before : S) (channels these : List ℕ) (r : Recording S) (whole : Bool)
    → channels ≡ these → IsLogged taken failures f prologue before channels [] r whole → IsLogged taken failures f prologue before these [] r whole
log_moved taken failures f prologue before channels these r whole is logged = subst (λ (l : List ℕ). IsLogged taken failures f prologue before l [] r whole) is logged

-- a first failure
pub first_rises : (old new : Bool) (a b : ℕ) → old ≡ false → b ≡ cond (old || not new) a (a + 1) → (new ≡ true → a < b) × (a ≤ b)
first_rises true new a b sound e = absurd (true≢false sound)
first_rises false true a b sound e = ((λ failed. omega (arith, e)), omega (arith, e))
first_rises false false a b sound e = ((λ failed. absurd (true≢false (sym failed))), omega (arith, e))

low_place : {X : Type 0} (xs : List X) (k : ℕ) (x : X) → slice_get xs k ≡ Some x → k < length xs
low_place [] k x at = absurd cc
low_place (y ∷ xs) zero x at = omega arith
low_place (y ∷ xs) (suc k) x at = let low = low_place xs k x at in omega (arith, low)

no_bound : (most : ℕ) (jobs : List JobState) (t : ℕ) → length jobs ≤ t → bound_of (map (most_items most) jobs) t ≡ 0
no_bound most [] t high = refl
no_bound most (j ∷ jobs) zero high = absurd (omega (arith, high))
no_bound most (j ∷ jobs) (suc t) high = no_bound most jobs t (omega (arith, high))

-- where all that was sent was received, each job's part is known
pub all_got : (capacity queue most : ℕ) (given jobs : List JobState) (parts : List ChannelPart) (sent got : List Entry) (bounds : List ℕ)
    → capacity ≡ queue → length given ≤ 32 → length jobs ≡ length given → bounds ≡ map (most_items most) given
    → ArePairs (IsCountedIn capacity most given) jobs parts → AreJoined capacity most sent given jobs parts
    → ((t : ℕ) → t < 64 → with_tag index_of t sent ≡ with_tag index_of t got)
    → ((t : ℕ) → bound_of bounds t ≡ 0 → with_tag index_of t got ≡ [])
    → IsAll queue most given jobs parts got
all_got capacity queue most given jobs parts sent got bounds same few long bounds_are counted joined settled barred = record {
  counted = subst (λ n. ArePairs (IsCountedIn n most given) jobs parts) same counted;
  own = λ k job part at at'.
      let low = low_place jobs k job at in
      sym (settled k (omega (arith, low, few, long))) ∙ (joined k job part at at').1;
  others = λ t high. barred t (ap (λ bs. bound_of bs t) bounds_are ∙ no_bound most given t (omega (arith, high, long)));
}
