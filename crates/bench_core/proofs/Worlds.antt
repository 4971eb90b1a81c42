-- What the fields of a world keep with each step.
use Rattle.std.proofs.Common.{◌≡◌, ℕ, zero, suc, ◌+◌, List, [], ◌∷◌, ◌++◌, take, drop, slice_get, Some, refl, sym, ap, ◌∙◌, arith, subst}
use Rattle.std.specs.List.{AllByRecursion}
use Rattle.ch11_builder.specs.Held.{Held}
use Rattle.bench_core.specs.declared.step.Step.{Step}
use Rattle.bench_core.specs.Bench.{ChannelState, Bench, begun, stepped, after_steps}
use Rattle.bench_core.specs.Settled.{IsSettled, HasRecorded, ReadsBack, SettledAfterEachStep, ReadsBackAfterEachStep}
use Rattle.bench_core.specs.Channels.{IsMade}
use Rattle.bench_core.specs.World.{WorldState, with_bench, IsReached, IsKeptWorld, IsWhole}
use Rattle.bench_core.proofs.Steps.{IsBench, at_first, after_all}
use Rattle.bench_core.proofs.Tidy.{IsTidy, tidy_first, tidy_all}

pub all_recorded : (channels : List ChannelState) → AllByRecursion IsMade channels → AllByRecursion HasRecorded channels
all_recorded [] all = tt
all_recorded (l ∷ channels) all = (all.0.recorded, all_recorded channels all.1)

-- ---- a bench that was reached

pub reached_bench : (b : Bench) → IsReached b → IsBench b
reached_bench b r = subst IsBench (sym r.is) (after_all (begun r.capacity r.channels) r.steps (at_first r.capacity r.channels r.fresh r.distinct))

pub reached_tidy : (b : Bench) → IsReached b → IsTidy b
reached_tidy b r = subst IsTidy (sym r.is) (tidy_all (begun r.capacity r.channels) r.steps (tidy_first r.capacity r.channels))

pub steps_more : (b : Bench) (steps : List Step) (s : Step) → after_steps (steps ++ s ∷ []) b ≡ stepped s (after_steps steps b)
steps_more b [] s = refl
steps_more b (x ∷ steps) s = steps_more (stepped x b) steps s

pub reached_more : (b : Bench) (s : Step) → IsReached b → IsReached (stepped s b)
reached_more b s r = record {
  channels = r.channels;
  capacity = r.capacity;
  steps = r.steps ++ s ∷ [];
  fresh = r.fresh;
  distinct = r.distinct;
  is = ap (stepped s) r.is ∙ sym (steps_more (begun r.capacity r.channels) r.steps s);
}

pub is_whole : SettledAfterEachStep → ReadsBackAfterEachStep → (slots : ℕ) (builders : List Held) (bytes : List ℕ) (count : ℕ) (w : WorldState) → IsKeptWorld slots builders bytes count w → IsWhole w
is_whole settled read slots builders bytes count w is =
    let r = is.reached in
    record {
      settled = subst (λ (b : Bench). AllByRecursion (IsSettled b) b.channels) (sym r.is) (settled r.channels r.capacity r.steps r.fresh r.distinct);
      read = subst (ReadsBack w.format w.prologue) (sym r.is)
          (read r.channels r.capacity r.steps w.format w.prologue r.fresh r.distinct is.format is.prologue
          (subst (λ (b : Bench). AllByRecursion HasRecorded b.channels) r.is (all_recorded w.bench.channels is.made)));
    }

-- ---- lists from a place on

module _ {X : Type 0} where
  pub from_place : (xs : List X) (i : ℕ) (x : X) → slice_get xs i ≡ Some x → drop i xs ≡ x ∷ drop (i + 1) xs
  from_place [] i x at = absurd cc
  from_place (y ∷ xs) zero x at = let same : y ≡ x = cc in ap (λ (z : X). z ∷ xs) same
  from_place (y ∷ xs) (suc i) x at = let longer : suc (i + 1) ≡ suc i + 1 = omega arith in from_place xs i x at ∙ ap (λ (k : ℕ). x ∷ drop k (y ∷ xs)) longer

-- ---- one step more of a list

take_next : {X : Type 0} (xs : List X) (i : ℕ) (x : X) → slice_get xs i ≡ Some x → take (i + 1) xs ≡ take i xs ++ x ∷ []
take_next [] i x at = absurd cc
take_next {X} (y ∷ xs) zero x at = let same : y ≡ x = cc in ap (λ (z : X). z ∷ []) same
take_next {X} (y ∷ xs) (suc i) x at =
    let longer : suc i + 1 ≡ suc (i + 1) = omega arith in
    ap (λ (k : ℕ). take k (y ∷ xs)) longer ∙ ap (λ (zs : List X). y ∷ zs) (take_next xs i x at)

pub played_more : (first old new : WorldState) (steps : List Step) (i : ℕ) (s : Step) → slice_get steps i ≡ Some s → old ≡ with_bench first (after_steps (take i steps) first.bench)
    → new ≡ with_bench old (stepped s old.bench) → new ≡ with_bench first (after_steps (take (i + 1) steps) first.bench)
played_more first old new steps i s at before is =
    is ∙ ap (λ (w : WorldState). with_bench w (stepped s w.bench)) before
    ∙ ap (with_bench first) (sym (steps_more first.bench (take i steps) s) ∙ ap (λ (ss : List Step). after_steps ss first.bench) (sym (take_next steps i s at)))
