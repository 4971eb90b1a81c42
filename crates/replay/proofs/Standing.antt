-- The controllers of all jobs: played on, kept, and taken back.
use Rattle.std.proofs.Common.{◌≡◌, ℕ, ◌+◌, ◌-◌, ◌<◌, ◌≤◌, List, [], ◌∷◌, ◌++◌, cond, length, map, take, drop, Option, Some, None, sym, ap, ◌∙◌, subst, ⊎_elim, arith}
use Rattle.std.specs.List.{slice_get, slice_set, count_by}
use Rattle.std.specs.Option.{IfSome, IfNone}
use Rattle.std.proofs.Math.Seq.{take-add}
use Rattle.std.proofs.lemmas.Bool.{cases_lt}
use Rattle.std.proofs.lemmas.List.{length-set, length-map, take_all}
use Rattle.std.proofs.lemmas.List.Sums.{sum_by-append, sum_by-take-le}
use Rattle.std.proofs.lemmas.Option.{slice_get_within}
use Rattle.circular_buffer.proofs.Places.{slice_get-set_other, slice_get-some}
use Rattle.frame_tree.specs.Bounds.{IsSound}
use Rattle.ch11_f1.specs.declared.Record.{Record}
use Rattle.bc_machine.specs.declared.placed.Placed.{Placed}
use Rattle.bc_machine.specs.Running.{MachineState}
use Rattle.bc_machine.specs.Alike.{AreAlike}
use Rattle.job_file.specs.Spelled.{ChannelJob}
use Rattle.job_file.specs.Jobs.{JobState, tree_in, job_in}
use Rattle.job_file.specs.Meaning.{records}
use Rattle.job_file.specs.Machines.{IsOf, IsLatestOutcome}
use Rattle.ch11_recording.specs.Items.{last_number}
use Rattle.bench_report.specs.Reports.{ChannelPart}
use Rattle.bench_settings.proofs.Lists.{map_at}
use Rattle.replay.specs.declared.standings.Standing.{Standing}
use Rattle.replay.specs.declared.standings.Kept.{Kept}
use Rattle.replay.specs.Accord.{played, kept_in}
use Rattle.replay.specs.Finding.{count_to}
use Rattle.replay.specs.Tracks.{Pair, jobs_in, parts_in, IsThere}
use Rattle.replay.specs.Standings.{IsAt, AreOf, AreAt, AreUpTo, AreRestored, saved_of, AreKept, AreFirst, AreBegun}
use Rattle.replay.proofs.Counting.{is_of}
use Rattle.replay.proofs.Lists.{one_of, each_more, each_set, each_mapped}

-- ---- one job

-- one message more
pub played_one : (job : JobState) (part : ChannelPart) (n : ℕ) (m next : MachineState) (r : Option Record) → IsSound (tree_in job) → IsThere job part n m
    → ((j : ChannelJob) (placed : List Placed) → IsOf j placed m → IsOf j placed next) → (IsLatestOutcome m → IsLatestOutcome next) → IfSome r (λ _. next.point.number ≡ m.point.number + 1)
    → IfNone r ((j : ChannelJob) (placed : List Placed) → IsSound j.tree → IsOf j placed m → m.point.number ≡ length (records j placed))
    → n < length (played job part) → IsThere job part (n + 1) next
played_one job part n m next (Some r) sound is of told more all less =
    record { of_job = of (job_in job) part.placed is.of_job; number_is = more ∙ ap (λ k. k + 1) is.number_is; told = told is.told }
played_one job part n m next None sound is of told more all less =
    let end : m.point.number ≡ length (played job part) = all (job_in job) part.placed sound is.of_job in
    absurd (omega (arith, end, is.number_is, less))

-- so many messages of a channel stand before a later place
pub counted_on : (channel from to : ℕ) (cs : List ℕ) → from ≤ to
    → count_to cs from channel + count_by (is_of channel) (take (to - from) (drop from cs)) ≡ count_to cs to channel
counted_on channel from to cs le =
    let far : from + (to - from) ≡ to = omega (arith, le) in
    sym (sum_by-append (λ c. cond (is_of channel c) 1 0) (take from cs) (take (to - from) (drop from cs)))
    ∙ ap (count_by (is_of channel)) (sym (take-add from (to - from) cs))
    ∙ ap (λ n. count_by (is_of channel) (take n cs)) far

pub counts_within : (channel place : ℕ) (cs : List ℕ) → count_to cs place channel ≤ count_to cs (length cs) channel
counts_within channel place cs =
    let whole : count_to cs (length cs) channel ≡ count_by (is_of channel) cs = ap (count_by (is_of channel)) (take_all (length cs) cs (omega arith)) in
    omega (arith, whole, sum_by-take-le (λ c. cond (is_of channel c) 1 0) cs place)

-- so many of a channel were heard there
pub heard_on : (own channel from to heard more : ℕ) (cs : List ℕ) → heard ≡ count_to cs from channel → more ≡ count_by (is_of own) (take (to - from) (drop from cs)) → own ≡ channel → from ≤ to
    → heard + more ≡ count_to cs to channel
heard_on own channel from to heard more cs is more_is same le =
    let whole = counted_on channel from to cs le in
    let here : more ≡ count_by (is_of channel) (take (to - from) (drop from cs)) = more_is ∙ ap (λ (c : ℕ). count_by (is_of c) (take (to - from) (drop from cs))) same in
    omega (arith, is, here, whole)

-- ---- all jobs

module _ (pairs : List Pair) (channels : List ℕ) where
  pub up_to_begins : (from to : ℕ) (all : List Standing) → AreAt pairs channels from all → AreUpTo pairs channels from to 0 all
  up_to_begins from to all is = record {
    long = is.long;
    there = λ i p s less j k. absurd (omega (arith, less));
    left = λ i p s le j k. is.each i p s j k;
  }

  pub up_to_more : (from to n : ℕ) (all : List Standing) (p : Pair) (new : Standing) → AreUpTo pairs channels from to n all → n < length all → slice_get pairs n ≡ Some p
      → IsAt channels to p new.heard new.machine → AreUpTo pairs channels from to (n + 1) (slice_set all n new)
  up_to_more from to n all p new is less here at = record {
    long = length-set all n new ∙ is.long;
    there = λ i q s low j k.
        each_set (λ x (y : Standing). (o : Pair) → x < n + 1 → slice_get pairs x ≡ Some o → IsAt channels to o y.heard y.machine) all n new less
        (λ o small there. subst (λ (v : Pair). IsAt channels to v new.heard new.machine) (one_of p o (sym here ∙ there)) at)
        (λ x y other there o small at_x. is.there x o y (let smaller : x < n = ⊎_elim (λ l. l) (λ over. absurd (other (let e : x ≡ n = omega (arith, over, small) in e))) (cases_lt x n) in smaller) at_x there)
        i s k q low j;
    left = λ i q s high j k.
        is.left i q s (omega (arith, high)) j
        (sym (slice_get-set_other all n i new (λ e. absurd (omega (arith, e, high)))) ∙ k);
  }

  pub up_to_ends : (from to n : ℕ) (all : List Standing) → AreUpTo pairs channels from to n all → length pairs ≤ n → AreAt pairs channels to all
  up_to_ends from to n all is le = record {
    long = is.long;
    each = λ i p s j k. is.there i p s (let within : i < length pairs = slice_get_within pairs i p j in omega (arith, within, le)) j k;
  }

  -- where they stand at a place, they are the jobs'
  pub of_jobs : (place : ℕ) (all : List Standing) → AreAt pairs channels place all → AreOf pairs all
  of_jobs place all is = record { long = is.long; each = λ i p s j k. (is.each i p s j k).there.of_job }

  -- what is kept of them stands there too
  pub kept_there : (place : ℕ) (all : List Standing) (kept : List Kept) → AreAt pairs channels place all → kept ≡ map saved_of all → AreKept pairs channels place kept
  kept_there place all kept is same =
      subst (AreKept pairs channels place) (sym same)
      (record {
        long = length-map all saved_of ∙ is.long;
        each = λ i p k j at. each_mapped saved_of (λ n (x : Kept). (q : Pair) → slice_get pairs n ≡ Some q → IsAt channels place q x.heard x.saved) all
            (λ n s there q pair. is.each n q s pair there) i k at p j;
      })

-- two controllers of one job were started alike
pub alike : (job : JobState) (part : ChannelPart) (a b : MachineState) → IsOf (job_in job) part.placed a → IsOf (job_in job) part.placed b → AreAlike a b
alike job part a b of_a of_b = record {
  code = of_a.code ∙ sym of_b.code;
  plan = of_a.plan ∙ sym of_b.plan;
  placed = of_a.actions ∙ sym of_b.actions;
  begun = of_a.begun ∙ sym of_b.begun;
}

-- ---- taken to a place

module _ (pairs : List Pair) (channels : List ℕ) (place : ℕ) (kept : List Kept) (are : AreKept pairs channels place kept) where
  pub restored_begins : (all : List Standing) → AreOf pairs all → AreRestored pairs kept 0 all
  restored_begins all of = record { of = of; there = λ i s k less at of_k. absurd (omega (arith, less)) }

  pub alike_at : (n : ℕ) (all : List Standing) (s : Standing) (k : Kept) → AreOf pairs all → n < length kept → slice_get all n ≡ Some s → slice_get kept n ≡ Some k
      → AreAlike s.machine k.saved
  alike_at n all s k of less at of_k =
      let there = slice_get-some pairs n (omega (arith, less, are.long)) in
      alike there.0.job there.0.part s.machine k.saved (of.each n there.0 s there.1 at) (are.each n there.0 k there.1 of_k).there.of_job

  pub restored_more : (n : ℕ) (all : List Standing) (k : Kept) (new : Standing) → AreRestored pairs kept n all → n < length all → slice_get kept n ≡ Some k → saved_of new ≡ k
      → AreRestored pairs kept (n + 1) (slice_set all n new)
  restored_more n all k new is less at same = record {
    of = record {
      long = length-set all n new ∙ is.of.long;
      each = λ i p s j there.
          each_set (λ x (y : Standing). (q : Pair) → slice_get pairs x ≡ Some q → IsOf (job_in q.job) q.part.placed y.machine) all n new less
          (λ q pair. subst (λ (v : Kept). IsOf (job_in q.job) q.part.placed v.saved) (sym same) (are.each n q k pair at).there.of_job)
          (λ x y other at_y q pair. is.of.each x q y pair at_y)
          i s there p j;
    };
    there = λ i s o low there of_o.
        each_set (λ x (y : Standing). (q : Kept) → x < n + 1 → slice_get kept x ≡ Some q → saved_of y ≡ q) all n new less
        (λ q small there_q. same ∙ one_of k q (sym at ∙ there_q))
        (λ x y other at_y q small there_q. is.there x y q (let smaller : x < n = ⊎_elim (λ l. l) (λ over. absurd (other (let e : x ≡ n = omega (arith, over, small) in e))) (cases_lt x n) in smaller) at_y there_q)
        i s there o low of_o;
  }

  pub restored_ends : (n : ℕ) (all : List Standing) → AreRestored pairs kept n all → length kept ≤ n → AreAt pairs channels place all
  restored_ends n all is le = record {
    long = is.of.long;
    each = λ i p s j at.
        let within : i < length pairs = slice_get_within pairs i p j in
        let k = slice_get-some kept i (omega (arith, within, are.long)) in
        subst (λ (v : Kept). IsAt channels place p v.heard v.saved) (sym (is.there i s k.0 (omega (arith, within, are.long, le)) at k.1)) (are.each i p k.0 j k.1);
  }

-- ---- before any message

pub begun_at : (pairs : List Pair) (jobs : List JobState) (parts : List ChannelPart) (channels : List ℕ) (all : List Standing) → jobs_in pairs ≡ jobs → parts_in pairs ≡ parts → AreBegun jobs parts all
    → AreAt pairs channels 0 all
begun_at pairs jobs parts channels all same_jobs same_parts begun =
    let here : AreBegun (jobs_in pairs) (parts_in pairs) all = subst (λ (ps : List ChannelPart). AreBegun (jobs_in pairs) ps all) (sym same_parts) (subst (λ (js : List JobState). AreBegun js parts all) (sym same_jobs) begun) in
    record {
      long = here.long ∙ length-map pairs (λ (p : Pair). p.job);
      each = λ i p s j at.
          let is = here.each i p.job p.part s (map_at (λ (q : Pair). q.job) pairs i p j) (map_at (λ (q : Pair). q.part) pairs i p j) at in
          record {
            heard_is = is.0;
            there = subst (λ n. IsThere p.job p.part (last_number (take n (kept_in p.job p.part))) s.machine) (sym is.0) is.1;
          };
    }

pub first_more : (jobs : List JobState) (parts : List ChannelPart) (all : List Standing) (job : JobState) (part : ChannelPart) (s : Standing) (n : ℕ) → AreFirst jobs parts all → length all ≡ n
    → slice_get jobs n ≡ Some job → slice_get parts n ≡ Some part → s.heard ≡ 0 → IsThere job part 0 s.machine → AreFirst jobs parts (all ++ s ∷ [])
first_more jobs parts all job part s n first long of_job of_part heard there i j p x at_job at_part at =
    each_more (λ k (y : Standing). (o : JobState) (q : ChannelPart) → slice_get jobs k ≡ Some o → slice_get parts k ≡ Some q → (y.heard ≡ 0) × IsThere o q 0 y.machine) all s
    (λ k y there_y o q at_o at_q. first k o q y at_o at_q there_y)
    (λ o q at_o at_q. (
      heard,
      subst (λ (v : ChannelPart). IsThere o v 0 s.machine) (one_of part q (sym of_part ∙ sym (ap (slice_get parts) long) ∙ at_q))
          (subst (λ (v : JobState). IsThere v part 0 s.machine) (one_of job o (sym of_job ∙ sym (ap (slice_get jobs) long) ∙ at_o)) there),
    ))
    i x at j p at_job at_part
