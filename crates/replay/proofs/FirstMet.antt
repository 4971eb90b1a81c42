-- The first message whose outcome makes a condition true: of one job, and of all.
use Rattle.std.proofs.Common.{◌≡◌, ◌≢◌, ℕ, zero, suc, ◌+◌, ◌<◌, ◌≤◌, Bool, true, false, not, ◌&&◌, ◌||◌, eqb, min, List, [], ◌∷◌, ◌++◌, length, take, get_or, Option, Some, None, refl, sym, ap, ◌∙◌, subst, ◌⊎◌, ⊎_elim, inl, inr, arith}
use Rattle.std.specs.List.{slice_get}
use Rattle.std.proofs.lemmas.Bool.{eq-eqb, ne_eqb, cases_lt}
use Rattle.std.proofs.lemmas.Grind.{get_or_default_zero}
use Rattle.std.proofs.lemmas.List.{take_more, take_all, length-append}
use Rattle.std.proofs.lemmas.List.Sums.{count_by_more_yes, count_by_more_no}
use Rattle.std.proofs.lemmas.Option.{slice_get_read, slice_get_within, get_or_from_slice_get}
use Rattle.mil_message.specs.declared.outcome_test.OutcomeTest.{OutcomeTest}
use Rattle.mil_message.specs.World.{Point, asks}
use Rattle.mil_line.specs.Plans.{Planned}
use Rattle.mil_bus.specs.declared.outcomes.Outcome.{Outcome}
use Rattle.mil_bus.specs.Exchange.{BusState}
use Rattle.frame_tree.specs.Tree.{Condition, asked, negated, both, either}
use Rattle.frame_tree.specs.Meaning.{condition_meaning}
use Rattle.bc_machine.specs.declared.placed.Placed.{Placed}
use Rattle.frame_asm.specs.Shapes.{code_of_tree}
use Rattle.bc_machine.specs.Controller.{BusRun, world_of}
use Rattle.bc_machine.specs.Running.{MachineState, most_inserted}
use Rattle.bc_machine.specs.Outcomes as outcomes
use Rattle.job_file.specs.Jobs.{JobState, tree_in}
use Rattle.job_file.specs.Machines.{latest_outcome}
use Rattle.ch11_recording.specs.Items.{last_number}
use Rattle.ch11_reader.specs.Recording.{Found}
use Rattle.bench_report.specs.Reports.{ChannelPart}
use Rattle.bench_settings.proofs.Lists.{map_at}
use Rattle.replay.specs.Accord.{kept_in}
use Rattle.replay.specs.Places.{heard_channels, IsAfter}
use Rattle.replay.specs.Moves.{ReplayState, point_after, says, IsMet, IsNextMet, IsNowhere}
use Rattle.replay.specs.Tracks.{Pair, jobs_in, parts_in}
use Rattle.replay.specs.Conditions.{answer_of}
use Rattle.replay.specs.Finding.{count_to, IsMetBy, IsMetIn, IsFirst, Finds, earlier}
use Rattle.replay.proofs.KeptLists.{in_front, at_seam}

-- ---- what a condition says

pub asks_is : (plan : List Planned) (placed : List Placed) (most : ℕ) (k : OutcomeTest) (p : Point BusRun Outcome) → asks (world_of plan placed most) k p ≡ outcomes.test_of k p.last
asks_is plan placed most k p = by_case p.last
  where
    by_case : (last : Option Outcome) → asks (world_of plan placed most) k (record { state = p.state; number = p.number; gap = p.gap; last = last }) ≡ outcomes.test_of k last
    by_case None = refl
    by_case (Some o) = refl

pub meaning_is : (plan : List Planned) (placed : List Placed) (most : ℕ) (t : Condition) (p : Point BusRun Outcome) → condition_meaning (world_of plan placed most) t p ≡ answer_of t p.last
meaning_is plan placed most (asked t) p = asks_is plan placed most t p
meaning_is plan placed most (negated c) p = ap not (meaning_is plan placed most c p)
meaning_is plan placed most (both a b) p =
    ap (λ x. x && condition_meaning (world_of plan placed most) b p) (meaning_is plan placed most a p) ∙ ap (λ x. answer_of a p.last && x) (meaning_is plan placed most b p)
meaning_is plan placed most (either a b) p =
    ap (λ x. x || condition_meaning (world_of plan placed most) b p) (meaning_is plan placed most a p) ∙ ap (λ x. answer_of a p.last || x) (meaning_is plan placed most b p)

pub says_is : (test : Condition) (job : JobState) (part : ChannelPart) (number : ℕ) (m : MachineState) (last : Option Outcome) (b : Bool) → IsAfter job part number m → last ≡ m.latest
    → b ≡ answer_of test last → says test job part number ≡ b
says_is test job part number m last b is same told =
    meaning_is job.plan part.placed (most_inserted (code_of_tree (tree_in job))) test (point_after job part number)
    ∙ ap (λ (s : BusState). answer_of test (latest_outcome s.talks)) (sym is.bus)
    ∙ ap (answer_of test) (sym is.told ∙ sym same)
    ∙ sym told

-- ---- one job

module _ (channels : List ℕ) (test : Condition) (p : Pair) (before : ℕ) where
  pub counts_more : (heard channel : ℕ) → before < length channels → heard ≡ count_to channels before p.job.channel → channel ≡ p.job.channel → get_or channels before 0 ≡ channel
      → heard + 1 ≡ count_to channels (before + 1) p.job.channel
  counts_more heard channel less is own here =
      ap (λ n. n + 1) is ∙ sym (count_by_more_yes (λ c. eqb c p.job.channel) channels before 0 less (eq-eqb (get_or channels before 0) p.job.channel (here ∙ own)))

  pub counts_same : (heard channel : ℕ) → before < length channels → heard ≡ count_to channels before p.job.channel → channel ≡ p.job.channel → get_or channels before 0 ≢ channel
      → heard ≡ count_to channels (before + 1) p.job.channel
  counts_same heard channel less is own other =
      is ∙ sym (count_by_more_no (λ c. eqb c p.job.channel) channels before 0 less (ne_eqb (get_or channels before 0) p.job.channel (λ e. other (e ∙ sym own))))

  pub says_there : (heard channel : ℕ) (m : MachineState) (last : Option Outcome) (b : Bool) → before < length channels → heard ≡ count_to channels before p.job.channel → channel ≡ p.job.channel
      → get_or channels before 0 ≡ channel → IsAfter p.job p.part (last_number (take (heard + 1) (kept_in p.job p.part))) m → last ≡ m.latest → b ≡ answer_of test last
      → says test p.job p.part (last_number (take (count_to channels (before + 1) p.job.channel) (kept_in p.job p.part))) ≡ b
  says_there heard channel m last b less is own here after same told =
      subst (λ (n : ℕ). says test p.job p.part (last_number (take n (kept_in p.job p.part))) ≡ b) (counts_more heard channel less is own here)
      (says_is test p.job p.part (last_number (take (heard + 1) (kept_in p.job p.part))) m last b after same told)

  pub met_here : (channel : ℕ) → before < length channels → channel ≡ p.job.channel → get_or channels before 0 ≡ channel
      → says test p.job p.part (last_number (take (count_to channels (before + 1) p.job.channel) (kept_in p.job p.part))) ≡ true → IsMetBy channels test p (before + 1)
  met_here channel less own here true_there = record {
    before = before;
    next = omega arith;
    channel = slice_get_read channels (length channels) before p.job.channel refl less (sym own ∙ sym here ∙ default);
    true_there = true_there;
  }
    where
      default : get_or channels before 0 ≡ get_or channels before p.job.channel
      default = sym (get_or_default_zero channels before p.job.channel less)

  pub not_true : says test p.job p.part (last_number (take (count_to channels (before + 1) p.job.channel) (kept_in p.job p.part))) ≡ false → ¬ IsMetBy channels test p (before + 1)
  not_true e met = absurd (let wrong : false ≡ true = sym e ∙ met.true_there in cc)

  pub not_own : (channel : ℕ) → channel ≡ p.job.channel → get_or channels before 0 ≢ channel → ¬ IsMetBy channels test p (before + 1)
  not_own channel own other met =
      let same : met.before ≡ before = omega (arith, met.next) in
      other (get_or_from_slice_get channels before p.job.channel 0 (ap (slice_get channels) (sym same) ∙ met.channel) ∙ sym own)

  pub none_next : (place : ℕ) → ((m : ℕ) → place < m → m ≤ before → ¬ IsMetBy channels test p m) → ¬ IsMetBy channels test p (before + 1)
      → (m : ℕ) → place < m → m ≤ before + 1 → ¬ IsMetBy channels test p m
  none_next place none not_here m past le =
      ⊎_elim
      (λ low. none m past (omega (arith, low)))
      (λ from. let same : before + 1 ≡ m = omega (arith, le, from) in subst (λ (n : ℕ). ¬ IsMetBy channels test p n) same not_here)
      (cases_lt m (before + 1))

-- a message that is met is there
pub met_within : (channels : List ℕ) (test : Condition) (p : Pair) (n : ℕ) → IsMetBy channels test p n → n ≤ length channels
met_within channels test p n met =
    let within : met.before < length channels = slice_get_within channels met.before p.job.channel met.channel in
    omega (arith, met.next, within)

-- ---- of all jobs

module _ (place : ℕ) (P Q R : ℕ → Type 0) (first : (n : ℕ) → P n → R n) (other : (n : ℕ) → Q n → R n) (out : (n : ℕ) → R n → P n ⊎ Q n) where
  finds_both : (a b : Option ℕ) → Finds place P a → Finds place Q b → Finds place R (earlier a b)
  finds_both None None fa fb = λ m past r. ⊎_elim (fa m past) (fb m past) (out m r)
  finds_both None (Some b) fa fb = record { past = fb.past; met = other b fb.met; first = λ m past less r. ⊎_elim (fa m past) (fb.first m past less) (out m r) }
  finds_both (Some a) None fa fb = record { past = fa.past; met = first a fa.met; first = λ m past less r. ⊎_elim (fa.first m past less) (fb m past) (out m r) }
  finds_both (Some a) (Some b) fa fb =
      ⊎_elim
      (λ less. subst (IsFirst place R) (let e : a ≡ min a b = omega (arith, less) in e)
      (record { past = fa.past; met = first a fa.met; first = λ m past low r. ⊎_elim (fa.first m past low) (fb.first m past (omega (arith, low, less))) (out m r) }))
      (λ le. subst (IsFirst place R) (let e : b ≡ min a b = omega (arith, le) in e)
      (record { past = fb.past; met = other b fb.met; first = λ m past low r. ⊎_elim (fa.first m past (omega (arith, low, le))) (fb.first m past low) (out m r) }))
      (cases_lt a b)

module _ (channels : List ℕ) (test : Condition) (pairs : List Pair) (p : Pair) where
  pub in_first : (n : ℕ) → IsMetIn channels test pairs n → IsMetIn channels test (pairs ++ p ∷ []) n
  in_first n met = record {
    index = met.index;
    pair = met.pair;
    there = in_front pairs (p ∷ []) met.index (slice_get_within pairs met.index met.pair met.there) ∙ met.there;
    met = met.met;
  }

  pub in_last : (n : ℕ) → IsMetBy channels test p n → IsMetIn channels test (pairs ++ p ∷ []) n
  in_last n met = record { index = length pairs; pair = p; there = at_seam pairs (p ∷ []); met = met }

  pub in_one : (n : ℕ) → IsMetIn channels test (pairs ++ p ∷ []) n → IsMetIn channels test pairs n ⊎ IsMetBy channels test p n
  in_one n met =
      ⊎_elim
      (λ low. inl (record { index = met.index; pair = met.pair; there = sym (in_front pairs (p ∷ []) met.index low) ∙ met.there; met = met.met }))
      (λ le.
      let within : met.index < length (pairs ++ p ∷ []) = slice_get_within (pairs ++ p ∷ []) met.index met.pair met.there in
      let here : met.index ≡ length pairs = omega (arith, within, le, length-append pairs (p ∷ [])) in
      let same : p ≡ met.pair = let there : slice_get (pairs ++ p ∷ []) (length pairs) ≡ Some met.pair = ap (slice_get (pairs ++ p ∷ [])) (sym here) ∙ met.there in let seam = at_seam pairs (p ∷ []) in cc in
      inr (subst (λ (q : Pair). IsMetBy channels test q n) (sym same) met.met))
      (cases_lt met.index (length pairs))

pub finds_more : (channels : List ℕ) (test : Condition) (pairs : List Pair) (p : Pair) (place i : ℕ) (a b c : Option ℕ) → i < length pairs → p ≡ get_or pairs i p
    → Finds place (IsMetIn channels test (take i pairs)) a → Finds place (IsMetBy channels test p) b → c ≡ earlier a b → Finds place (IsMetIn channels test (take (i + 1) pairs)) c
finds_more channels test pairs p place i a b c less is fa fb same =
    subst (λ (r : Option ℕ). Finds place (IsMetIn channels test (take (i + 1) pairs)) r) (sym same)
    (subst (λ (ps : List Pair). Finds place (IsMetIn channels test ps) (earlier a b)) (ap (λ (q : Pair). take i pairs ++ q ∷ []) is ∙ sym (take_more pairs i p less))
    (finds_both place (IsMetIn channels test (take i pairs)) (IsMetBy channels test p) (IsMetIn channels test (take i pairs ++ p ∷ []))
    (in_first channels test (take i pairs) p) (in_last channels test (take i pairs) p) (in_one channels test (take i pairs) p) a b fa fb))

pub finds_all : (channels : List ℕ) (test : Condition) (pairs : List Pair) (place i : ℕ) (r : Option ℕ) → length pairs ≤ i → Finds place (IsMetIn channels test (take i pairs)) r → Finds place (IsMetIn channels test pairs) r
finds_all channels test pairs place i r le = subst (λ (ps : List Pair). Finds place (IsMetIn channels test ps) r) (take_all i pairs le)

-- ---- of a recording under the debugger

module _ (pairs : List Pair) (found : List Found) (place : ℕ) (channels : List ℕ) (is : channels ≡ heard_channels found) (test : Condition) where
  abbrev state : ReplayState
  state = record { jobs = jobs_in pairs; parts = parts_in pairs; found = found; place = place }

  pub met_of : (n : ℕ) → IsMetIn channels test pairs n → IsMet state test n
  met_of n met =
      let here : IsMetBy (heard_channels found) test met.pair n = subst (λ (cs : List ℕ). IsMetBy cs test met.pair n) is met.met in
      record {
        index = met.index;
        job = met.pair.job;
        part = met.pair.part;
        job_there = map_at (λ (q : Pair). q.job) pairs met.index met.pair met.there;
        part_there = map_at (λ (q : Pair). q.part) pairs met.index met.pair met.there;
        before = here.before;
        next = here.next;
        channel = here.channel;
        true_there = here.true_there;
      }

  pub of_met : (n : ℕ) → IsMet state test n → IsMetIn channels test pairs n
  of_met n met =
      let there = both_at pairs met.index met.job met.part met.job_there met.part_there in
      record {
        index = met.index;
        pair = record { job = met.job; part = met.part };
        there = there;
        met = subst (λ (cs : List ℕ). IsMetBy cs test (record { job = met.job; part = met.part }) n) (sym is) (record { before = met.before; next = met.next; channel = met.channel; true_there = met.true_there });
      }
    where
      both_at : (ps : List Pair) (i : ℕ) (job : JobState) (part : ChannelPart) → slice_get (jobs_in ps) i ≡ Some job → slice_get (parts_in ps) i ≡ Some part → slice_get ps i ≡ Some (record { job = job; part = part })
      both_at [] i job part j q = absurd cc
      both_at (p ∷ ps) zero job part j q =
          let same_job : p.job ≡ job = cc in
          let same_part : p.part ≡ part = cc in
          ap (λ (v : JobState). Some (let pair : Pair = record { job = v; part = p.part } in pair)) same_job ∙ ap (λ (v : ChannelPart). Some (let pair : Pair = record { job = job; part = v } in pair)) same_part
      both_at (p ∷ ps) (suc i) job part j q = both_at ps i job part j q

  pub next_met : (n : ℕ) → IsFirst place (IsMetIn channels test pairs) n → IsNextMet state test n
  next_met n first = record { past = first.past; met = met_of n first.met; first = λ m past less met. first.first m past less (of_met m met) }

  pub nowhere : ((m : ℕ) → place < m → ¬ IsMetIn channels test pairs m) → IsNowhere state test
  nowhere none m past met = none m past (of_met m met)
