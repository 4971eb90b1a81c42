-- One turn of a channel's thread, where lines of its job are by time or by command.
use Rattle.std.proofs.Common.{◌≡◌, ◌≢◌, ℕ, zero, suc, ◌+◌, ◌-◌, ◌<◌, ◌≤◌, ◌^◌, Bool, true, false, true≢false, List, [], ◌∷◌, ◌++◌, length, map, take, append-nil, refl, sym, ap, ◌∙◌, subst, arith, ◌⊎◌, inl, inr}
use Rattle.std.specs.Prelude.{Some, None, slice_get, max, cond, ◌*◌, ◌&&◌, ◌||◌}
use Rattle.std.specs.List.{AllByRecursion}
use Rattle.std.proofs.lemmas.List.{length-append, length-map}
use Rattle.mil_line.specs.Plans.{Planned}
use Rattle.ch11_f1.specs.declared.Record.{Record}
use Rattle.frame_asm.specs.Shapes.{code_of_tree}
use Rattle.frame_load.specs.Budget.{budget}
use Rattle.frame_tree.specs.Bounds.{IsSound}
use Rattle.bc_machine.specs.declared.placed.Placed.{Placed}
use Rattle.bc_machine.specs.declared.placed.HostAction.{HostAction}
use Rattle.bc_machine.specs.declared.Stepped.{Stepped}
use Rattle.bc_machine.specs.declared.Stepped.TheVariants.{Ran, Sent, Inserted, Halted}
use Rattle.bc_machine.specs.Coming.{IsStill}
use Rattle.bc_machine.specs.NextMessage.{coming_talk, Makes, NextMessageIsSent}
use Rattle.bc_machine.specs.Posting.{at_next}
use Rattle.bc_machine.specs.Running.{MachineState, HasEnded, stepped}
use Rattle.bc_machine.specs.UnderWay.{IsUnderWay, IsMessage, TellsStep}
use Rattle.job_moments.specs.Planning.{PlannedFault, PlanState}
use Rattle.job_moments.specs.Waits.{Awaited, Waits}
use Rattle.job_file.specs.declared.job_run.Due.{Due}
use Rattle.job_file.specs.declared.job_run.JobRun.{JobRun}
use Rattle.job_file.specs.declared.timed.TimedAction.{TimedAction}
use Rattle.job_file.specs.Beside.{with_posted, StandsStill, turned_beside, GoesBeside, Begins, Turns, Takes, as_played}
use Rattle.job_file.specs.Jobs.{JobState, job_in, said_in, said_actions, tree_in, own_inserts}
use Rattle.job_file.specs.Machines.{IsOf, RecordsSoFar, CountsMessagesSent, AllRecords}
use Rattle.job_file.specs.Meaning.{bus_of, records_in}
use Rattle.job_file.specs.Resolving.{standing, IsKept, MayPlan, IsPlannedUpTo, turns_left}
use Rattle.job_file.specs.Timed.{Standing, met_of, coming_met, arranged, faulted, begun_beside, found_in, says_nothing}
use Rattle.job_file.specs.TimedLines.{timed_inserts}
use Rattle.job_file.proofs.DueLemmas.{stands}
use Rattle.job_file.proofs.FaultLemmas.{faulted_none}
use Rattle.job_file.proofs.Fewness.{few}
use Rattle.job_file.proofs.Nexts.{next_is, all_given}
use Rattle.job_file.proofs.TurnLemmas.{same_stepped, same_arranged, may_plan_arranged}
use Rattle.mil_trunk.specs.declared.trunk.Trunk.{Trunk}
use Rattle.mil_trunk.specs.declared.trunk.Ticket.{Ticket}
use Rattle.bench_mail.specs.declared.mailbox.Inbox.{Inbox}
use Rattle.bench_mail.specs.Mail.{IsInboxOf, times_empty}
use Rattle.bench_run.specs.declared.entry.Entry.{Entry}
use Rattle.bench_run.specs.declared.posting.Posts.{Posts}
use Rattle.bench_run.specs.Beside.{Arrives, StepsOn, GoesOnBeside, IsStageBeside, records_told}
use Rattle.bench_run.specs.Posted.{AreTaken}
use Rattle.bench_run.specs.Runs.{records_of}
use Rattle.bench_run.specs.Threads.{RecordsOfferedSoFar, StartsBeside, Offered}
use Rattle.bench_run.specs.declared.channel.Ended.{Ended}
use Rattle.bench_run.specs.declared.entry.Entry.TheVariants.{End}
use Rattle.bench_mail.specs.declared.mailbox.Mailbox.{Mailbox}
use Rattle.bench_settings.specs.Placing.{placed_up_to}
use Rattle.mil_trunk.specs.Ends.{IsTicketOf, tags_of, bounds_of, sent}
use Rattle.bench_run.proofs.Courses.{sent_all, beside_means}
use Rattle.bench_run.proofs.Messages.{inserts_more, few_beside}
use Rattle.bench_run.proofs.PlacedPosts.{nothing_posted, nothing_taken, taken_on, all_placed}
use Rattle.bench_run.proofs.Stages.{so_far_alike, last_stage}
use Rattle.bench_run.proofs.Arriving.{place_arranged, no_more_arranged, arranged_ended, no_talk}

-- ---- a turn

module _ (stood : Bool) (r a : JobRun) (p q : Posts) (arrives : Arrives stood r a p q) where
  -- the point is as it was
  pub point_arrived : a.machine.point ≡ r.machine.point
  point_arrived = ap (λ (m : MachineState). m.point) arrives.machine ∙ (place_arranged (standing r)).point

  pub same_number : a.machine.point.number ≡ r.machine.point.number
  same_number = ap (λ z. z.number) point_arrived

  pub may_plan_arrived : MayPlan r → MayPlan a
  may_plan_arrived planned =
      let there = may_plan_arranged r.faults.faults (standing r) (arranged (standing r)) refl planned in
      let plan : a.machine.plan ≡ (arranged (standing r)).machine.plan = ap (λ (m : MachineState). m.plan) arrives.machine in
      let number : a.machine.point.number ≡ (arranged (standing r)).machine.point.number = ap (λ (m : MachineState). m.point.number) arrives.machine in
      subst (λ (z : PlanState × ℕ × List Planned). (z.0.faults ≡ []) ⊎ IsPlannedUpTo z.1 z.2) (λ i. (sym arrives.faults i, sym number i, sym plan i)) there

  module _ (answer : Stepped) (n : JobRun) (steps : StepsOn answer a n) where
    abbrev m : MachineState
    m = faulted a.faults.faults a.machine

    -- what is still to come, and the controller, behind the turn
    turned_is : (faults : List PlannedFault) → a.faults.faults ≡ faults → standing n ≡ turned_beside arrives.posted faults (standing r)
    unfolding turned_beside
    turned_is faults found =
        ap (λ (ws : List TimedAction). stands ws n.machine) (steps.left ∙ arrives.left)
        ∙ ap (λ (v : MachineState). stands (arranged (standing r)).left v)
        (steps.machine ∙ ap (λ (fs : List PlannedFault). stepped (faulted fs a.machine)) found ∙ ap (λ (v : MachineState). stepped (faulted faults v)) arrives.machine)

    -- the job went on
    goes_further : (b : Bool) → stood ≡ b → (faults : List PlannedFault) (first : Standing) (posts : List Placed) → a.faults.faults ≡ faults → GoesBeside faults first posts (standing r)
        → GoesBeside faults first (posts ++ map (at_next (arranged (standing r)).machine) arrives.posted) (standing n)
    goes_further true is faults first posts found goes =
        subst (λ (v : Standing). GoesBeside faults first (posts ++ map (at_next (arranged (standing r)).machine) arrives.posted) v) (sym (turned_is faults found))
        (Takes posts (standing r) arrives.posted goes (arrives.still is))
    goes_further false is faults first posts found goes =
        let none : arrives.posted ≡ [] = (arrives.quiet is).0 in
        let same : standing n ≡ turned_beside [] faults (standing r) = turned_is faults found ∙ ap (λ (xs : List HostAction). turned_beside xs faults (standing r)) none in
        subst (λ (xs : List HostAction). GoesBeside faults first (posts ++ map (at_next (arranged (standing r)).machine) xs) (standing n)) (sym none)
        (subst (λ (ps : List Placed). GoesBeside faults first ps (standing n)) (sym (append-nil posts))
        (subst (λ (v : Standing). GoesBeside faults first posts v) (sym same) (Turns posts (standing r) goes)))

    -- the step's controller is at the point of before
    point_stepped : m.point ≡ r.machine.point
    unfolding faulted
    point_stepped = point_arrived

    placed_stepped : n.machine.placed ≡ a.machine.placed
    unfolding faulted
    placed_stepped = ap (λ (v : MachineState). v.placed) steps.machine ∙ (same_stepped m).placed

    plan_stepped : n.machine.plan ≡ m.plan
    plan_stepped = ap (λ (v : MachineState). v.plan) steps.machine ∙ (same_stepped m).plan

    placed_before : n.machine.placed ≡ m.placed
    placed_before = ap (λ (v : MachineState). v.placed) steps.machine ∙ (same_stepped m).placed

    code_before : m.code ≡ r.machine.code
    unfolding faulted
    code_before = ap (λ (v : MachineState). v.code) arrives.machine ∙ (same_arranged (standing r)).code

    begun_before : m.begun ≡ r.machine.begun
    unfolding faulted
    begun_before = ap (λ (v : MachineState). v.begun) arrives.machine ∙ (same_arranged (standing r)).begun

    code_stepped : n.machine.code ≡ r.machine.code
    code_stepped = ap (λ (v : MachineState). v.code) steps.machine ∙ (same_stepped m).code ∙ code_before

    begun_stepped : n.machine.begun ≡ r.machine.begun
    begun_stepped = ap (λ (v : MachineState). v.begun) steps.machine ∙ (same_stepped m).begun ∙ begun_before

    capacity_stepped : n.machine.capacity ≡ a.machine.capacity
    unfolding faulted
    capacity_stepped = ap (λ (v : MachineState). v.capacity) steps.machine ∙ (same_stepped m).capacity

    -- how many messages were made
    pub told_number : n.machine.point.number ≡ r.machine.point.number + length (records_told answer)
    told_number = by_answer answer steps.tells
      where
        same : m.point.number ≡ r.machine.point.number
        same = ap (λ z. z.number) point_stepped

        by_answer : (x : Stepped) → TellsStep m n.machine x → n.machine.point.number ≡ r.machine.point.number + length (records_told x)
        by_answer Ran tells = omega (arith, tells.number, same)
        by_answer (Sent w) tells = omega (arith, tells.message.number, same)
        by_answer (Inserted w) tells = omega (arith, tells.message.number, same)
        by_answer Halted tells = omega (arith, ap (λ (v : MachineState). v.point.number) tells.same, same)

    -- its stamp is below 2^48
    pub told_small : AllByRecursion (λ (w : Record). w.stamp < 2 ^ 48) (records_told answer)
    told_small = by_answer answer steps.tells
      where
        by_answer : (x : Stepped) → TellsStep m n.machine x → AllByRecursion (λ (w : Record). w.stamp < 2 ^ 48) (records_told x)
        by_answer Ran tells = tt
        by_answer (Sent w) tells = (tells.message.small, tt)
        by_answer (Inserted w) tells = (tells.message.small, tt)
        by_answer Halted tells = tt

    -- where nothing was taken, no message was sent
    none_told : NextMessageIsSent → stood ≡ false → n.machine.point.number ≡ r.machine.point.number
    unfolding faulted
    none_told law nowhere =
        let quiet = arrives.quiet nowhere in
        let t : MachineState = (arranged (standing r)).machine in
        let here : a.machine ≡ t = arrives.machine ∙ ap (λ (xs : List HostAction). with_posted xs t) quiet.0 ∙ sym (nothing_posted t) in
        let none : coming_met a.machine ≡ None = subst (λ (v : MachineState). coming_met v ≡ None) (sym here) quiet.2 in
        let same : a.machine ≡ m = faulted_none a.faults.faults a.machine none in
        let none' : coming_met m ≡ None = subst (λ (v : MachineState). coming_met v ≡ None) same none in
        let still : IsStill m = subst (Makes m) (no_talk (met_of m.begun.start) (coming_talk m) none') (law m steps.way) in
        ap (λ (v : MachineState). v.point.number) steps.machine ∙ still.number ∙ ap (λ z. z.number) point_stepped

    few_told : (x : Stepped) → length (records_told x) ≤ 1
    few_told Ran = omega arith
    few_told (Sent w) = omega arith
    few_told (Inserted w) = omega arith
    few_told Halted = omega arith

    -- the mailbox was found empty before each message that was made
    emptied_on : NextMessageIsSent → (b : Bool) → stood ≡ b → (most : ℕ) (before : Inbox) (posts : List Placed) → AreTaken most before r.machine.point.number posts p → n.machine.point.number ≤ 1000000
        → 0 < q.left → times_empty q.inbox < 2 ^ 64 - 1 → times_empty before + n.machine.point.number ≤ times_empty q.inbox
    emptied_on law false is most before posts taken low some few =
        let same = none_told law is in
        let here = (arrives.taken most before posts taken).emptied some few in
        omega (arith, here, same)
    emptied_on law true is most before posts taken low some few = by_length (length (records_told answer)) refl
      where
        by_length : (k : ℕ) → length (records_told answer) ≡ k → times_empty before + n.machine.point.number ≤ times_empty q.inbox
        by_length zero none = let here = (arrives.taken most before posts taken).emptied some few in omega (arith, here, none, told_number)
        by_length (suc zero) one =
            let once = arrives.emptied is (omega (arith, low, one, told_number)) some in
            let earlier = taken.emptied (omega (arith, some, arrives.left_posts)) (omega (arith, few, once)) in
            omega (arith, earlier, once, few, one, told_number)
        by_length (suc (suc k)) many = absurd (omega (arith, many, few_told answer))

    -- and there is room for the rest
    module _ (law : NextMessageIsSent) (most : ℕ) (before : Inbox) (job : JobState) (g : GoesOnBeside most before job r p) (low : n.machine.point.number ≤ 1000000) where
      pub goes_on_beside : GoesOnBeside most before job n q
      goes_on_beside =
          let t : Standing = arranged (standing r) in
          let few = no_more_arranged (standing r) in
          let more = told_number in
          let posts : List Placed = g.posts ++ map (at_next t.machine) arrives.posted in
          let found : a.faults.faults ≡ found_in job.timed = ap (λ (v : PlanState). v.faults) arrives.faults ∙ g.faults in
          let taken : AreTaken most before n.machine.point.number posts q = taken_on most before r.machine.point.number n.machine.point.number posts q (arrives.taken most before g.posts g.taken) (omega (arith, more))
          (emptied_on law stood refl most before g.posts g.taken low) in
          let placed : n.machine.placed ≡ t.machine.placed ++ map (at_next t.machine) arrives.posted = placed_stepped ∙ ap (λ (v : MachineState). v.placed) arrives.machine in
          let left : (standing n).left ≡ t.left = steps.left ∙ arrives.left in
          let inserts = ap own_inserts placed in
          let added = inserts_more t.machine.placed (map (at_next t.machine) arrives.posted) in
          let long = length-map arrives.posted (at_next t.machine) in
          let all = length-append g.posts (map (at_next t.machine) arrives.posted) in
          let coming = ap timed_inserts left in
          let left_length = ap length steps.left in
          let placed_length = ap length placed_stepped in
          record {
            posts = posts;
            taken = taken;
            goes = goes_further stood refl (found_in job.timed) (begun_beside most (said_in job) job.timed) g.posts found g.goes;
            faults = steps.faults ∙ found;
            kept = steps.kept;
            planned = steps.planned;
            code = code_stepped ∙ g.code;
            begun = begun_stepped ∙ g.begun;
            room = omega (arith, arrives.room, left_length, placed_length, capacity_stepped);
            few = omega (arith, g.few, few.inserts, inserts, added, long, all, coming);
          }

    -- ---- what was offered

    module _ (so_far : RecordsSoFar) (counts : CountsMessagesSent) (job : JobState) (sound : IsSound (tree_in job)) (code : r.machine.code ≡ code_of_tree (tree_in job)) (begun : r.machine.begun ≡ bus_of (job_in job))
        (way_r : IsUnderWay r.machine) where
      -- the job as it was played by the end of the turn
      abbrev live : JobState
      live = as_played job n.machine

      of_before : IsOf (job_in live) n.machine.placed m
      of_before = record { code = code_before ∙ code; plan = sym plan_stepped; actions = sym placed_before; begun = begun_before ∙ begun; under_way = steps.way }

      of_behind : IsOf (job_in live) n.machine.placed n.machine
      of_behind = record { code = code_stepped ∙ code; plan = refl; actions = refl; begun = begun_stepped ∙ begun; under_way = steps.kept.under_way }

      of_first : IsOf (job_in (as_played job r.machine)) r.machine.placed r.machine
      of_first = record { code = code; plan = refl; actions = refl; begun = begun; under_way = way_r }

      -- so far the records are the same
      alike : take r.machine.point.number (records_of (as_played job r.machine)) ≡ take r.machine.point.number (records_of live)
      alike =
          let number : m.point.number ≡ r.machine.point.number = ap (λ z. z.number) point_stepped in
          sym (so_far (job_in (as_played job r.machine)) r.machine.placed r.machine sound of_first)
          ∙ ap (λ z. records_in z.state) (sym point_stepped)
          ∙ so_far (job_in live) n.machine.placed m sound of_before
          ∙ ap (λ k. take k (records_of live)) number

      pub offered_before : (trunk : Trunk Entry) (own : ℕ) (limits : List ℕ) (index : ℕ) (t : Ticket Entry) (refused : List ℕ)
          → RecordsOfferedSoFar trunk own limits index (as_played job r.machine) r.machine.point.number t refused → RecordsOfferedSoFar trunk own limits index live r.machine.point.number t refused
      offered_before trunk own limits index t refused = so_far_alike trunk own limits index (as_played job r.machine) live r.machine.point.number t refused alike

      pub told_record : (w : Record) → records_told answer ≡ w ∷ [] → slice_get (records_of live) r.machine.point.number ≡ Some w
      told_record w told =
          next_is so_far counts (job_in live) n.machine.placed m n.machine w r.machine.point.number sound of_before of_behind (message answer steps.tells told) (ap (λ z. z.number) point_stepped)
        where
          message : (x : Stepped) → TellsStep m n.machine x → records_told x ≡ w ∷ [] → IsMessage m n.machine w
          message Ran tells e = absurd cc
          message (Sent v) tells e = let is : v ≡ w = cc in subst (IsMessage m n.machine) is tells.message
          message (Inserted v) tells e = let is : v ≡ w = cc in subst (IsMessage m n.machine) is tells.message
          message Halted tells e = absurd cc

-- ---- how many turns are left

module _ (stood : Bool) (r a : JobRun) (p q : Posts) (arrives : Arrives stood r a p q) (answer : Stepped) (n : JobRun) (steps : StepsOn answer a n) where
  turns_before : turns_left (faulted a.faults.faults a.machine) ≡ turns_left r.machine
  unfolding faulted
  turns_before =
      let same = same_arranged (standing r) in
      let code : a.machine.code ≡ r.machine.code = ap (λ (v : MachineState). v.code) arrives.machine ∙ same.code in
      let taken : a.machine.taken ≡ r.machine.taken = ap (λ (v : MachineState). v.taken) arrives.machine ∙ same.taken in
      let number : a.machine.point.number ≡ r.machine.point.number = ap (λ (v : MachineState). v.point.number) arrives.machine ∙ same.number in
      λ i. (budget (code i).operations - taken i) + (1000000 - number i)

  same_halted : answer ≡ Halted → turns_left n.machine ≡ turns_left (faulted a.faults.faults a.machine)
  same_halted is =
      let told : TellsStep (faulted a.faults.faults a.machine) n.machine Halted = subst (λ x. TellsStep (faulted a.faults.faults a.machine) n.machine x) is steps.tells in
      ap turns_left told.same

  pub fewer_turns : (was now : Bool) → (now ≡ true → answer ≡ Halted) → (now ≡ false → answer ≢ Halted) → (was ≡ true → stood ≡ true)
      → turns_left n.machine * 2 + cond now 0 1 + cond (now && stood) 0 1 < turns_left r.machine * 2 + cond was 0 1 + 1
  fewer_turns was now halted not_halted waits = by_now now stood was refl refl refl
    where
      by_now : (b d w : Bool) → now ≡ b → stood ≡ d → was ≡ w → turns_left n.machine * 2 + cond b 0 1 + cond (b && d) 0 1 < turns_left r.machine * 2 + cond w 0 1 + 1
      by_now false d w is on earlier = let less = steps.less (not_halted is) in omega (arith, less, turns_before)
      by_now true true w is on earlier = omega (arith, same_halted (halted is), turns_before)
      by_now true false false is on earlier = omega (arith, same_halted (halted is), turns_before)
      by_now true false true is on earlier = absurd (true≢false (sym (waits earlier) ∙ on))

-- ---- the beginning

pub starts_beside : (is_live : Bool) (most : ℕ) (before : Inbox) (job : JobState) (r : JobRun) (p : Posts) → StartsBeside is_live most job r → p.left ≡ most → p.inbox ≡ before
    → GoesOnBeside most before job r p
starts_beside is_live most before job r p starts left inbox =
    let first : Standing = begun_beside most (said_in job) job.timed in
    let machine : r.machine ≡ first.machine = ap (λ (v : Standing). v.machine) starts.beginning in
    let coming : (standing r).left ≡ job.timed.whens = ap (λ (v : Standing). v.left) starts.beginning in
    let placed : r.machine.placed ≡ said_actions job = ap (λ (m : MachineState). m.placed) machine in
    let number : r.machine.point.number ≡ 0 = ap (λ (m : MachineState). m.point.number) machine in
    let capacity : r.machine.capacity ≡ max (length (said_actions job)) (length (said_actions job) + (length job.timed.whens + most)) = ap (λ (m : MachineState). m.capacity) machine in
    let inserts : own_inserts r.machine.placed ≡ own_inserts (said_actions job) = ap own_inserts placed in
    let waits : timed_inserts (standing r).left ≡ timed_inserts job.timed.whens = ap timed_inserts coming in
    record {
      posts = [];
      taken = subst (λ k. AreTaken most before k [] p) (sym number) (nothing_taken most before p left inbox);
      goes = subst (λ (v : Standing). GoesBeside (found_in job.timed) v [] (standing r)) starts.beginning Begins;
      faults = starts.faults;
      kept = starts.kept;
      planned = starts.planned;
      code = ap (λ (m : MachineState). m.code) machine;
      begun = ap (λ (m : MachineState). m.begun) machine;
      room = omega (arith, ap length placed, ap length coming, capacity, left);
      few = omega (arith, inserts, waits);
    }

-- ---- whether posts may be taken

pub stands_there : (ended comes : Bool) (r a : JobRun) → (ended || comes) ≡ true → (ended ≡ true → HasEnded r.machine) → (comes ≡ true → coming_talk a.machine ≢ None)
    → standing a ≡ arranged (standing r) → StandsStill a.machine
stands_there true comes r a either at_end some arranging =
    let e : HasEnded r.machine = at_end refl in
    let same : a.machine ≡ r.machine = ap (λ (v : Standing). v.machine) (arranging ∙ arranged_ended (standing r) e) in
    inr (subst HasEnded (sym same) e)
stands_there false true r a either at_end some arranging = inl (some refl)
stands_there false false r a either at_end some arranging = absurd (true≢false (sym either))

-- ---- tags and bounds

module _ (trunk : Trunk Entry) (own : ℕ) (limits : List ℕ) (index : ℕ) (job : JobState) where
  pub as_now : (made number : ℕ) (t : Ticket Entry) (refused : List ℕ) → made ≡ number → RecordsOfferedSoFar trunk own limits index job made t refused
      → RecordsOfferedSoFar trunk (tags_of t) (bounds_of t) index job number t refused
  as_now made number t refused is st = subst (λ (z : ℕ × List ℕ × ℕ). RecordsOfferedSoFar trunk z.0 z.1 index job z.2 t refused) (λ i. (sym st.tags i, sym st.bounds i, is i)) st

-- ---- the end

-- where it has ended, its records are all
all_told : AllRecords → CountsMessagesSent → (job : JobState) (r : JobRun) → IsSound (tree_in job) → r.machine.code ≡ code_of_tree (tree_in job) → r.machine.begun ≡ bus_of (job_in job) → IsUnderWay r.machine
    → HasEnded r.machine → r.machine.point.number ≡ length (records_of (as_played job r.machine))
all_told all counts job r sound code begun way ended =
    all_given all counts (job_in (as_played job r.machine)) r.machine.placed r.machine r.machine.point.number sound (record { code = code; plan = refl; actions = refl; begun = begun; under_way = way }) ended refl

-- what a thread returns that came to the end of its job
module _ (trunk : Trunk Entry) (given : Ticket Entry) (index : ℕ) (is_live : Bool) (job : JobState) (box : Mailbox) (most : ℕ) (before : Inbox) (r : JobRun) (t : Ticket Entry) (refused : List ℕ) (p : Posts) (e : Ended)
    (stage : IsStageBeside trunk (tags_of given) (bounds_of given) index most before job r t refused p) (ended : HasEnded r.machine) (all : AllRecords) (counts : CountsMessagesSent) (sound : IsSound (tree_in job))
    (live : is_live ≡ true) (timed : says_nothing job.timed ≡ false) (inbox : IsInboxOf box p.inbox) where
  whole_number : r.machine.point.number ≡ length (records_of (as_played job r.machine))
  whole_number = all_told all counts job r sound stage.goes_on.code stage.goes_on.begun stage.goes_on.kept.under_way ended

  pub ends_beside : IsTicketOf trunk e.ticket → tags_of e.ticket ≡ tags_of t → bounds_of e.ticket ≡ bounds_of t → sent e.ticket ≡ sent t ++ End index ∷ []
      → e.part.channel ≡ job.channel → e.part.channel ≤ 65535 → e.part.made ≡ r.machine.point.number → e.part.refused ≡ refused → (e.is_whole ≡ true → e.part.placed ≡ placed_up_to r.machine.point.number r.machine.placed)
      → e.inbox ≡ p.inbox → Offered trunk given index is_live job box most before e
  ends_beside ours tags bounds more channel high made refused_is placed inbox_is =
      let live_job : JobState = as_played job r.machine in
      let g = stage.goes_on in
      let number = r.machine.point.number in
      let fewer = few_beside most before job number g.posts p r.machine g.taken g.code g.kept.under_way (omega (arith, g.few)) in
      record {
        ended = sent_all trunk given index box live_job number t refused e stage.so_far ours tags bounds more (subst (IsInboxOf box) (sym inbox_is) inbox);
        whole = λ yes. record {
          posts = g.posts;
          live = live_job;
          means = beside_means is_live most job g.posts live_job live timed (record { last = standing r; goes = g.goes; ended = ended; live_is = refl });
          few = omega (arith, fewer, whole_number);
          placed = all_placed most before e.part.made g.posts p e.inbox (subst (λ n. AreTaken most before n g.posts p) (sym made) g.taken) inbox_is;
          offered = last_stage trunk given index live_job number t e.ticket refused e.part stage.so_far whole_number ours tags bounds more
              channel made refused_is (placed yes) (omega (arith, channel, high)) (few r.machine g.kept.under_way);
        };
      }

-- ---- a step, under the faults that are due

pub steps_on : (answer : Stepped) (r m n : JobRun) → m.machine ≡ faulted r.faults.faults r.machine → IsKept m → m.whens ≡ r.whens → m.faults ≡ r.faults
    → n.machine ≡ stepped m.machine → TellsStep m.machine n.machine answer → n.whens.left ≡ m.whens.left → n.faults.faults ≡ m.faults.faults → IsKept n → MayPlan n
    → (answer ≢ Halted → turns_left n.machine < turns_left m.machine) → (answer ≡ Halted → HasEnded n.machine) → StepsOn answer r n
steps_on answer r m n planned kept_m whens faults stepping tells left found kept may less ended = record {
  machine = stepping ∙ ap stepped planned;
  way = subst IsUnderWay planned kept_m.under_way;
  tells = subst (λ (v : MachineState). TellsStep v n.machine answer) planned tells;
  left = ap (λ (ls : List (Awaited Due)). map (λ (a : Awaited Due). record { moment = a.moment; action = a.payload.action }) ls) (left ∙ ap (λ (w : Waits Due). w.left) whens);
  faults = found ∙ ap (λ (v : PlanState). v.faults) faults;
  kept = kept;
  planned = may;
  less = λ not. subst (λ (v : MachineState). turns_left n.machine < turns_left v) planned (less not);
  ended = ended;
}

pub none_there : (ended comes : Bool) → (ended || comes) ≡ false → comes ≡ false
none_there true comes either = absurd (true≢false either)
none_there false comes either = either

-- ---- what a step tells

pub told_one : (answer : Stepped) (w : Record) → (answer ≡ Sent w) ⊎ (answer ≡ Inserted w) → records_told answer ≡ w ∷ []
told_one answer w (inl sent_is) = ap records_told sent_is
told_one answer w (inr inserted_is) = ap records_told inserted_is

pub told_none : (answer : Stepped) → (answer ≡ Ran) ⊎ (answer ≡ Halted) → records_told answer ≡ []
told_none answer (inl ran_is) = ap records_told ran_is
told_none answer (inr halted_is) = ap records_told halted_is

pub both_so : (a b : Bool) → (a && b) ≡ true → a ≡ true
both_so true b both = refl
both_so false b both = both
