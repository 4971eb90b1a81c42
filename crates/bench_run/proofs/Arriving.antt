-- What is done in front of a message, where lines of a job are by time or by command.
use Rattle.std.proofs.Common.{◌≡◌, ◌≢◌, ℕ, zero, suc, ◌+◌, ◌-◌, ◌<◌, ◌≤◌, ◌^◌, true, false, true≢false, List, [], ◌∷◌, ◌++◌, length, map, append-nil, refl, sym, ap, ◌∙◌, subst, arith}
use Rattle.std.specs.Prelude.{Option, Some, None, slice_get, min}
use Rattle.std.specs.List.{remove, cons_option, filter_map, list_all}
use Rattle.std.specs.Option.{option_map}
use Rattle.std.proofs.lemmas.List.{length-append, length-map}
use Rattle.mil_bus.specs.declared.talks.Talk.{Talk}
use Rattle.mil_line.specs.Ranges.{is_in_range}
use Rattle.bc_machine.specs.declared.placed.Placed.{Placed}
use Rattle.bc_machine.specs.declared.placed.HostAction.{HostAction}
use Rattle.controller_host.specs.Values.{InsertionValue}
use Rattle.bc_machine.specs.Hosting.{insertion_of}
use Rattle.bc_machine.specs.NextMessage.{coming_talk}
use Rattle.bc_machine.specs.Posting.{at_next}
use Rattle.bc_machine.specs.Running.{MachineState, HasEnded}
use Rattle.bc_machine.specs.UnderWay.{IsUnderWay}
use Rattle.job_moments.specs.declared.met.Met.{Met}
use Rattle.job_moments.specs.Planning.{PlannedFault, PlanState}
use Rattle.job_moments.specs.Waits.{Awaited, Waits}
use Rattle.job_file.specs.declared.job_run.Due.{Due}
use Rattle.job_file.specs.declared.job_run.JobRun.{JobRun}
use Rattle.job_file.specs.declared.timed.TimedAction.{TimedAction}
use Rattle.job_file.specs.Beside.{with_posted, StandsStill}
use Rattle.job_file.specs.Jobs.{own_inserts}
use Rattle.job_file.specs.Resolving.{standing, IsKept}
use Rattle.job_file.specs.Timed.{Standing, met_of, made_of, coming_met, due_now, done_at, done_times, with_action_now, arranged}
use Rattle.job_file.specs.TimedLines.{timed_inserts}
use Rattle.job_file.proofs.DueLemmas.{stands, none_comes, all_done, inserts_but, own_more}
use Rattle.job_file.proofs.RunLemmas.{none_met}
use Rattle.bench_mail.specs.Mail.{times_empty}
use Rattle.bench_run.specs.declared.posting.Posts.{Posts}
use Rattle.bench_run.specs.Beside.{HasRoom, Arrives}
use Rattle.bench_run.specs.Posted.{AreTaken, TakesPosts}
use Rattle.bench_run.proofs.PlacedPosts.{nothing_posted}

-- ---- what arranging keeps

-- the point, and room
pub record IsSamePlace (m n : MachineState) : Type 0 where
  pub point : n.point ≡ m.point
  pub capacity : n.capacity ≡ m.capacity

place_of_action : (o : Option TimedAction) (m : MachineState) → IsSamePlace m (with_action_now o m)
place_of_action None m = record { point = refl; capacity = refl }
place_of_action (Some w) m = record { point = refl; capacity = refl }

place_of_done : (o : Option ℕ) (s : Standing) → IsSamePlace s.machine (done_at o s).machine
place_of_done None s = record { point = refl; capacity = refl }
place_of_done (Some place) s = place_of_action (slice_get s.left place) s.machine

place_of_times : (n : ℕ) (s : Standing) → IsSamePlace s.machine (done_times n s).machine
place_of_times zero s = record { point = refl; capacity = refl }
place_of_times (suc n) s =
    let one = place_of_done (due_now (done_times n s)) (done_times n s) in
    let rest = place_of_times n s in
    record { point = one.point ∙ rest.point; capacity = one.capacity ∙ rest.capacity }

pub place_arranged : (s : Standing) → IsSamePlace s.machine (arranged s).machine
unfolding arranged
place_arranged s = place_of_times (length s.left) s

-- how many are placed and still to come, and how many messages these have inserted: no more
pub record AreNoMore (s t : Standing) : Type 0 where
  pub number : length t.machine.placed + length t.left ≤ length s.machine.placed + length s.left
  pub inserts : own_inserts t.machine.placed + timed_inserts t.left ≤ own_inserts s.machine.placed + timed_inserts s.left

one_more : (o : Option InsertionValue) (xs : List InsertionValue) → length (cons_option o xs) ≡ length xs + length (cons_option o [])
one_more None xs = omega arith
one_more (Some x) xs = omega arith

fewer : (ws : List TimedAction) (i : ℕ) → (length (remove ws i) ≤ length ws) × (timed_inserts (remove ws i) ≤ timed_inserts ws)
fewer [] zero = (omega arith, omega arith)
fewer [] (suc i) = (omega arith, omega arith)
fewer (w ∷ ws) zero = let more = one_more (insertion_of w.action) (filter_map (λ (u : TimedAction). insertion_of u.action) ws) in (omega arith, omega (arith, more))
fewer (w ∷ ws) (suc i) =
    let rest = fewer ws i in
    let more = one_more (insertion_of w.action) (filter_map (λ (u : TimedAction). insertion_of u.action) ws) in
    let less = one_more (insertion_of w.action) (filter_map (λ (u : TimedAction). insertion_of u.action) (remove ws i)) in
    (omega (arith, rest.0), omega (arith, rest.1, more, less))

one_fewer : (ws : List TimedAction) (i : ℕ) (w : TimedAction) → slice_get ws i ≡ Some w → length (remove ws i) + 1 ≡ length ws
one_fewer [] i w at = absurd cc
one_fewer (v ∷ ws) zero w at = omega arith
one_fewer (v ∷ ws) (suc i) w at = let rest = one_fewer ws i w at in omega (arith, rest)

no_more_at : (s : Standing) (place : ℕ) (o : Option TimedAction) → slice_get s.left place ≡ o → AreNoMore s (stands (remove s.left place) (with_action_now o s.machine))
no_more_at s place None at = let less = fewer s.left place in record { number = omega (arith, less.0); inserts = omega (arith, less.1) }
no_more_at s place (Some w) at =
    let one : Placed = at_next s.machine w.action in
    record {
      number = omega (arith, one_fewer s.left place w at, length-append s.machine.placed (one ∷ []));
      inserts = omega (arith, own_more s.machine.placed one, inserts_but s.left place w at);
    }

no_more_done : (o : Option ℕ) (s : Standing) → AreNoMore s (done_at o s)
no_more_done None s = record { number = omega arith; inserts = omega arith }
no_more_done (Some place) s = no_more_at s place (slice_get s.left place) refl

no_more_times : (n : ℕ) (s : Standing) → AreNoMore s (done_times n s)
no_more_times zero s = record { number = omega arith; inserts = omega arith }
no_more_times (suc n) s =
    let one = no_more_done (due_now (done_times n s)) (done_times n s) in
    let rest = no_more_times n s in
    record { number = omega (arith, one.number, rest.number); inserts = omega (arith, one.inserts, rest.inserts) }

pub no_more_arranged : (s : Standing) → AreNoMore s (arranged s)
unfolding arranged
no_more_arranged s = no_more_times (length s.left) s

-- where it has ended, nothing is due
pub arranged_ended : (s : Standing) → HasEnded s.machine → arranged s ≡ s
arranged_ended s e = all_done s 0 (omega arith) (none_comes s (none_met s.machine e))

-- where a message comes next, its talk does
pub talk_comes : (m : MachineState) (met : Met) → coming_met m ≡ Some met → coming_talk m ≢ None
talk_comes m met comes none = cc_some met (sym comes ∙ ap (λ (o : Option Talk). option_map (met_of m.begun.start) o) none)
  where
    cc_some : (x : Met) → Some x ≡ None → ⊥
    cc_some x e = absurd cc

pub no_talk : (f : Talk → Met) (o : Option Talk) → option_map f o ≡ None → o ≡ None
no_talk f None e = refl
no_talk f (Some talk) e = absurd cc

-- ---- posts

-- with posts, for which there was room
pub kept_posted : (r n : JobRun) (posted : List HostAction) → IsKept r → n.machine ≡ with_posted posted r.machine → n.whens ≡ r.whens → n.faults ≡ r.faults → n.origin ≡ r.origin
    → IsUnderWay n.machine → length posted + (length r.machine.placed + length (standing r).left) ≤ r.machine.capacity → IsKept n
kept_posted r n posted k machine whens faults origin way room =
    let made : made_of n.machine ≡ made_of r.machine = ap made_of machine in
    let number : n.machine.point.number ≡ r.machine.point.number = ap (λ (m : MachineState). m.point.number) machine in
    let capacity : n.machine.capacity ≡ r.machine.capacity = ap (λ (m : MachineState). m.capacity) machine in
    let placed : length n.machine.placed ≡ length r.machine.placed + length posted =
    ap (λ (m : MachineState). length m.placed) machine ∙ length-append r.machine.placed (map (at_next r.machine) posted) ∙ ap (λ k. length r.machine.placed + k) (length-map posted (at_next r.machine)) in
    let left : length (standing r).left ≡ length r.whens.left = length-map r.whens.left (λ (a : Awaited Due). record { moment = a.moment; action = a.payload.action }) in
    let same : length n.whens.left ≡ length r.whens.left = ap (λ (w : Waits Due). length w.left) whens in
    record {
      under_way = way;
      made = ap (λ (w : Waits Due). w.made) whens ∙ k.made ∙ sym made;
      met = ap (λ (v : PlanState). v.made) faults ∙ k.met ∙ sym made;
      number = ap length made ∙ k.number ∙ sym number;
      origin = ap (λ (m : MachineState). m.begun.start) machine ∙ k.origin ∙ sym origin;
      room = omega (arith, capacity, placed, same, left, room);
      ranges = ap (λ (v : PlanState). list_all (λ (p : PlannedFault). is_in_range p.fault) v.faults) faults ∙ k.ranges;
    }

-- what is taken in front of a message, or where none comes any more
pub arrives_there : (r a n : JobRun) (p q : Posts) → standing a ≡ arranged (standing r) → a.faults ≡ r.faults → IsKept a → HasRoom r p → StandsStill a.machine
    → TakesPosts a.machine n.machine p q → IsUnderWay n.machine → n.whens ≡ a.whens → n.faults ≡ a.faults → n.origin ≡ a.origin
    → (a.machine.point.number < 1000000 → 0 < q.left → times_empty q.inbox ≡ min (times_empty p.inbox + 1) (2 ^ 64 - 1)) → q.left ≤ p.left
    → Arrives true r n p q
arrives_there r a n p q arranging faults kept room still takes way whens faults' origin emptied fewer_left =
    let t : Standing = arranged (standing r) in
    let machine : a.machine ≡ t.machine = ap (λ (v : Standing). v.machine) arranging in
    let left : (standing n).left ≡ t.left = ap (λ (w : Waits Due). map (λ (x : Awaited Due). record { moment = x.moment; action = x.payload.action }) w.left) whens ∙ ap (λ (v : Standing). v.left) arranging in
    let few = no_more_arranged (standing r) in
    let same = place_arranged (standing r) in
    let placed_a : length a.machine.placed ≡ length t.machine.placed = ap (λ (m : MachineState). length m.placed) machine in
    let left_a : length (standing a).left ≡ length t.left = ap (λ (v : Standing). length v.left) arranging in
    let capacity_a : a.machine.capacity ≡ r.machine.capacity = ap (λ (m : MachineState). m.capacity) machine ∙ same.capacity in
    let number : a.machine.point.number ≡ r.machine.point.number = ap (λ (m : MachineState). m.point.number) machine ∙ ap (λ z. z.number) same.point in
    let enough : length takes.posted + (length a.machine.placed + length (standing a).left) ≤ a.machine.capacity = omega (arith, room, few.number, placed_a, left_a, capacity_a, takes.few) in
    let placed_n : length n.machine.placed ≡ length a.machine.placed + length takes.posted =
    ap (λ (m : MachineState). length m.placed) takes.machine ∙ length-append a.machine.placed (map (at_next a.machine) takes.posted) ∙ ap (λ k. length a.machine.placed + k) (length-map takes.posted (at_next a.machine)) in
    let capacity_n : n.machine.capacity ≡ a.machine.capacity = ap (λ (m : MachineState). m.capacity) takes.machine in
    let left_n : length (standing n).left ≡ length t.left = ap length left in
    record {
      posted = takes.posted;
      left = left;
      machine = takes.machine ∙ ap (with_posted takes.posted) machine;
      faults = faults' ∙ faults;
      kept = kept_posted a n takes.posted kept takes.machine whens faults' origin way enough;
      room = omega (arith, room, few.number, placed_a, left_n, capacity_a, placed_n, capacity_n, takes.few);
      still = λ yes. subst StandsStill machine still;
      quiet = λ no. absurd (true≢false no);
      taken = λ most before posts was.
          subst (λ (z : ℕ × MachineState). AreTaken most before z.0 (posts ++ map (at_next z.1) takes.posted) q) (λ i. (number i, machine i))
          (takes.taken most before posts (subst (λ k. AreTaken most before k posts p) (sym number) was));
      left_posts = fewer_left;
      emptied = λ yes low some. emptied (omega (arith, low, number)) some;
    }

-- elsewhere nothing is taken
pub arrives_nowhere : (r a : JobRun) (p : Posts) → standing a ≡ arranged (standing r) → a.faults ≡ r.faults → IsKept a → HasRoom r p → coming_met a.machine ≡ None → Arrives false r a p p
arrives_nowhere r a p arranging faults kept room none =
    let t : Standing = arranged (standing r) in
    let machine : a.machine ≡ t.machine = ap (λ (v : Standing). v.machine) arranging in
    let few = no_more_arranged (standing r) in
    let same = place_arranged (standing r) in
    let placed_a : length a.machine.placed ≡ length t.machine.placed = ap (λ (m : MachineState). length m.placed) machine in
    let left_a : length (standing a).left ≡ length t.left = ap (λ (v : Standing). length v.left) arranging in
    let capacity_a : a.machine.capacity ≡ r.machine.capacity = ap (λ (m : MachineState). m.capacity) machine ∙ same.capacity in
    record {
      posted = [];
      left = ap (λ (v : Standing). v.left) arranging;
      machine = machine ∙ nothing_posted t.machine;
      faults = faults;
      kept = kept;
      room = omega (arith, room, few.number, placed_a, left_a, capacity_a);
      still = λ yes. absurd (true≢false (sym yes));
      quiet = λ no. (refl, refl, subst (λ (m : MachineState). coming_met m ≡ None) machine none);
      taken = λ most before posts was. subst (λ (ps : List Placed). AreTaken most before r.machine.point.number ps p) (sym (append-nil posts)) was;
      left_posts = omega arith;
      emptied = λ yes. absurd (true≢false (sym yes));
    }
