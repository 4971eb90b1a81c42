-- An action that a host posts: in the order of a channel's actions, and before its controller.
use Rattle.std.proofs.Common.{◌≡◌, ℕ, ◌+◌, ◌<◌, ◌≤◌, max, Bool, false, cond, eqb, ne_eqb, List, [], ◌∷◌, ◌++◌, length, take, refl, sym, ap, ◌∙◌, subst, arith}
use Rattle.std.proofs.lemmas.List.{append-nil, length-append}
use Rattle.std.proofs.lemmas.List.Elements.{filter-append}
use Rattle.bc_machine.specs.declared.placed.HostAction.{HostAction}
use Rattle.bc_machine.specs.declared.placed.Placed.{Placed}
use Rattle.bc_machine.specs.Controller.{placed_at}
use Rattle.bc_machine.specs.Running.{MachineState}
use Rattle.bc_machine.specs.Posting.{with_placed, with_room, at_next}
use Rattle.bc_machine.specs.UnderWay.{IsUnderWay}
use Rattle.job_file.specs.Jobs.{JobState, job_in}
use Rattle.job_file.specs.Meaning.{records}
use Rattle.job_file.specs.Machines.{IsOf}
use Rattle.bench_settings.specs.Placing.{placed_up_to}
use Rattle.bench_core.specs.Bench.{ChannelState, with_post}
use Rattle.bench_core.proofs.Foreseen.{records_posted}
use Rattle.bench_core.proofs.Offers.{AreRecorded}
use Rattle.bench_settings.proofs.Ordered.{up_to_same}

-- at a number that no message comes to it makes no difference
pub left_out : (most : ℕ) (actions : List Placed) (one : Placed) → most < one.number → placed_up_to most actions ≡ placed_up_to most (actions ++ one ∷ [])
left_out most actions one above = up_to_same most actions (actions ++ one ∷ []) (λ k low high.
    sym (filter-append (λ (p : Placed). eqb p.number k) actions (one ∷ [])
    ∙ ap (λ (b : Bool). placed_at k actions ++ cond b (one ∷ []) []) (ne_eqb one.number k (λ same. omega (arith, same, above, high)))
    ∙ append-nil (placed_at k actions)))

-- ---- a controller for which room was made and an action was placed at its next message

pub placed_next : (m x : MachineState) (number : ℕ) (a b : HostAction) → x ≡ with_room m 1 → number ≡ x.point.number → a ≡ b
    → ◌≡◌ {A = Placed} (record { number = number + 1; action = a }) (at_next m b)
placed_next m x number a b same is copy =
    let here : number + 1 ≡ m.point.number + 1 = ap (λ (n : ℕ). n + 1) (is ∙ ap (λ (y : MachineState). y.point.number) same) in
    λ i. record { number = here i; action = copy i }

pub moved_next : (m x n : MachineState) (a b : HostAction) → x ≡ with_room m 1 → a ≡ b → n ≡ with_placed x (x.placed ++ at_next x a ∷ [])
    → n ≡ with_placed (with_room m 1) (m.placed ++ at_next m b ∷ [])
moved_next m x n a b same copy is =
    is ∙ ap (λ (y : MachineState). with_placed y (y.placed ++ at_next y a ∷ [])) same
    ∙ ap (λ (c : HostAction). with_placed (with_room m 1) (m.placed ++ at_next m c ∷ [])) copy

-- where room was made no action comes back
pub never_back : (m x : MachineState) → x ≡ with_room m 1 → x.capacity ≤ length x.placed → ⊥
never_back m x is full =
    let capacity : x.capacity ≡ max m.capacity (length m.placed + 1) = ap (λ (y : MachineState). y.capacity) is in
    let long : length x.placed ≡ length m.placed = ap (λ (y : MachineState). length y.placed) is in
    omega (arith, capacity, long, full)

module _ (job : JobState) (m n : MachineState) (action : HostAction) (is : n ≡ with_placed (with_room m 1) (m.placed ++ at_next m action ∷ [])) where
  pub posted_of : IsUnderWay n → IsOf (job_in job) m.placed m → IsOf (job_in job) n.placed n
  posted_of under_way of = record {
    code = ap (λ (x : MachineState). x.code) is ∙ of.code;
    plan = ap (λ (x : MachineState). x.plan) is ∙ of.plan;
    actions = refl;
    begun = ap (λ (x : MachineState). x.begun) is ∙ of.begun;
    under_way = under_way;
  }

  pub posted_channel : (channel : ℕ) (refused : List ℕ) (ended : Bool)
      → ◌≡◌ {A = ChannelState} (record { channel = channel; job = job; placed = n.placed; made = n.point.number; refused = refused; ended = ended })
      (with_post (record { channel = channel; job = job; placed = m.placed; made = m.point.number; refused = refused; ended = ended }) action)
  posted_channel channel refused ended = ap (λ (x : MachineState). record { channel = channel; job = job; placed = x.placed; made = x.point.number; refused = refused; ended = ended }) is

  pub posted_recorded : AreRecorded (take m.point.number (records (job_in job) m.placed)) → AreRecorded (take n.point.number (records (job_in job) n.placed))
  posted_recorded all =
      subst (λ (x : MachineState). AreRecorded (take x.point.number (records (job_in job) x.placed))) (sym is)
      (subst AreRecorded (sym (records_posted (record { channel = 0; job = job; placed = m.placed; made = m.point.number; refused = []; ended = false }) action)) all)

  pub posted_number : n.point.number ≡ m.point.number
  posted_number = ap (λ (x : MachineState). x.point.number) is

  pub posted_placed : n.placed ≡ m.placed ++ at_next m action ∷ []
  posted_placed = ap (λ (x : MachineState). x.placed) is

  -- one post more
  pub posted_count : (own posts : ℕ) → length m.placed ≡ own + posts → length n.placed ≡ own + (posts + 1)
  posted_count own posts same =
      let long : length n.placed ≡ length (m.placed ++ at_next m action ∷ []) = ap (λ (x : MachineState). length x.placed) is in
      omega (arith, long, length-append m.placed (at_next m action ∷ []), same)
