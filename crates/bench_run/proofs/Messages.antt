-- How many messages a controller makes at most: those of its script and those that actions have inserted.
use Rattle.std.proofs.Common.{◌≡◌, ℕ, zero, suc, ◌+◌, ◌-◌, ◌<◌, ◌≤◌, ltb, Option, Some, None, List, [], ◌∷◌, ◌++◌, length, drop, ap, refl, arith}
use Rattle.std.specs.List.{cons_option}
use Rattle.std.proofs.lemmas.List.{length-append}
use Rattle.mil_word.specs.declared.Line.{Line}
use Rattle.mil_message.specs.declared.messages.Message.{Message}
use Rattle.mil_message.specs.World.{World, Point, sent}
use Rattle.mil_line.specs.Plans.{Planned}
use Rattle.mil_bus.specs.declared.outcomes.Outcome.{Outcome}
use Rattle.frame_code.specs.Table.{Code, Registers, Running, goes_on, start, run}
use Rattle.frame_load.specs.Budget.{worst_messages}
use Rattle.controller_host.specs.Values.{InsertionValue}
use Rattle.bc_machine.specs.declared.placed.Placed.{Placed}
use Rattle.bc_machine.specs.Agendas.{inserts_among}
use Rattle.bc_machine.specs.Hosting.{insertion_of, inserts_up_to, inserted_in, first_of, queue_at, next_insertion}
use Rattle.bc_machine.specs.Controller.{Setting, BusRun, setting_of, world_of, inserted_next, inserting, inserting_many, drained}
use Rattle.bc_machine.specs.Running.{MachineState, beginning, most_inserted}
use Rattle.bc_machine.specs.UnderWay.{IsUnderWay}
use Rattle.bc_machine.proofs.Asked.{inserts_no}
use Rattle.bc_machine.proofs.Inserting.{some_of_cond, both_kinds}
use Rattle.bc_machine.proofs.Left.{up_to_nothing, few_up_to}
use Rattle.bc_machine.proofs.Queued.{among_both, inserts_both, more_inserted, more_own}
use Rattle.bc_machine.proofs.Reached.{bus_is}
use Rattle.frame_asm.specs.Shapes.{code_of_tree}
use Rattle.job_file.specs.Jobs.{JobState, tree_in, job_in, own_inserts, said_inserts}
use Rattle.job_file.specs.Machines.{IsOf}
use Rattle.job_file.specs.Rooms.{most_items}
use Rattle.job_file.proofs.Moves.{run_keeps}
use Rattle.bench_mail.specs.declared.mailbox.Inbox.{Inbox}
use Rattle.bench_run.specs.declared.posting.Posts.{Posts}
use Rattle.bench_run.specs.Posted.{AreTaken, IsPosted}
use Rattle.bench_run.proofs.PlacedPosts.{few_posts}

-- ---- inserts among actions

one_of : (o : Option InsertionValue) (xs : List InsertionValue) (n : ℕ) → length xs ≤ n → length (cons_option o xs) ≤ suc n
one_of None xs n le = omega (arith, le)
one_of (Some x) xs n le = omega (arith, le)

-- no more than there are actions
pub few_among : (ps : List Placed) → length (inserts_among ps) ≤ length ps
few_among [] = omega arith
few_among (p ∷ ps) = one_of (insertion_of p.action) (inserts_among ps) (length ps) (few_among ps)

-- no more at numbers up to one than there are
one_few : (n : ℕ) (p : Placed) → length (inserts_up_to n (p ∷ [])) ≤ length (inserts_among (p ∷ []))
one_few n p = by_insert (insertion_of p.action) refl
  where
    by_insert : (o : Option InsertionValue) → insertion_of p.action ≡ o → length (inserts_up_to n (p ∷ [])) ≤ length (inserts_among (p ∷ []))
    by_insert None is = omega (arith, inserts_no n [] p is, ap length (ap inserts_among (up_to_nothing n)))
    by_insert (Some x) is =
        let one : length (inserts_among (p ∷ [])) ≡ 1 = ap (λ (o : Option InsertionValue). length (cons_option o [])) is in
        omega (arith, one, few_up_to n (p ∷ []))

inserts_few : (n : ℕ) (ps : List Placed) → length (inserts_up_to n ps) ≤ length (inserts_among ps)
inserts_few n [] = omega (arith, ap length (ap inserts_among (up_to_nothing n)))
inserts_few n (p ∷ ps) =
    let both = ap length (among_both (p ∷ []) ps) in
    omega (arith, both, length-append (inserts_among (p ∷ [])) (inserts_among ps), inserts_both n (p ∷ []) ps, one_few n p, inserts_few n ps)

some_left : (k : ℕ) (xs : List InsertionValue) (x : InsertionValue) → first_of (drop k xs) ≡ Some x → k < length xs
some_left zero [] x first = absurd cc
some_left zero (y ∷ ys) x first = omega arith
some_left (suc k) [] x first = absurd cc
some_left (suc k) (y ∷ ys) x first = let rest = some_left k ys x first in omega (arith, rest)

-- ---- inserted messages

module _ (plan : List Planned) (placed : List Placed) (most : ℕ) where
  abbrev w : World BusRun Outcome
  w = world_of plan placed most

  abbrev s : Setting
  s = setting_of plan placed most

  -- no more were inserted than actions ask for
  abbrev AreFew : BusRun → Type 0
  AreFew r = inserted_in r.made ≤ length (inserts_among placed)

  few_next : (gap : ℕ) (r : BusRun) → AreFew r → AreFew (inserting s gap r)
  few_next gap r few = by_next (next_insertion placed most r.made) refl
    where
      by_next : (o : Option InsertionValue) → next_insertion placed most r.made ≡ o → AreFew (inserted_next s gap o r)
      by_next None is = few
      by_next (Some x) is =
          let n : ℕ = length r.made + 1 in
          let first = some_of_cond (ltb (inserted_in r.made) most) (first_of (queue_at n placed r.made)) x is in
          let less = some_left (inserted_in r.made) (inserts_up_to n placed) x first.1 in
          omega (arith, less, inserts_few n placed, more_inserted r.made)

  few_many : (n gap : ℕ) (r : BusRun) → AreFew r → AreFew (inserting_many s n gap r)
  few_many zero gap r few = few
  few_many (suc n) gap r few = few_many n gap (inserting s gap r) (few_next gap r few)

  few_drained : (gap : ℕ) (r : BusRun) → AreFew r → AreFew (drained s gap r)
  unfolding drained
  few_drained gap r few = few_many (most - inserted_in r.made) gap r few

  few_sent : (line : Line) (m : Message) (p : Point BusRun Outcome) → AreFew p.state → AreFew (sent w line m p).state
  few_sent line m p few =
      let before = few_drained p.gap p.state few in
      omega (arith, before, more_own (drained s p.gap p.state).made m)

  few_run : (code : Code) (n : ℕ) (r : Registers) (p : Point BusRun Outcome) (x : Running BusRun Outcome) → run w n code r p ≡ goes_on x → AreFew p.state → AreFew x.point.state
  few_run code n r p x is =
      run_keeps w code (λ a b. AreFew a.state → AreFew b.state) (λ a few. few) (λ a t few. few) few_sent (λ t a few. few) (λ a b c first rest few. rest (first few)) n r p x is

few_inserted : (m : MachineState) → IsUnderWay m → inserted_in m.made ≤ length (inserts_among m.placed)
few_inserted m u =
    let r = u.reached in
    let most : ℕ = most_inserted m.code in
    let before = few_run m.plan m.placed most m.code m.taken (start m.code) (beginning m.begun) (record { at = m.at; point = r.point }) r.run (omega arith) in
    let now = few_many m.plan m.placed most r.count r.point.gap r.point.state before in
    let made = ap (λ (v : BusRun). inserted_in v.made) (bus_is m r) in
    omega (arith, now, made)

-- a controller makes at most its script's worst messages and those that its actions have inserted
pub few_made : (m : MachineState) → IsUnderWay m → m.point.number ≤ worst_messages m.code.operations + length (inserts_among m.placed)
few_made m u =
    let both = both_kinds m.made in
    let inserts = few_inserted m u in
    omega (arith, both, inserts, u.number, u.messages)

-- ---- as a channel's thread meets them

worst_same : (job : JobState) (m : MachineState) → m.code ≡ code_of_tree (tree_in job)
    → worst_messages m.code.operations ≡ worst_messages (code_of_tree (tree_in job)).operations
worst_same job m is = ap (λ (code : Code). worst_messages code.operations) is

pub inserts_more : (actions posts : List Placed) → own_inserts (actions ++ posts) ≤ own_inserts actions + length posts
inserts_more actions posts =
    let both = ap length (among_both actions posts) in
    omega (arith, both, length-append (inserts_among actions) (inserts_among posts), few_among posts)

-- fewer than the job may offer where as many are posted to it
pub few_live : (most : ℕ) (job : JobState) (posts : List Placed) (m : MachineState) → IsOf (job_in job) (job.actions ++ posts) m → length posts ≤ most
    → m.point.number < most_items most job
few_live most job posts m of few =
    let made = few_made m of.under_way in
    let inserts : length (inserts_among m.placed) ≡ own_inserts (job.actions ++ posts) = ap own_inserts of.actions in
    omega (arith, made, worst_same job m of.code, inserts, inserts_more job.actions posts, few)

pub few_offered : (most : ℕ) (before : Inbox) (job : JobState) (m n : MachineState) (p : Posts) (is : IsPosted most before job m p) → IsOf (job_in job) (job.actions ++ is.posts) n
    → n.point.number < most_items most job
few_offered most before job m n p is of =
    let few = few_posts most before m.point.number is.posts p is.taken in
    few_live most job is.posts n of (omega (arith, few))

-- the same where lines of the job are by time or by command
pub few_beside : (most : ℕ) (before : Inbox) (job : JobState) (number : ℕ) (posts : List Placed) (p : Posts) (m : MachineState) → AreTaken most before number posts p
    → m.code ≡ code_of_tree (tree_in job) → IsUnderWay m → own_inserts m.placed ≤ said_inserts job + length posts → m.point.number < most_items most job
few_beside most before job number posts p m taken code way inserts =
    let made = few_made m way in
    let few = few_posts most before number posts p taken in
    omega (arith, made, worst_same job m code, inserts, few)
