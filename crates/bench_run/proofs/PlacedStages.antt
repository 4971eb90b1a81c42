-- The stages of a channel's thread while posts are placed.
use Rattle.std.proofs.Common.{◌≡◌, ℕ, ◌+◌, ◌-◌, ◌^◌, ◌<◌, ◌≤◌, List, [], ◌++◌, take, sym, ap, ◌∙◌, subst}
use Rattle.mil_trunk.specs.declared.trunk.Trunk.{Trunk}
use Rattle.mil_trunk.specs.declared.trunk.Ticket.{Ticket}
use Rattle.bc_machine.specs.declared.placed.Placed.{Placed}
use Rattle.bc_machine.specs.Running.{MachineState}
use Rattle.job_file.specs.Jobs.{JobState, job_in}
use Rattle.job_file.specs.Meaning.{records_in, records}
use Rattle.job_file.specs.Machines.{IsOf}
use Rattle.bench_run.specs.declared.entry.Entry.{Entry}
use Rattle.bench_mail.specs.declared.mailbox.Inbox.{Inbox}
use Rattle.bench_run.specs.declared.posting.Posts.{Posts}
use Rattle.bench_settings.specs.Placing.{placed_up_to}
use Rattle.bench_mail.specs.Mail.{times_empty}
use Rattle.job_file.specs.Beside.{with_posts}
use Rattle.bench_run.specs.Posted.{IsPosted}
use Rattle.bench_run.specs.Threads.{RecordsOfferedSoFar, IsThreadStage}
use Rattle.bench_run.proofs.Stages.{so_far_alike}
use Rattle.bench_run.proofs.PlacedPosts.{nothing_placed, posted_on}

-- the records so far of a controller of the job are the first of the job's
abbrev pub RecordsAre : JobState → Type 0
RecordsAre job = (placed : List Placed) (m : MachineState) → IsOf (job_in job) placed m → records_in m.point.state ≡ take m.point.number (records (job_in job) placed)

module _ (trunk : Trunk Entry) (own : ℕ) (limits : List ℕ) (index most : ℕ) (before : Inbox) (job : JobState) where
  -- nothing was taken or offered yet
  pub stage_first : (m : MachineState) (t : Ticket Entry) (refused : List ℕ) (p : Posts) → p.left ≡ most → p.inbox ≡ before → m.point.number ≡ 0
      → IsOf (job_in job) job.actions m → p.ordered.actions ≡ placed_up_to 1000000 job.actions
      → RecordsOfferedSoFar trunk own limits index (with_posts job []) m.point.number t refused → IsThreadStage trunk own limits index most before job m t refused p
  unfolding nothing_placed
  stage_first m t refused p left inbox first of ordered so_far = record { posted = nothing_placed most before job m p left inbox first of ordered; so_far = so_far }

  -- posts at messages to come change nothing of what was offered
  pub so_far_placed : (m m' : MachineState) (t : Ticket Entry) (refused : List ℕ) (p p' : Posts) → RecordsAre job → m'.point ≡ m.point
      → IsThreadStage trunk own limits index most before job m t refused p → (is : IsPosted most before job m' p') → RecordsOfferedSoFar trunk own limits index (with_posts job is.posts) m'.point.number t refused
  so_far_placed m m' t refused p p' law point st is =
      let n : ℕ = m.point.number in
      let number : n ≡ m'.point.number = ap (λ z. z.number) (sym point) in
      let earlier : List Placed = job.actions ++ st.posted.posts in
      let now : List Placed = job.actions ++ is.posts in
      let same : take n (records (job_in job) earlier) ≡ take n (records (job_in job) now) =
      sym (law earlier m st.posted.of) ∙ ap (λ z. records_in z.state) (sym point) ∙ law now m' is.of ∙ ap (λ k. take k (records (job_in job) now)) (sym number) in
      subst (λ k. RecordsOfferedSoFar trunk own limits index (with_posts job is.posts) k t refused) number
      (so_far_alike trunk own limits index (with_posts job st.posted.posts) (with_posts job is.posts) n t refused same st.so_far)

  -- one message more was offered
  pub stage_on : (m m' : MachineState) (t : Ticket Entry) (refused : List ℕ) (p : Posts) → (is : IsPosted most before job m p)
      → m.point.number ≤ m'.point.number → IsOf (job_in job) (job.actions ++ is.posts) m'
      → (0 < p.left → times_empty p.inbox < 2 ^ 64 - 1 → times_empty before + m'.point.number ≤ times_empty p.inbox)
      → RecordsOfferedSoFar trunk own limits index (with_posts job is.posts) m'.point.number t refused → IsThreadStage trunk own limits index most before job m' t refused p
  unfolding posted_on
  stage_on m m' t refused p is up of emptied so_far = record { posted = posted_on most before job m m' p is up of emptied; so_far = so_far }
