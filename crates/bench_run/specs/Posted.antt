-- What a channel's thread has taken from its mailbox, and where it placed it.
use Rattle.std.specs.Prelude.{◌≡◌, ℕ, ◌+◌, ◌-◌, ◌^◌, ◌<◌, ◌≤◌, List, ◌++◌, length, map, take}
use Rattle.std.specs.List.{AllByRecursion}
use Rattle.bc_machine.specs.declared.placed.Placed.{Placed}
use Rattle.bc_machine.specs.declared.placed.HostAction.{HostAction}
use Rattle.bc_machine.specs.Posting.{at_next}
use Rattle.bc_machine.specs.Running.{MachineState}
use Rattle.job_file.specs.Beside.{with_posted}
use Rattle.job_file.specs.Jobs.{JobState, job_in}
use Rattle.job_file.specs.Machines.{IsOf}
use Rattle.bench_report.specs.Reports.{NeverFalls}
use Rattle.bench_settings.specs.Placing.{placed_up_to}
use Rattle.bench_mail.specs.declared.mailbox.Post.{Post}
use Rattle.bench_run.specs.declared.posting.Posts.{Posts}
use Rattle.bench_mail.specs.declared.mailbox.Inbox.{Inbox}
use Rattle.bench_mail.specs.Mail.{received_by, times_empty}
use Rattle.bench_run.specs.Live.{asked_by, asked_at}

-- The posts that were received behind `before`, where so many messages were made: they were placed as `posts`, from the
-- first on and each once, at messages up to the next one; as long as more may be taken, all of them were, and the
-- mailbox was found empty before each message that was made.
pub record AreTaken (most : ℕ) (before : Inbox) (number : ℕ) (posts : List Placed) (p : Posts) : Type 0 where
  pub got : List Post
  pub received : received_by p.inbox ≡ received_by before ++ got
  pub few : length got + p.left ≤ most
  pub first : map asked_at posts ≡ take (length posts) (map asked_by got)
  pub all : 0 < p.left → length posts ≡ length got
  pub rest : length posts ≡ length got → length got + p.left ≡ most
  pub nearly_all : length got ≤ length posts + 1
  pub emptied : 0 < p.left → times_empty p.inbox < 2 ^ 64 - 1
      → times_empty before + number ≤ times_empty p.inbox
  pub order : NeverFalls 1 posts
  pub latest : AllByRecursion (λ q. q.number ≤ number + 1) posts

-- The posts were taken and placed, the controller runs the job with them, and they stand among the ordered actions.
pub record IsPosted (most : ℕ) (before : Inbox) (job : JobState) (m : MachineState) (p : Posts) : Type 0 where
  pub posts : List Placed
  pub taken : AreTaken most before m.point.number posts p
  pub of : IsOf (job_in job) (job.actions ++ posts) m
  pub ordered : p.ordered.actions ≡ placed_up_to 1000000 (job.actions ++ posts)

-- What was taken in front of a message: these actions were placed at its number, in this order, behind what is placed.
pub record TakesPosts (m m' : MachineState) (p p' : Posts) : Type 0 where
  pub posted : List HostAction
  pub machine : m' ≡ with_posted posted m
  pub few : length posted + p'.left ≤ p.left
  pub taken : (most : ℕ) (before : Inbox) (posts : List Placed) → AreTaken most before m.point.number posts p
      → AreTaken most before m.point.number (posts ++ map (at_next m) posted) p'
