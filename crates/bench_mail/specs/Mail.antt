-- What a contract says of a mailbox, its posters and its inbox.
use Rattle.std.specs.Prelude.{◌≡◌, ℕ, ◌+◌, ◌^◌, ◌≤◌, ◌==◌, Bool, true, false, List, [], length}
use Rattle.std.specs.List.{list_any}
use Rattle.mil_trunk.specs.Tags.{has, bound_of, bounds_outside}
use Rattle.mil_trunk.specs.Ends.{IsTicketOf, IsTakerOf, capacity_of, tags_of, bounds_of, sent, received}
use Rattle.bc_machine.specs.declared.placed.HostAction.{HostAction}
use Rattle.bc_machine.specs.declared.placed.HostAction.TheVariants.{Terminal, Controller}
use Rattle.job_file.specs.Jobs.{JobState}
use Rattle.bench_mail.specs.declared.mailbox.Post.{Post}
use Rattle.bench_mail.specs.declared.mailbox.Mailbox.{Mailbox}
use Rattle.bench_mail.specs.declared.mailbox.Poster.{Poster}
use Rattle.bench_mail.specs.declared.mailbox.Inbox.{Inbox}
use Rattle.bench_mail.specs.declared.error.PostError.{PostError}
use Rattle.bench_mail.specs.declared.error.PostError.TheVariants as fault

-- how many posts the mailbox holds at most
abbrev pub room_of : Mailbox → ℕ
room_of box = capacity_of box.trunk

-- the hosts that the poster posts for
abbrev pub hosts_of : Poster → ℕ
hosts_of p = tags_of p.ticket

-- how many actions each host may post in all
abbrev pub limits_of : Poster → List ℕ
limits_of p = bounds_of p.ticket

-- what was posted with the poster, oldest first
abbrev pub posted : Poster → List Post
posted p = sent p.ticket

-- what was received with the inbox, oldest first
abbrev pub received_by : Inbox → List Post
received_by i = received i.taker

-- how often nothing was there to receive with the inbox; the count stops at 2^64 - 1
abbrev pub times_empty : Inbox → ℕ
times_empty i = i.empty

-- the poster is one of this mailbox
abbrev pub IsPosterOf : Mailbox → Poster → Type 0
IsPosterOf box p = IsTicketOf box.trunk p.ticket

-- with this poster, one of the mailbox, the host may post, and nothing was posted with it yet
pub record MayPost (host : ℕ) (box : Mailbox) (p : Poster) : Type 0 where
  pub poster : IsPosterOf box p
  pub holds : has (hosts_of p) host ≡ true
  pub limit : bound_of (limits_of p) host ≡ 2 ^ 55
  pub fresh : posted p ≡ []

-- the inbox is that of this mailbox
abbrev pub IsInboxOf : Mailbox → Inbox → Type 0
IsInboxOf box i = IsTakerOf box.trunk i.taker

-- whether there is a terminal at an address
abbrev pub stands_in : Mailbox → ℕ → Bool
stands_in box address = list_any (λ a. a == address) box.addresses.items

-- whether an action may be posted: one for a terminal where the job has it, one for the controller always
abbrev pub may_post : Mailbox → HostAction → Bool
may_post box (Terminal address action) = stands_in box address
may_post box (Controller control) = true

-- it was made for the channel and the terminals of this job
abbrev pub IsMadeFor : Mailbox → JobState → Type 0
IsMadeFor box job = (box.channel ≡ job.channel) × (box.addresses.items ≡ job.addresses)

-- what a refusal hands back and leaves: where there is a terminal, the mailbox was full
abbrev pub Returns : Mailbox → Poster → Poster → HostAction → PostError → Type 0
Returns box old new action (fault.NoTerminal back) = (back ≡ action) × (may_post box action ≡ false)
    × (posted new ≡ posted old)
Returns box old new action (fault.Full back) =
    (back ≡ action) × (may_post box action ≡ true) × (posted new ≡ posted old)
    × (room_of box ≤ length (posted old) + bounds_outside (hosts_of old) (limits_of old))
