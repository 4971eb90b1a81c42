-- What hosts that post beside a run need.
use Rattle.std.specs.Prelude.{◌≡◌, ℕ, ◌^◌, ◌<◌, ◌≤◌, true, List, length, Some, slice_get}
use Rattle.mil_trunk.specs.Tags.{has, bound_of}
use Rattle.bench_mail.specs.declared.mailbox.Mailbox.{Mailbox}
use Rattle.bench_mail.specs.declared.mailbox.Poster.{Poster}
use Rattle.bench_mail.specs.declared.mailbox.Inbox.{Inbox}
use Rattle.bench_mail.specs.Mail.{IsPosterOf, IsInboxOf, MayPost, hosts_of, limits_of, posted}

-- each value of a list and the one at its place in another
abbrev pub AreAlong : {X Y : Type 0} → (X → Y → Type 0) → List X → List Y → Type 0
AreAlong P xs ys = (k : ℕ) (x : _) (y : _) → slice_get xs k ≡ Some x → slice_get ys k ≡ Some y → P x y

-- there is a poster for each mailbox, with which a host may post
pub record MayPostToAll (host : ℕ) (boxes : List Mailbox) (posters : List Poster) : Type 0 where
  pub as_many : length posters ≡ length boxes
  pub each : AreAlong (MayPost host) boxes posters

-- mailboxes, for each a poster of host 0 and one of host 1, and their inboxes
pub record IsMail (boxes : List Mailbox) (firsts seconds : List Poster) (inboxes : List Inbox) : Type 0 where
  pub first : MayPostToAll 0 boxes firsts
  pub second : MayPostToAll 1 boxes seconds
  pub as_many : length inboxes ≡ length boxes
  pub ends : AreAlong IsInboxOf boxes inboxes

-- with the poster of a mailbox, which holds all hosts, at most so many actions were posted
pub record HasPosted (count : ℕ) (box : Mailbox) (p : Poster) : Type 0 where
  pub poster : IsPosterOf box p
  pub holds : (host : ℕ) → host < 64 → has (hosts_of p) host ≡ true
  pub limits : (host : ℕ) → host < 64 → bound_of (limits_of p) host ≡ 2 ^ 55
  pub few : length (posted p) ≤ count
