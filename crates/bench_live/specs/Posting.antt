-- Lines that are posted while a run goes on (own choice): each once, in their order and to its channel, or told.
use Rattle.std.specs.Prelude.{◌≡◌, ℕ, ◌+◌, ◌-◌, ◌^◌, ◌≤◌, ◌==◌, min, Bool, true, false, List, [], ◌∷◌, ◌++◌, length}
use Rattle.std.specs.Prelude.{map, slice_get, Option, None, Some, IfSome, Result, Ok, Err, ⊤}
use Rattle.std.specs.List.{filter, position_or_len, AllByRecursion}
use Rattle.mil_trunk.specs.Tags.{has, bound_of}
use Rattle.text_lines.specs.Words.{Text}
use Rattle.text_lines.specs.Lines.{text_lines}
use Rattle.bench_settings.specs.Lawful.{most_posts}
use Rattle.bench_mail.specs.declared.mailbox.Post.{Post}
use Rattle.bench_mail.specs.declared.mailbox.Mailbox.{Mailbox}
use Rattle.bench_mail.specs.declared.mailbox.Inbox.{Inbox}
use Rattle.bench_mail.specs.Mail.{IsPosterOf, hosts_of, limits_of, posted, may_post}
use Rattle.bench_run.specs.Live.{AreInboxesOf}
use Rattle.bench_live.specs.Lines.{post_of}
use Rattle.bench_live.specs.declared.line.LivePost.{LivePost}
use Rattle.bench_live.specs.declared.desk.Desk.{Desk}
use Rattle.bench_live.specs.declared.desk.Hand.{Hand}
use Rattle.bench_live.specs.declared.posting.PostFault.{PostFault}
use Rattle.bench_live.specs.declared.posting.PostFault.TheVariants as fault
use Rattle.bench_live.specs.declared.posting.Told.{Told}

-- with the hand of a mailbox host 0 may post, and this is how many it has posted, at most as many as a channel takes
pub record IsHandOf (box : Mailbox) (h : Hand) : Type 0 where
  pub poster : IsPosterOf box h.poster
  pub holds : has (hosts_of h.poster) 0 ≡ true
  pub limit : bound_of (limits_of h.poster) 0 ≡ 2 ^ 55
  pub counted : h.count ≡ length (posted h.poster)
  pub few : h.count ≤ most_posts

-- there is a channel, a flag and a hand for each mailbox
pub record AreHandsOf (desk : Desk) (hands : List Hand) : Type 0 where
  pub channels : length desk.channels.items ≡ length desk.boxes.items
  pub ended : length desk.ended.items ≡ length desk.boxes.items
  pub as_many : length hands ≡ length desk.boxes.items
  pub each : (k : ℕ) (box : Mailbox) (h : Hand) → slice_get desk.boxes.items k ≡ Some box → slice_get hands k ≡ Some h
      → IsHandOf box h

-- nothing was posted yet
abbrev pub AreFresh : List Hand → Type 0
AreFresh hands = AllByRecursion (λ (h : Hand). posted h.poster ≡ []) hands

-- a desk with hands that have posted nothing, and the inboxes of its mailboxes
pub record IsOpened (desk : Desk) (hands : List Hand) (inboxes : List Inbox) : Type 0 where
  pub hands_are : AreHandsOf desk hands
  pub fresh : AreFresh hands
  pub as_many : length inboxes ≡ length desk.boxes.items
  pub ends : AreInboxesOf desk.boxes.items inboxes

-- the post of host 0
abbrev pub as_post : LivePost → Post
as_post p = record { host = 0; action = p.action }

abbrev pub is_channel : ℕ → ℕ → Bool
is_channel channel c = c == channel

-- whether the channel of a post is the one at a place
abbrev pub is_for : List ℕ → ℕ → LivePost → Bool
is_for channels k p = position_or_len (is_channel p.channel) channels == k

-- the posts for the channel at a place
abbrev pub posts_for : List ℕ → ℕ → List LivePost → List Post
posts_for channels k posts = map as_post (filter (is_for channels k) posts)

-- to each channel went, behind what was posted before, what was asked for it, each once and in that order
pub record HavePosted (desk : Desk) (posts : List LivePost) (before after : List Hand) : Type 0 where
  pub as_many : length after ≡ length before
  pub each : (k : ℕ) (h h' : Hand) → slice_get before k ≡ Some h → slice_get after k ≡ Some h'
      → posted h'.poster ≡ posted h.poster ++ posts_for desk.channels.items k posts

-- why an action is not posted to a channel: there is no terminal, or so many were posted; nothing is said of when a
-- script ended
abbrev pub IsPostRefusal : Mailbox → Hand → LivePost → PostFault → Type 0
IsPostRefusal box h post (fault.Line bad) = ⊥
IsPostRefusal box h post (fault.NoChannel channel) = ⊥
IsPostRefusal box h post fault.NoTerminal = may_post box post.action ≡ false
IsPostRefusal box h post (fault.Spent channel) = (channel ≡ post.channel) × (length (posted h.poster) ≡ most_posts)
IsPostRefusal box h post (fault.Ended channel) = channel ≡ post.channel

-- a refusal posts nothing
abbrev pub LeavesHand : Mailbox → Hand → Hand → LivePost → PostFault → Type 0
LeavesHand box old new post f = (posted new.poster ≡ posted old.poster) × IsPostRefusal box old post f

-- the fault of a line that asks for a post, at its channel's place
abbrev pub IsPostFaultAt : Desk → List Hand → LivePost → PostFault → Type 0
IsPostFaultAt desk hands post (fault.Line bad) = ⊥
IsPostFaultAt desk hands post (fault.NoChannel channel) =
    (channel ≡ post.channel) × (position_or_len (is_channel post.channel) desk.channels.items
    ≡ length desk.channels.items)
IsPostFaultAt desk hands post f =
    (box : Mailbox) × (h : Hand) ×
    (slice_get desk.boxes.items (position_or_len (is_channel post.channel) desk.channels.items) ≡ Some box)
    × (slice_get hands (position_or_len (is_channel post.channel) desk.channels.items) ≡ Some h)
    × IsPostRefusal box h post f

-- the fault of a line
abbrev pub IsFault : Desk → List Hand → Text → PostFault → Type 0
IsFault desk hands line (fault.Line bad) = post_of line ≡ Err bad
IsFault desk hands line f = (post : LivePost) × (post_of line ≡ Ok post) × IsPostFaultAt desk hands post f

-- a line was posted, or has a fault and was not
abbrev pub IsLineDone : Desk → Text → List Hand → List Hand → Result ⊤ PostFault → Type 0
IsLineDone desk line before after (Ok done) = (post : LivePost) × (post_of line ≡ Ok post)
    × HavePosted desk (post ∷ []) before after
IsLineDone desk line before after (Err f) = HavePosted desk [] before after × IsFault desk before line f

-- the lines ask for these posts
abbrev pub AskFor : List Text → List LivePost → Type 0
AskFor lines posts = map post_of lines ≡ map (λ (p : LivePost). Ok p) posts

-- where the bytes of the input are known, these lines were read, and the rest is left
abbrev pub AreRead : Option (List ℕ) → Option (List ℕ) → List Text → Type 0
AreRead left leaves lines = IfSome left
    (λ text. (rest : List ℕ) × (leaves ≡ Some rest) × (text_lines text ≡ lines ++ text_lines rest))

-- lines were read and posted
pub record HaveGone (desk : Desk) (left leaves : Option (List ℕ)) (before after : List Hand) : Type 0 where
  pub lines : List Text
  pub posts : List LivePost
  pub read : AreRead left leaves lines
  pub asked : AskFor lines posts
  pub posted : HavePosted desk posts before after

-- the number of the last of so many lines behind the line of a number; the count stops at 2^64 - 1
abbrev pub number_behind : ℕ → ℕ → ℕ
number_behind number lines = min (number + lines) (2 ^ 64 - 1)

-- All lines were posted, and none is left; or those before the first that has a fault, which is told with its number
-- and not posted. The lines are counted on from the number of the last line before them.
abbrev pub IsCallDone : Desk → ℕ → ℕ → Option (List ℕ) → Option (List ℕ) → List Hand → List Hand → Option Told → Type 0
IsCallDone desk number last left leaves before after None =
    (gone : HaveGone desk left leaves before after) × (last ≡ number_behind number (length gone.lines))
    × IfSome left (λ text. leaves ≡ Some [])
IsCallDone desk number last left leaves before after (Some told) =
    (mid : List Hand) × (then : Option (List ℕ)) × (line : Text) × (gone : HaveGone desk left then before mid)
    × (told.number ≡ number_behind number (length gone.lines + 1)) × (last ≡ told.number)
    × AreRead then leaves (line ∷ []) × IsFault desk mid line told.fault × HavePosted desk [] mid after
