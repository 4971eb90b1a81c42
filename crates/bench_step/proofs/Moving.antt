-- What is replied to a move.
use Rattle.std.proofs.Common.{◌≡◌, ℕ, ◌+◌, ◌-◌, ◌≤◌, List, Option, Some, None, refl, ap, sym, subst, ◌∙◌, inl, inr, arith}
use Rattle.replay.specs.Moves.{ReplayState, total_of}
use Rattle.bench_places.specs.declared.sought.Sought.{Sought}
use Rattle.bench_places.specs.Places.{place_of}
use Rattle.judge_rules.specs.declared.rules.Selector.{Selector}
use Rattle.bench_step.specs.Commands.{forward, back, seek, selects, show, show_at}
use Rattle.ch11_reader.specs.Recording.{Found}
use Rattle.bench_report.specs.Reports.{ChannelPart}
use Rattle.bench_step.specs.Session.{Replies, IsMoveIfAny, IsMoveTo, RepliesPlaceFound, after_reply, selected_place}
use Rattle.bench_step.specs.declared.commands.Way.{Way}
use Rattle.bench_step.specs.declared.commands.Way.TheVariants.{On, Back}
use Rattle.bench_step.specs.declared.replies.Reply.{Reply}
use Rattle.bench_step.specs.declared.replies.Reply.TheVariants as reply

pub moved_on : (s : ReplayState) (k : ℕ) (r : Reply) → s.place + k ≤ total_of s → IsMoveTo (s.place + k) r → Replies s (forward k) r
moved_on s k (reply.At n) within is = (within, is)
moved_on s k (reply.Refused e) within is = rw is (λ past. absurd (omega arith))
moved_on s k (reply.Shown detail) within is = absurd is
moved_on s k (reply.Message n) within is = absurd is
moved_on s k reply.Help within is = absurd is
moved_on s k reply.Quit within is = absurd is
moved_on s k reply.Unknown within is = absurd is

pub moved_back : (s : ReplayState) (k : ℕ) (r : Reply) → k ≤ s.place → IsMoveTo (s.place - k) r → Replies s (back k) r
moved_back s k (reply.At n) within is = (within, is)
moved_back s k (reply.Refused e) within is = rw is (λ past. absurd (omega arith))
moved_back s k (reply.Shown detail) within is = absurd is
moved_back s k (reply.Message n) within is = absurd is
moved_back s k reply.Help within is = absurd is
moved_back s k reply.Quit within is = absurd is
moved_back s k reply.Unknown within is = absurd is

sought_at : (s : ReplayState) (what : Sought) (k place : ℕ) (r : Reply) → place_of what 0 k s.found ≡ Some place → IsMoveTo place r → Replies s (seek what k) r
sought_at s what k place (reply.At n) there is = there ∙ ap Some (sym is)
sought_at s what k place (reply.Refused e) there is = rw is (λ none. cc)
sought_at s what k place (reply.Shown detail) there is = absurd is
sought_at s what k place (reply.Message n) there is = absurd is
sought_at s what k place reply.Help there is = absurd is
sought_at s what k place reply.Quit there is = absurd is
sought_at s what k place reply.Unknown there is = absurd is

pub sought : (s : ReplayState) (what : Sought) (k : ℕ) (found : Option ℕ) (r : Reply) → found ≡ place_of what 0 k s.found → IsMoveIfAny found r → Replies s (seek what k) r
sought s what k None r none is = rw is (sym none)
sought s what k (Some place) r there is = sought_at s what k place r (sym there) is

-- what is replied where a selector leads to a message
finds_place : (found : Option ℕ) (place : ℕ) (r : Reply) → found ≡ Some place → IsMoveTo place r → RepliesPlaceFound found r
finds_place found place (reply.At n) there is = there ∙ ap Some (sym is)
finds_place found place (reply.Refused e) there is = inr is
finds_place found place (reply.Shown detail) there is = absurd is
finds_place found place (reply.Message n) there is = absurd is
finds_place found place reply.Help there is = absurd is
finds_place found place reply.Quit there is = absurd is
finds_place found place reply.Unknown there is = absurd is

-- and where it leads to one, or to none
finds_any : (found : Option ℕ) (r : Reply) → IsMoveIfAny found r → RepliesPlaceFound found r
finds_any None r is = rw is (inl refl)
finds_any (Some place) r is = finds_place (Some place) place r refl is

pub selected : (way : Way) (s : ReplayState) (found : List Found) (stands : ℕ) (place : Option ℕ) (selector : Selector) (r : Reply) → found ≡ s.found → stands ≡ s.place
    → place ≡ selected_place way selector stands found → IsMoveIfAny place r → Replies s (selects way selector) r
selected On s found stands place selector r same here there is = subst (λ (p : Option ℕ). RepliesPlaceFound p r) (rw (same, here) at there) (finds_any place r is)
selected Back s found stands place selector r same here there is = subst (λ (p : Option ℕ). RepliesPlaceFound p r) (rw (same, here) at there) (finds_any place r is)

-- a reply leaves the parts of the report as they are
parts_after : (s : ReplayState) (r : Reply) → (after_reply r s).parts ≡ s.parts
parts_after s (reply.At n) = refl
parts_after s (reply.Refused e) = refl
parts_after s (reply.Shown detail) = refl
parts_after s (reply.Message n) = refl
parts_after s reply.Help = refl
parts_after s reply.Quit = refl
parts_after s reply.Unknown = refl

pub same_parts : (s new : ReplayState) (parts : List ChannelPart) (r : Reply) → parts ≡ s.parts → new ≡ after_reply r s → parts ≡ new.parts
same_parts s new parts r same is = same ∙ sym (ap (λ (t : ReplayState). t.parts) is ∙ parts_after s r)

-- the message at the place
pub shows_place : (s : ReplayState) (n : ℕ) (r : Reply) → n ≡ s.place → Replies s (show_at n) r → Replies s show r
shows_place s n (reply.At k) is h = absurd h
shows_place s n (reply.Refused e) is h = subst (λ (k : ℕ). Replies s (show_at k) (reply.Refused e)) is h
shows_place s n (reply.Shown detail) is h = absurd h
shows_place s n (reply.Message k) is h = subst (λ (k2 : ℕ). Replies s (show_at k2) (reply.Message k)) is h
shows_place s n reply.Help is h = absurd h
shows_place s n reply.Quit is h = absurd h
shows_place s n reply.Unknown is h = absurd h
