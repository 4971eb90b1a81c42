use Rattle.std.proofs.Common.{ℕ, List, [], length, refl, sym, ap, ◌∙◌, subst, arith}
use Rattle.replay.specs.declared.checkpoints.Stop.{Stop}
use Rattle.replay.specs.Standings.{AreCheckpoints, places_of}
use Rattle.replay.specs.Keeping.{AreSpaced}
use Rattle.replay.proofs.Standing.{begun_at}
use Rattle.replay.proofs.Replayed.{agreed, agreed_pairs, have_room, opened}
use Rattle.replay.proofs.replaying.Replay.open.Goals as goal

pub open-requires-clause-room : goal.open-requires-clause-room
open-requires-clause-room c =
    have_room c.in_ok-tracks.tracks.items c.args.index c.in_ok-channels.channels.items
    (agreed_pairs c.in_ok-tracks.tracks.items c.args.jobs.now c.channels-parts.result.now c.args.index c.in_ok-tracks.ensures.jobs c.in_ok-tracks.ensures.parts
    (agreed c.args.jobs.now c.channels-parts.result.now c.args.index c.in_ok-compare_channels.ensures.channels c.in_ok-compare_channels.ensures.known c.in_ok-tracks.ensures.agree))
    c.in_ok-channels.ensures

pub tracks-requires-clause-channels : goal.tracks-requires-clause-channels
tracks-requires-clause-channels c = c.deref-2.ensures.value ∙ c.in_ok-channels.ensures

pub tracks-requires-clause-spaced : goal.tracks-requires-clause-spaced
tracks-requires-clause-spaced c =
    subst (λ (cs : List ℕ). AreSpaced (length cs) (length c.in_ok-stops.stops.items)) (c.deref.ensures.value ∙ sym c.deref-2.ensures.value) c.in_ok-stops.ensures.spaced

pub tracks-requires-clause-stops : goal.tracks-requires-clause-stops
tracks-requires-clause-stops c =
    subst (λ (cs : List ℕ). AreCheckpoints [] cs c.in_ok-stops.stops.items) (c.deref.ensures.value ∙ sym c.deref-2.ensures.value) c.in_ok-stops.ensures.stops

pub open-requires-clause-checkpoints : goal.open-requires-clause-checkpoints
open-requires-clause-checkpoints c =
    subst (λ (cs : List ℕ). AreCheckpoints c.in_ok-tracks.tracks.items cs c.tracks.new.stops.items) c.deref-2.ensures.value c.in_ok-tracks.ensures.states

pub open-requires-clause-enough : goal.open-requires-clause-enough
open-requires-clause-enough c = omega (arith, c.in_ok-stops.ensures.spaced.enough, ap length c.deref.ensures.value, c.in_ok-tracks.ensures.count)

pub open-requires-clause-live : goal.open-requires-clause-live
open-requires-clause-live c =
    begun_at c.in_ok-tracks.tracks.items c.args.jobs.now c.channels-parts.result.now c.in_ok-channels.channels.items c.in_ok-live.live.items c.in_ok-tracks.ensures.jobs c.in_ok-tracks.ensures.parts c.in_ok-live.ensures

pub open-requires-clause-next : goal.open-requires-clause-next
open-requires-clause-next c =
    begun_at c.in_ok-tracks.tracks.items c.args.jobs.now c.channels-parts.result.now c.in_ok-channels.channels.items c.in_ok-next.next.items c.in_ok-tracks.ensures.jobs c.in_ok-tracks.ensures.parts c.in_ok-next.ensures

pub invariant_of-result : goal.invariant_of-result
invariant_of-result c =
    opened c.in_ok-timeline.timeline c.in_ok-tracks.tracks.items c.args.index c.in_ok-channels.channels.items (ap (λ v. v.items) c.in_ok-timeline.ensures.tracks) (ap (λ v. v.items) c.in_ok-timeline.ensures.channels)
    (agreed_pairs c.in_ok-tracks.tracks.items c.args.jobs.now c.channels-parts.result.now c.args.index c.in_ok-tracks.ensures.jobs c.in_ok-tracks.ensures.parts
    (agreed c.args.jobs.now c.channels-parts.result.now c.args.index c.in_ok-compare_channels.ensures.channels c.in_ok-compare_channels.ensures.known c.in_ok-tracks.ensures.agree))
    c.in_ok-channels.ensures c.in_ok-timeline.ensures.stands

pub returns-clause-agrees : goal.returns-clause-agrees
returns-clause-agrees c =
    rw (← c.channels-parts.ensures.value) (agreed c.args.jobs.now c.channels-parts.result.now c.args.index c.in_ok-compare_channels.ensures.channels c.in_ok-compare_channels.ensures.known c.in_ok-tracks.ensures.agree)

pub returns-clause-none : goal.returns-clause-none
returns-clause-none c = (refl, ap (λ (stops : List Stop). places_of stops) c.in_ok-timeline.ensures.recent)
