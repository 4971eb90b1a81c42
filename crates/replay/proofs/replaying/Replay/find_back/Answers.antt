use Rattle.std.proofs.Common.{subst}
use Rattle.frame_tree.specs.Tree.{condition_in}
use Rattle.replay.specs.Moves.{DebuggerState, IsLatestMet, IsNowhereBefore}
use Rattle.replay.proofs.Finds.{rooms, goes_back_there, stays_behind, stops_there, somewhere}
use Rattle.replay.proofs.replaying.Replay.find_back.Goals as goal

pub latest_met-requires-clause-room : goal.latest_met-requires-clause-room
latest_met-requires-clause-room g c =
    rooms c.self.inside.timeline.tracks.items c.deref.result.now c.self.inside.index c.self.inside.timeline.channels.items c.deref-2.result.now c.deref.ensures.value c.deref-2.ensures.value c.self.invariant.agrees c.self.invariant.channels_are

pub returns-in-None-clause-refused : goal.returns-in-None-clause-refused
returns-in-None-clause-refused g c =
    subst (λ (s : DebuggerState). IsNowhereBefore s.state (condition_in c.args.condition.now)) c.self.view_is
    (stays_behind c.self.inside.timeline.tracks.items c.deref.result.now c.self.inside.index c.self.inside.place c.self.inside.timeline.channels.items c.deref-2.result.now c.deref.ensures.value c.deref-2.ensures.value
    (condition_in c.args.condition.now) c.self.invariant.channels_are c.in-None.ensures)

pub returns-in-Some-clause-there : goal.returns-in-Some-clause-there
returns-in-Some-clause-there g c =
    stops_there c.move_to.result c.args.self.now.state c.move_to.new.self.state (IsLatestMet c.args.self.now.state (condition_in c.args.condition.now)) c.in-Some.n c.move_to.ensures.moved
    (subst (λ (s : DebuggerState). IsLatestMet s.state (condition_in c.args.condition.now) c.in-Some.n) c.self.view_is
    (goes_back_there c.self.inside.timeline.tracks.items c.deref.result.now c.self.inside.index c.self.inside.place c.self.inside.timeline.channels.items c.deref-2.result.now c.deref.ensures.value c.deref-2.ensures.value
    (condition_in c.args.condition.now) c.self.invariant.channels_are c.in-Some.n c.in-Some.ensures))

pub returns-in-Some-clause-refused : goal.returns-in-Some-clause-refused
returns-in-Some-clause-refused g c =
    let met : IsLatestMet c.args.self.now.state (condition_in c.args.condition.now) c.in-Some.n =
    subst (λ (s : DebuggerState). IsLatestMet s.state (condition_in c.args.condition.now) c.in-Some.n) c.self.view_is
    (goes_back_there c.self.inside.timeline.tracks.items c.deref.result.now c.self.inside.index c.self.inside.place c.self.inside.timeline.channels.items c.deref-2.result.now c.deref.ensures.value c.deref-2.ensures.value
    (condition_in c.args.condition.now) c.self.invariant.channels_are c.in-Some.n c.in-Some.ensures) in
    somewhere c.move_to.result (IsNowhereBefore c.args.self.now.state (condition_in c.args.condition.now)) c.move_to.ensures.refused (λ none. none c.in-Some.n met.before met.met)
