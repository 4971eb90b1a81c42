use Rattle.std.proofs.Common.{subst}
use Rattle.frame_tree.specs.Tree.{condition_in}
use Rattle.replay.specs.Moves.{DebuggerState, IsNextMet, IsNowhere}
use Rattle.replay.proofs.Finds.{rooms, goes_there, stays, stops_there, somewhere}
use Rattle.replay.proofs.replaying.Replay.find.Goals as goal

pub first_met-requires-clause-room : goal.first_met-requires-clause-room
first_met-requires-clause-room g c =
    rooms c.self.inside.timeline.tracks.items c.deref.result.now c.self.inside.index c.self.inside.timeline.channels.items c.deref-2.result.now c.deref.ensures.value c.deref-2.ensures.value c.self.invariant.agrees c.self.invariant.channels_are

pub returns-in-None-clause-refused : goal.returns-in-None-clause-refused
returns-in-None-clause-refused g c =
    subst (λ (s : DebuggerState). IsNowhere s.state (condition_in c.args.condition.now)) c.self.view_is
    (stays c.self.inside.timeline.tracks.items c.deref.result.now c.self.inside.index c.self.inside.place c.self.inside.timeline.channels.items c.deref-2.result.now c.deref.ensures.value c.deref-2.ensures.value
    (condition_in c.args.condition.now) c.self.invariant.channels_are c.in-None.ensures)

pub returns-in-Some-clause-there : goal.returns-in-Some-clause-there
returns-in-Some-clause-there g c =
    stops_there c.move_to.result c.args.self.now.state c.move_to.new.self.state (IsNextMet c.args.self.now.state (condition_in c.args.condition.now)) c.in-Some.n c.move_to.ensures.moved
    (subst (λ (s : DebuggerState). IsNextMet s.state (condition_in c.args.condition.now) c.in-Some.n) c.self.view_is
    (goes_there c.self.inside.timeline.tracks.items c.deref.result.now c.self.inside.index c.self.inside.place c.self.inside.timeline.channels.items c.deref-2.result.now c.deref.ensures.value c.deref-2.ensures.value
    (condition_in c.args.condition.now) c.self.invariant.channels_are c.in-Some.n c.in-Some.ensures))

pub returns-in-Some-clause-refused : goal.returns-in-Some-clause-refused
returns-in-Some-clause-refused g c =
    let met : IsNextMet c.args.self.now.state (condition_in c.args.condition.now) c.in-Some.n =
    subst (λ (s : DebuggerState). IsNextMet s.state (condition_in c.args.condition.now) c.in-Some.n) c.self.view_is
    (goes_there c.self.inside.timeline.tracks.items c.deref.result.now c.self.inside.index c.self.inside.place c.self.inside.timeline.channels.items c.deref-2.result.now c.deref.ensures.value c.deref-2.ensures.value
    (condition_in c.args.condition.now) c.self.invariant.channels_are c.in-Some.n c.in-Some.ensures) in
    somewhere c.move_to.result (IsNowhere c.args.self.now.state (condition_in c.args.condition.now)) c.move_to.ensures.refused (λ none. none c.in-Some.n met.past met.met)
