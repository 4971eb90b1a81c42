use Rattle.std.proofs.Common.{◌≡◌, Some, length, sym, ap, ◌∙◌, subst, arith}
use Rattle.std.specs.List.{slice_get}
use Rattle.std.proofs.lemmas.List.{length-map}
use Rattle.job_file.specs.Jobs.{JobState}
use Rattle.bench_report.specs.Reports.{ChannelPart}
use Rattle.replay.specs.Places.{latest_kept_number, IsAfter}
use Rattle.replay.specs.Moves.{DebuggerState}
use Rattle.replay.specs.Tracks.{Pair}
use Rattle.replay.proofs.States.{shown, told_at}
use Rattle.replay.proofs.replaying.Replay.state.Goals as goal

is_after : (c : goal.After-machine) (job : JobState) (part : ChannelPart) → slice_get c.args.self.now.state.jobs c.args.index ≡ Some job → slice_get c.args.self.now.state.parts c.args.index ≡ Some part
    → IsAfter job part (latest_kept_number c.args.self.now.state.found c.args.self.now.state.place job part) c.machine.result.now
is_after c job part =
    let many : length c.args.self.now.state.jobs ≡ length c.self.inside.timeline.tracks.items =
    ap (λ (s : DebuggerState). length s.state.jobs) (sym c.self.view_is) ∙ length-map c.self.inside.timeline.tracks.items (λ (p : Pair). p.job) in
    subst (λ (s : DebuggerState). slice_get s.state.jobs c.args.index ≡ Some job → slice_get s.state.parts c.args.index ≡ Some part → IsAfter job part (latest_kept_number s.state.found s.state.place job part) c.machine.result.now) c.self.view_is
    (shown c.self.inside.timeline c.self.inside.index c.self.inside.place c.self.inside.replayed c.args.index c.index-track.result.now c.index.result.now c.machine.result.now job part c.self.invariant
    c.index-track.ensures c.index.ensures (omega (arith, c.requires, many)) c.machine.ensures)

pub returns-clause-of_job : goal.returns-clause-of_job
returns-clause-of_job c job part j q = (is_after c job part j q).of_job

pub returns-clause-number : goal.returns-clause-number
returns-clause-number c job part j q = (is_after c job part j q).number_is

pub returns-clause-bus : goal.returns-clause-bus
returns-clause-bus c job part j q = (is_after c job part j q).bus

pub returns-clause-made : goal.returns-clause-made
returns-clause-made c job part j q = (is_after c job part j q).made

pub returns-clause-outcome : goal.returns-clause-outcome
returns-clause-outcome c =
    let many : length c.args.self.now.state.jobs ≡ length c.self.inside.timeline.tracks.items =
    ap (λ (s : DebuggerState). length s.state.jobs) (sym c.self.view_is) ∙ length-map c.self.inside.timeline.tracks.items (λ (p : Pair). p.job) in
    told_at c.self.inside.timeline c.self.inside.index c.self.inside.place c.self.inside.replayed c.args.index c.index-track.result.now c.index.result.now c.machine.result.now c.self.invariant
    c.index-track.ensures c.index.ensures (omega (arith, c.requires, many)) c.machine.ensures
