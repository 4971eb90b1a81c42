use Rattle.std.proofs.Common.{◌≡◌, ◌≤◌, ℕ, List, length, map, ap, ◌∙◌, arith}
use Rattle.std.specs.VecDeque.{deque_capacity}
use Rattle.std.proofs.lemmas.List.{take_all}
use Rattle.bench_report.specs.Reports.{ChannelPart}
use Rattle.bench_core.specs.Bench.{ChannelState}
use Rattle.bench_core.specs.Channels.{report_part}
use Rattle.bench_core.specs.World.{state_in, report_of}
use Rattle.bench_core.proofs.Fields.{few_packets}
use Rattle.bench_core.proofs.world.World.report.Goals as goal

pub make-requires : goal.make-requires
make-requires c =
    let w = c.self.inside in
    let few = few_packets (deque_capacity w.queue) w.builders.items w.file.items w.packets (state_in w) c.self.invariant in
    omega (arith, few)

pub returns : goal.returns
returns c =
    let w = c.self.inside in
    let ls = w.channels.items in
    let channels : c.deref-channel-items.result.now ≡ ls = c.deref-channel-items.ensures.value in
    let low : length ls ≤ c.loop-channel.channel-index = omega (arith, c.loop-channel-test.false, ap (λ (ls : List ChannelState). length ls) channels) in
    let all : c.loop-channel.channels.items ≡ map report_part ls = c.loop-channel.invariant ∙ ap (map report_part) (take_all c.loop-channel.channel-index ls low) in
    c.make.ensures
    ∙ ap (λ (ps : List ChannelPart). record { channels = ps; packets = w.packets }) all
    ∙ ap (λ (n : ℕ). record { channels = map report_part (state_in w).bench.channels; packets = n }) c.self.invariant.packets
    ∙ ap report_of c.self.view_is
