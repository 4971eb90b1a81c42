use Rattle.std.proofs.Common.{refl}
use Rattle.judge_rules.specs.Lines.{expected_in}
use Rattle.judge_rules.proofs.line_rules.read_expected.Goals as goal

pub returns : goal.returns
unfolding expected_in
returns c =
    let channel = c.read_channel-channel.ensures in
    let bus = c.read_bus-bus.ensures in
    let span = c.read_span-span.ensures in
    let selector = c.read_selector-selector.ensures in
    rw (c.both-4.ensures, c.both-3.ensures, c.both-2.ensures, c.both.ensures, c.fitting-check.ensures, c.read_check-check.ensures, selector.value, selector.rest, span.value, span.rest, bus.value, bus.rest, channel.value, channel.rest) refl
