use Rattle.std.proofs.Common.{sym, ap, ◌∙◌}
use Rattle.ch11_builder.specs.Held.{latest_number}
use Rattle.ch11_recording.specs.Items.{numbered}
use Rattle.ch11_recording.proofs.open_channel.OpenChannel.keep.Goals as goal

pub invariant_of-self : goal.invariant_of-self
invariant_of-self g c =
    sym (ap latest_number c.put.ensures.held ∙ c.run_gives_the_packets.ensures.latest c.self.inside.builder (numbered c.args.number c.args.message.now))
