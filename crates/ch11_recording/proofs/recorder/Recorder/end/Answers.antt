use Rattle.std.proofs.Common.{refl}
use Rattle.ch11_recording.specs.declared.item.Item.TheVariants as item
use Rattle.ch11_recording.proofs.Recordings.{goes_on}
use Rattle.ch11_recording.proofs.recorder.Recorder.end.Goals as goal

pub returns-clause-goes_on : goal.returns-clause-goes_on
returns-clause-goes_on g c ended f prologue before channels channel items distinct at is =
    goes_on g.S.Sink.taken c.packet_is_read_again.ensures.size (λ k. item.End k) f prologue before channels c.args.index channel items
    c.self.inside.channels.items c.self.inside.writer c.end.new.writer c.index_mut-channel.result.now c.index_mut-channel.result.now c.end.new.self
    (λ k. refl) distinct at (rw c.self.view_is is) c.index_mut-channel.ensures.value c.end.ensures.held c.end.ensures.written c.end.ensures.counted
