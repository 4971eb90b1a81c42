use Rattle.std.proofs.Common.{refl, ap, ◌∙◌, slice_get}
use Rattle.ch11_recording.specs.declared.item.Item.TheVariants as item
use Rattle.ch11_recording.proofs.Recordings.{goes_on, held_got}
use Rattle.ch11_recording.proofs.recorder.Recorder.keep.Goals as goal

pub returns-clause-goes_on : goal.returns-clause-goes_on
returns-clause-goes_on g c kept f prologue before channels channel items distinct at is =
    goes_on g.S.Sink.taken c.packet_is_read_again.ensures.size (λ k. item.Message k c.args.number c.args.message.now) f prologue before channels c.args.index channel items
    c.self.inside.channels.items c.self.inside.writer c.keep.new.writer c.index_mut-channel.result.now c.index_mut-channel.result.now c.keep.new.self
    (λ k. refl) distinct at (rw c.self.view_is is) c.index_mut-channel.ensures.value (c.keep.ensures.held kept) (c.keep.ensures.written kept) (c.keep.ensures.counted kept)

pub returns-clause-when : goal.returns-clause-when
returns-clause-when g c h at low stamp =
    let same = c.index_mut-channel.ensures.value ∙ held_got c.self.inside.channels.items c.args.index h c.index_mut-channel.result.now (ap (λ r. slice_get r.held c.args.index) c.self.view_is ∙ at) in
    c.keep.ensures.when (rw same low) stamp
