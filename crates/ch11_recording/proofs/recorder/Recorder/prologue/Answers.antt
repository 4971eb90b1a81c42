use Rattle.ch11_recording.proofs.Recordings.{begun}
use Rattle.ch11_recording.proofs.recorder.Recorder.prologue.Goals as goal

pub returns-clause-begun : goal.returns-clause-begun
returns-clause-begun g c f before channels is =
    begun g.S.Sink.taken f before channels c.args.bytes.now c.self.inside.channels.items c.self.inside.writer c.prologue.new.self (rw c.self.view_is is) c.prologue.ensures.written c.prologue.ensures.packets
