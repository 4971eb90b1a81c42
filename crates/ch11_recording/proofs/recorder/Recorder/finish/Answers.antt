use Rattle.ch11_recording.proofs.Recordings.{told}
use Rattle.ch11_recording.proofs.recorder.Recorder.finish.Goals as goal

pub returns-clause-same : goal.returns-clause-same
returns-clause-same g c f prologue before channels items is =
    told g.S.Sink.taken f prologue before channels items c.self.inside.channels.items c.self.inside.writer c.finish.new.self (rw c.self.view_is is)
    c.finish.ensures.written c.finish.ensures.count c.finish.ensures.packets
