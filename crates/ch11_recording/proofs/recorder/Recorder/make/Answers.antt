use Rattle.std.proofs.Common.{◌-◌, [], sym, ap, ◌∙◌}
use Rattle.ch11_recording.proofs.Recordings.{file_of_none}
use Rattle.ch11_recording.proofs.Whole.{none_counted}
use Rattle.ch11_recording.proofs.recorder.Recorder.make.Goals as goal

pub returns-in-Ok-clause-begun : goal.returns-in-Ok-clause-begun
returns-in-Ok-clause-begun g c = record {
  held = c.in-Ok.ensures;
  written = rw (file_of_none (record { version = c.args.version; limit = c.args.limit }) []) c.make.ensures.written;
  packets = ap (λ w. w.packets) c.make.ensures.made ∙ sym (none_counted (record { version = c.args.version; limit = c.args.limit }) (c.make.result.writing.taken - 0));
}
