use Rattle.bench_run.proofs.Lives.{no_inboxes}
use Rattle.bench_run.proofs.ending.stopped.Goals as goal

pub returns : goal.returns
returns g c =
    let is = c.requires.logged.logged in
    let written = is.recording.written in
    record {
      ran = tt;
      ends = tt;
      room = tt;
      refused = record {
        none = c.new.ensures.items;
        memory = record {
          lawful = c.requires.lawful;
          items = is.items;
          count = c.args.log.recorder.writing.taken;
          part = rw c.into_sink.ensures written.taken;
        };
      };
      back = no_inboxes c.args.before.now.boxes.now _ c.new.ensures.items;
    }
