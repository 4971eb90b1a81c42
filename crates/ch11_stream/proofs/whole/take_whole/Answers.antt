use Rattle.std.specs.Io.KnownBytes.{prepend_known}
use Rattle.ch11_stream.proofs.Wholes.{fault_at, whole_at}
use Rattle.ch11_stream.proofs.whole.take_whole.Goals as goal

pub returns-in_ok-check_end-in-Sound : goal.returns-in_ok-check_end-in-Sound
returns-in_ok-check_end-in-Sound g c =
    let s = rw c.in-Sound.is at c.in_ok-look.ensures.begins in
    (whole_at (prepend_known c.args.buffer.now.ready (g.R.Read.remaining c.args.input.now)) (g.R.Read.remaining c.look.new.input) c.look.new.buffer.ready c.in-Sound.checked c.in_ok-look.ensures.kept s, c.in_ok-check_end-in-Sound.ensures.within)

pub returns-in-Faulty : goal.returns-in-Faulty
returns-in-Faulty g c =
    let f = rw c.in-Faulty.is at c.in_ok-look.ensures.begins in
    fault_at c.args.offset (prepend_known c.args.buffer.now.ready (g.R.Read.remaining c.args.input.now)) (g.R.Read.remaining c.look.new.input) c.look.new.buffer.ready c.in-Faulty.fault c.in_ok-look.ensures.kept f
