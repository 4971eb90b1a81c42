use Rattle.std.proofs.Common.{refl}
use Rattle.std.specs.Io.KnownBytes.{prepend_known}
use Rattle.ch11_stream.proofs.Fronts.{skip_of, sound_at}
use Rattle.ch11_stream.proofs.stretches.take_stretch.Goals as goal

pub returns-in_ok-check_end-in-Sound : goal.returns-in_ok-check_end-in-Sound
returns-in_ok-check_end-in-Sound g c =
    let s = rw c.in-Sound.is at c.in_ok-look.ensures.begins in
    (sound_at (prepend_known c.args.buffer.now.ready (g.R.Read.remaining c.args.input.now)) (g.R.Read.remaining c.look.new.input) c.look.new.buffer.ready c.in-Sound.checked c.in_ok-look.ensures.kept s, c.in_ok-check_end-in-Sound.ensures.within)

pub returns-in_ok-check_end-in-Faulty : goal.returns-in_ok-check_end-in-Faulty
returns-in_ok-check_end-in-Faulty g c =
    let f = rw c.in-Faulty.is at c.in_ok-look.ensures.begins in (
      refl,
      c.in_ok-check_end-in-Faulty.ensures.within,
      c.in_ok-length-in-Faulty.ensures.some,
      skip_of (prepend_known c.args.buffer.now.ready (g.R.Read.remaining c.args.input.now)) (prepend_known c.look.new.buffer.ready (g.R.Read.remaining c.look.new.input)) _ c.look.new.buffer.ready c.args.offset c.in_ok-length-in-Faulty.length c.in-Faulty.fault
          c.in_ok-look.ensures.kept f c.in_ok-length-in-Faulty.ensures.passed,
    )
