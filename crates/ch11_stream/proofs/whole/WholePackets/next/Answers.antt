use Rattle.std.proofs.Common.{◌≡◌, take, refl, sym, ap, ◌∙◌}
use Rattle.std.specs.Io.KnownBytes.{prepend_known}
use Rattle.ch11_stream.specs.declared.standing.Standing.{Standing}
use Rattle.ch11_stream.specs.Holding.{given_of, held_of}
use Rattle.ch11_stream.specs.WholePackets.{WholeReading}
use Rattle.ch11_stream.proofs.Wholes.{whole_on}
use Rattle.ch11_stream.proofs.whole.WholePackets.next.Goals as goal

pub returns-in_ok-enter-in-Ok-Some-clause-whole : goal.returns-in_ok-enter-in-Ok-Some-clause-whole
returns-in_ok-enter-in-Ok-Some-clause-whole g c =
    let s = rw c.in-Ok-Some.field-0-is at c.in-Ok-Some.ensures in
    let entered = c.in_ok-enter-in-Ok-Some.ensures.entered in
    let same : c.args.self.now.reading.left ≡ prepend_known c.let_go.new.self.buffer.ready (g.R.Read.remaining c.self.inside.input) =
    sym (ap (λ (w : WholeReading). w.reading.left) c.self.view_is) ∙ rw c.let_go.ensures.ready refl in
    whole_on c.args.self.now _ c.in_ok-enter-in-Ok-Some.field-0 c.let_go.new.self.listed c.let_go.new.self.offset (prepend_known c.let_go.new.self.buffer.ready (g.R.Read.remaining c.self.inside.input)) (g.R.Read.remaining c.take_whole.new.input)
    c.take_whole.new.buffer.ready c.in-Ok-Some.checked s.0 c.in_ok-enter-in-Ok-Some.ensures.listed
    (ap (λ (at : Standing). take (held_of at.last) at.buffer.ready) entered) (ap (λ (at : Standing). given_of at.last at.buffer.ready) entered) same
