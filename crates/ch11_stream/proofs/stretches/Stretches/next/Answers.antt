use Rattle.std.proofs.Common.{refl, ap, Option}
use Rattle.ch11_header.specs.declared.header.Header.{Header}
use Rattle.ch11_stream.specs.Holding.{given_of}
use Rattle.ch11_stream.specs.Stretches.{bytes_in}
use Rattle.ch11_stream.proofs.stretches.Stretches.next.Goals as goal

pub returns-in-Some : goal.returns-in-Some
returns-in-Some g c =
    let stopped = c.self.invariant.stopped c.in-Some.fault c.in-Some.is in
    rw (← c.self.view_is) record {
      same = refl;
      none = ap (λ (l : Option Header). given_of l c.self.inside.at.buffer.ready) stopped.0;
      passed = ap (λ (l : Option Header). bytes_in l c.self.inside.at.buffer.ready) stopped.0;
      stays = refl;
      stopped = c.in-Some.is;
      again = λ f is. cc;
      other = stopped.1;
    }
