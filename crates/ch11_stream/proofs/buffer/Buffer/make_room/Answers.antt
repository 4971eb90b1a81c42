use Rattle.std.proofs.Common.{◌∙◌, ap}
use Rattle.ch11_stream.specs.Feeding.{Buffered}
use Rattle.ch11_stream.proofs.Slices.{same_range}
use Rattle.ch11_stream.proofs.buffer.Buffer.make_room.Goals as goal

pub returns-in_err-grow-clause-ready : goal.returns-in_err-grow-clause-ready
returns-in_err-grow-clause-ready c =
    let b = c.self.inside in
    same_range b.bytes.items c.grow.new.bytes.items b.start b.end c.self.invariant.0 c.grow.ensures.front ∙ ap (λ (x : Buffered). x.ready) c.self.view_is ∙ c.settle.ensures.ready

pub returns-in_ok-grow-clause-ready : goal.returns-in_ok-grow-clause-ready
returns-in_ok-grow-clause-ready c =
    let b = c.self.inside in
    same_range b.bytes.items c.grow.new.bytes.items b.start b.end c.self.invariant.0 c.grow.ensures.front ∙ ap (λ (x : Buffered). x.ready) c.self.view_is ∙ c.settle.ensures.ready
