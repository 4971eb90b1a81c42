use Rattle.std.proofs.Common.{◌∙◌, length, drop, ap, arith}
use Rattle.ch11_stream.specs.Feeding.{Buffered}
use Rattle.ch11_stream.proofs.Slices.{range_behind, range_length}
use Rattle.ch11_stream.proofs.buffer.Buffer.pass.Goals as goal

pub returns-else-self : goal.returns-else-self
returns-else-self c =
    let b = c.self.inside in
    range_behind b.bytes.items b.start c.args.count b.end (omega (arith, c.requires, c.self.invariant.1, range_length b.bytes.items b.start b.end, ap (λ (x : Buffered). length x.ready) c.self.view_is))
    ∙ ap (λ (x : Buffered). drop c.args.count x.ready) c.self.view_is
