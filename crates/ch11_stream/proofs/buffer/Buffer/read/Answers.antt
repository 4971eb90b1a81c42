use Rattle.std.proofs.Common.{◌≡◌, take, length, ap, ◌∙◌, arith}
use Rattle.std.proofs.lemmas.List.{with_items_is}
use Rattle.ch11_stream.specs.Feeding.{Buffered}
use Rattle.ch11_stream.proofs.Slices.{more_given}
use Rattle.ch11_stream.proofs.buffer.Buffer.read.Goals as goal

pub returns-clause-read : goal.returns-clause-read
returns-clause-read g c =
    let b = c.self.inside in
    let new = c.read_behind.new.bytes in
    let kept : length new ≡ b.bytes.len = omega arith in
    rw (with_items_is b.bytes new kept) (more_given (g.R.Read.remaining c.args.input.now) (g.R.Read.remaining c.read_behind.new.input) c.args.self.now.ready b.bytes.items new b.start b.end c.in_ok-gave.gave.count c.in_ok-gave.gave.more
    c.self.invariant.0 (ap (λ (x : Buffered). x.ready) c.self.view_is) (c.read_behind.ensures.front ∙ ap (take b.end) c.as_mut_slice.ensures.value) c.in_ok-gave.ensures.taken c.in_ok-gave.ensures.ended)
