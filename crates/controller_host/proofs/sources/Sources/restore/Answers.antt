use Rattle.std.proofs.Common.{length, ap, ◌∙◌, arith}
use Rattle.std.proofs.lemmas.List.{length-take-le}
use Rattle.controller_host.proofs.Rising.{few_of}
use Rattle.controller_host.proofs.sources.Sources.restore.Goals as goal

pub push_reserved-requires : goal.push_reserved-requires
push_reserved-requires c =
    let ready = ap (λ s. s.ready) c.self.view_is ∙ c.requires.room (omega (arith, c.loop-row-test.true)) in
    let room = c.self.invariant.room ready in
    let few = few_of c.args.saved.now c.requires.rows in
    let count = ap length c.loop-row.invariant.rows ∙ length-take-le c.loop-row.row-index c.args.saved.now (omega (arith, c.loop-row-test.true)) in
    omega (arith, room, few, count, c.loop-row.invariant.capacity, c.clear.ensures.capacity, c.loop-row-test.true)
