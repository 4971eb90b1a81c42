use Rattle.std.proofs.Common.{add-one}
use Rattle.std.proofs.KnownBytes.{Appends-trans}
use Rattle.bench_state.proofs.SourceRows.{dots_last}
use Rattle.bench_state.proofs.controller.print_dots.Goals as goal

pub dots-preserved : goal.dots-preserved
dots-preserved g c =
    rw (add-one, ← dots_last c.dots._printed)
    (Appends-trans (g.W.Write.contents c.args.out.now) (g.W.Write.contents c.dots.out) (g.W.Write.contents c.write.new.self) _ _ c.dots.invariant c.in_ok-write.ensures.bytes)
