use Rattle.std.proofs.Common.{◌∙◌, List, [], ap, replicate, subst, sym}
use Rattle.bench_stat.specs.declared.kinds.KindFigures.{KindFigures}
use Rattle.bench_stat.specs.Kinds.{AreKinds}
use Rattle.bench_stat.proofs.Kinding as packets
use Rattle.bench_stat.proofs.kinds.no_kinds.Goals as goal

pub returns : goal.returns
returns c = subst (λ (l : List KindFigures). AreKinds [] l) (sym (c.in_ok-kinds.ensures.items_if_clones_equal (λ x h. h) ∙ ap (replicate 256) c.none.ensures)) packets.no_kinds
