use Rattle.std.proofs.Common.{◌∷◌, get_or, sym, subst, arith}
use Rattle.bench_stat.specs.declared.slices.Slice.{Slice}
use Rattle.bench_stat.specs.Slices.{IsBusy}
use Rattle.bench_stat.proofs.Following.{part_more}
use Rattle.bench_stat.proofs.slices.note_slices.Goals as goal

pub returns : goal.returns
returns c = λ history are. record {
  many = omega (arith, are.many, c.slices.auto.slices);
  each = λ k d within.
      subst (λ (s : Slice). IsBusy (c.args.view.now ∷ history) s) (sym (c.slices.invariant.done k d (omega (arith, within))))
      (part_more c.args.view.now history (get_or c.args.slices.now k d) (are.each k d (omega (arith, within, c.slices.auto.slices))));
}
