use Rattle.std.proofs.Common.{◌≡◌, ◌∷◌, List, length, ap, sym, subst, arith}
use Rattle.std.proofs.lemmas.List.{with_items_is}
use Rattle.bench_stat.specs.declared.slices.Slice.{Slice}
use Rattle.bench_stat.specs.Slices.{AreBusy}
use Rattle.bench_stat.proofs.followed.count_load.Goals as goal

pub returns : goal.returns
returns c = λ history are.
    let kept : length c.note_slices.new.slices ≡ c.args.slices.now.len = omega (arith, c.note_slices.auto.slices, ap length c.as_mut_slice.ensures.value, c.as_mut_slice.ensures.len) in
    subst (λ (xs : List Slice). AreBusy (c.args.view.now ∷ history) xs) (sym (with_items_is c.args.slices.now c.note_slices.new.slices kept))
    (c.note_slices.ensures history (subst (λ (xs : List Slice). AreBusy history xs) (sym c.as_mut_slice.ensures.value) are))
