use Rattle.std.proofs.Common.{◌≡◌, ◌<◌, ◌+◌, ◌++◌, ◌∷◌, [], length, sym, ap, ◌∙◌, arith, take}
use Rattle.std.proofs.lemmas.List.{take_more}
use Rattle.bench_check.specs.Mistakes.{undone_at}
use Rattle.bench_check.proofs.Collected.{one_more_from, all_from}
use Rattle.bench_check.proofs.mistakes.add_undone.Goals as goal

pub loop-place-preserved : goal.loop-place-preserved
loop-place-preserved c =
    let actions = c.args.actions.now in
    let at = c.loop-place.place in
    let less : at < length actions = omega (arith, c.loop-place-test.true, c.len-place-end.ensures) in
    let more : take at actions ++ c.get.result ∷ [] ≡ take (at + 1) actions = ap (λ one. take at actions ++ one ∷ []) c.get.ensures ∙ sym (take_more actions at c.get.result less) in
    one_more_from (undone_at c.args.made) actions at c.get.result c.args.found.now.items c.loop-place.found.items c.note_undone.new.found.items more c.loop-place.invariant c.in_ok-note_undone.ensures

pub returns : goal.returns
returns c =
    all_from (undone_at c.args.made) c.args.actions.now c.loop-place.place c.args.found.now.items c.loop-place.found.items (omega (arith, c.loop-place-test.false, c.len-place-end.ensures)) c.loop-place.invariant
