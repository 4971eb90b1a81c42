use Rattle.std.proofs.Common.{◌≡◌, ◌++◌, ℕ, List, refl, subst}
use Rattle.std.specs.Prelude.{OnOk, codes}
use Rattle.bench_judge.specs.Told.{block_told, spaced_word}
use Rattle.bench_judge.proofs.Putting.{then_put}
use Rattle.bench_judge.proofs.there.put_block.Goals as goal

pub returns : goal.returns
unfolding block_told
returns c =
    let view = c.args.view.now in
    let block = spaced_word view.block in
    let gaps = spaced_word view.gaps in
    let last = c.extend_from_slice-2.new.self.items in
    let all =
    then_put c.args.text.now.items c.extend_from_slice.new.self.items (last ++ gaps) (codes "block") (block ++ (codes " gaps" ++ gaps)) c.in_ok-extend_from_slice.ensures.items
    (then_put c.extend_from_slice.new.self.items c.put_word.new.text.items (last ++ gaps) block (codes " gaps" ++ gaps) (rw c.block.ensures at c.in_ok-put_word.ensures)
    (then_put c.put_word.new.text.items last (last ++ gaps) (codes " gaps") gaps c.in_ok-extend_from_slice-2.ensures.items refl)) in
    subst (λ (l : List ℕ). OnOk c.put_word-2.result (c.put_word-2.new.text.items ≡ l)) all (rw c.gaps.ensures at c.put_word-2.ensures)
