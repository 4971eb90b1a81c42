use Rattle.std.specs.Prelude.{codes}
use Rattle.bench_export.specs.Waves.{letter_text, opening_text}
use Rattle.bench_export.proofs.Parts.{three_put}
use Rattle.bench_export.proofs.heads.put_opening.Goals as goal

pub returns : goal.returns
unfolding opening_text
returns c =
    three_put c.args.text.now.items _ _ _ (codes "$scope module ") (letter_text c.args.on_b) (codes " $end\n")
    c.in_ok-extend_from_slice.ensures.items (rw c.letter_of.ensures at c.in_ok-extend_from_slice-2.ensures.items) c.in_ok-extend_from_slice-3.ensures.items
