use Rattle.std.specs.Prelude.{codes}
use Rattle.bench_export.specs.Waves.{notes}
use Rattle.bench_export.proofs.Parts.{three_put}
use Rattle.bench_export.proofs.heads.put_notes.Goals as goal

pub returns : goal.returns
unfolding notes
returns c =
    three_put c.args.text.now.items _ _ _ (codes "$comment kind: 1 command word, 2 data word, 3 status word; z: the line is idle; ")
    (codes "error: 1 from the start to the end of a message with an error $end\n") (codes "$timescale 100 ns $end\n")
    c.in_ok-extend_from_slice.ensures.items c.in_ok-extend_from_slice-2.ensures.items c.in_ok-extend_from_slice-3.ensures.items
