use Rattle.std.specs.Prelude.{codes, decimal}
use Rattle.bench_export.specs.Waves.{start_text}
use Rattle.bench_export.proofs.Parts.{three_put}
use Rattle.bench_export.proofs.heads.put_start.Goals as goal

pub returns : goal.returns
unfolding start_text
returns c =
    three_put c.args.text.now.items _ _ _ (codes "$enddefinitions $end\n#") (decimal c.args.tick) (codes "\n$dumpvars\n")
    c.in_ok-extend_from_slice.ensures.items c.in_ok-put_number.ensures c.in_ok-extend_from_slice-2.ensures.items
