use Rattle.std.specs.Prelude.{codes, decimal}
use Rattle.bench_export.specs.Waves.{channel_text}
use Rattle.bench_export.proofs.Parts.{three_put}
use Rattle.bench_export.proofs.heads.put_channel.Goals as goal

pub returns : goal.returns
unfolding channel_text
returns c =
    three_put c.args.text.now.items _ _ _ (codes "$scope module channel_") (decimal c.args.channel) (codes " $end\n")
    c.in_ok-extend_from_slice.ensures.items (rw c.from.ensures at c.in_ok-put_number.ensures) c.in_ok-extend_from_slice-2.ensures.items
