use Rattle.std.specs.Prelude.{false, true, codes}
use Rattle.bench_export.specs.Waves.{channel_text, line_scope_text, scope_text}
use Rattle.bench_export.proofs.Parts.{four_put}
use Rattle.bench_export.proofs.heads.put_scope.Goals as goal

pub returns : goal.returns
unfolding scope_text
returns c =
    four_put c.args.text.now.items _ _ _ _ (channel_text c.args.channel) (line_scope_text false c.args.channel) (line_scope_text true c.args.channel) (codes "$upscope $end\n")
    c.in_ok-put_channel.ensures c.in_ok-put_line.ensures c.in_ok-put_line-2.ensures c.in_ok-extend_from_slice.ensures.items
