use Rattle.std.specs.Prelude.{codes, ◌++◌}
use Rattle.bench_export.specs.Waves.{declared_text, line_scope_text, opening_text}
use Rattle.bench_export.proofs.Parts.{four_put}
use Rattle.bench_export.proofs.heads.put_line.Goals as goal

pub returns : goal.returns
unfolding line_scope_text
returns c =
    let on_b = c.args.wire.on_b in
    let channel = c.args.wire.channel in
    let kind = declared_text (codes "reg 2") (codes "k") (codes "kind") on_b channel in
    let terminal = declared_text (codes "reg 5") (codes "t") (codes "terminal") on_b channel in
    let message = declared_text (codes "integer 64") (codes "m") (codes "message") on_b channel in
    let error = declared_text (codes "reg 1") (codes "e") (codes "error") on_b channel in
    let up = codes "$upscope $end\n" in
    four_put c.args.text.now.items _ _ _ _ (opening_text on_b) (declared_text (codes "reg 16") (codes "w") (codes "word") on_b channel) kind
    (terminal ++ (message ++ (error ++ up))) c.in_ok-put_opening.ensures c.in_ok-put_declared.ensures c.in_ok-put_declared-2.ensures
    (four_put _ _ _ _ _ terminal message error up c.in_ok-put_declared-3.ensures c.in_ok-put_declared-4.ensures c.in_ok-put_declared-5.ensures c.in_ok-extend_from_slice.ensures.items)
