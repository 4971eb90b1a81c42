use Rattle.std.proofs.Common.{◌++◌, ◌∙◌, ap, string_bytes}
use Rattle.std.specs.Prelude.{codes, decimal}
use Rattle.std.proofs.lemmas.Result.{on_ok_weaker}
use Rattle.text_lines.specs.Words.{Text}
use Rattle.bench_check.specs.MistakeLines.{more_text}
use Rattle.bench_check.proofs.Pieces.{behind_four, three_put}
use Rattle.bench_check.proofs.mistake_lines.put_left_out.Goals as goal

pub returns : goal.returns
returns c =
    let old = string_bytes c.args.text.now in
    let line = decimal c.args.line in
    let first = decimal c.args.first in
    let head = codes "  line " ++ (line ++ (codes " is not planned for message " ++ first)) in
    let tail = codes ", where four others come first: " ++ (c.args.words.now ++ codes "\n") in
    on_ok_weaker c.write-2.result (λ e.
    three_put old head (more_text c.args.more) tail (string_bytes c.write.new.self) (string_bytes c.put_messages_more.new.text) (string_bytes c.write-2.new.self) c.in_ok-write.ensures.bytes c.in_ok-put_messages_more.ensures e
    ∙ ap (λ (v : Text). old ++ v) (behind_four (codes "  line ") line (codes " is not planned for message ") first (more_text c.args.more ++ tail))) c.write-2.ensures.bytes
