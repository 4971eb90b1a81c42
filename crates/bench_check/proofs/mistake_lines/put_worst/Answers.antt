use Rattle.std.proofs.Common.{◌∙◌, ◌++◌, ap, string_bytes}
use Rattle.std.specs.Prelude.{codes}
use Rattle.std.proofs.lemmas.Result.{on_ok_weaker}
use Rattle.text_lines.specs.Words.{Text}
use Rattle.bench_check.proofs.Pieces.{tenths_put}
use Rattle.bench_check.proofs.mistake_lines.put_worst.Goals as goal

pub returns : goal.returns
returns c =
    on_ok_weaker c.write.result (λ e. e ∙ ap (λ (v : Text). string_bytes c.args.text.now ++ v) (tenths_put c.parts_of-whole.result.0 c.parts_of-whole.result.1 c.args.ticks (codes " us: late replies, each retry and each poll counted\n") c.parts_of-whole.ensures.whole c.parts_of-whole.ensures.part)) c.write.ensures.bytes
