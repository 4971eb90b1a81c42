use Rattle.std.proofs.Common.{◌++◌, string_bytes}
use Rattle.std.specs.Prelude.{codes, decimal}
use Rattle.std.proofs.lemmas.Result.{on_ok_weaker}
use Rattle.bench_check.specs.MistakeLines.{placed_text}
use Rattle.bench_check.proofs.Pieces.{three_put}
use Rattle.bench_check.proofs.mistake_lines.put_undone.Goals as goal

pub returns : goal.returns
returns c =
    on_ok_weaker c.write.result (λ e. three_put (string_bytes c.args.text.now) (codes "  ") (placed_text c.args.one.now) (codes " is never done: message " ++ (decimal c.args.one.now.number ++ codes " is never sent\n")) (string_bytes c.push_str.new.self) (string_bytes c.put_action.new.text) (string_bytes c.write.new.self) c.in_ok-push_str.ensures.bytes c.in_ok-put_action.ensures e) c.write.ensures.bytes
