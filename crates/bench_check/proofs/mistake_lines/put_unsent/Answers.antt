use Rattle.std.proofs.Common.{◌++◌, string_bytes}
use Rattle.std.specs.Prelude.{codes, decimal}
use Rattle.std.proofs.lemmas.Result.{on_ok_weaker}
use Rattle.bench_check.specs.MistakeLines.{planned_text}
use Rattle.bench_check.proofs.Pieces.{three_put}
use Rattle.bench_check.proofs.mistake_lines.put_unsent.Goals as goal

pub returns : goal.returns
returns c =
    on_ok_weaker c.write.result (λ e. three_put (string_bytes c.args.text.now) (codes "  ") (planned_text c.args.number c.args.fault.now) (codes " meets nothing: message " ++ (decimal c.args.number ++ codes " is never sent\n")) (string_bytes c.push_str.new.self) (string_bytes c.put_fault.new.text) (string_bytes c.write.new.self) c.in_ok-push_str.ensures.bytes c.in_ok-put_fault.ensures e) c.write.ensures.bytes
