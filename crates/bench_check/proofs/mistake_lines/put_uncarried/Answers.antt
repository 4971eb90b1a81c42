use Rattle.std.proofs.Common.{string_bytes}
use Rattle.std.specs.Prelude.{codes}
use Rattle.bench_check.specs.MistakeLines.{placed_text}
use Rattle.bench_check.proofs.Pieces.{three_put}
use Rattle.bench_check.proofs.mistake_lines.put_uncarried.Goals as goal

pub returns : goal.returns
returns c =
    three_put (string_bytes c.args.text.now) (codes "  ") (placed_text c.args.one.now) (codes " changes nothing: no message of the script carries such a word\n") (string_bytes c.push_str.new.self) (string_bytes c.put_action.new.text) (string_bytes c.push_str-2.new.self) c.in_ok-push_str.ensures.bytes c.in_ok-put_action.ensures c.in_ok-push_str-2.ensures.bytes
