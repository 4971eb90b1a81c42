use Rattle.std.proofs.Common.{◌≡◌, ℕ, ◌∙◌, ◌++◌, ap, string_bytes}
use Rattle.std.specs.Prelude.{codes, decimal}
use Rattle.std.proofs.lemmas.Result.{on_ok_weaker}
use Rattle.text_lines.specs.Words.{Text}
use Rattle.bench_check.specs.FrameLines.{period}
use Rattle.bench_check.specs.MistakeLines.{excess_text}
use Rattle.bench_check.proofs.Pieces.{behind_four, two_put}
use Rattle.bench_check.proofs.mistake_lines.put_overrun.Goals as goal

pub returns : goal.returns
returns c =
    let old = string_bytes c.args.text.now in
    let mid = string_bytes c.write.new.self in
    let t = c.args.overrun.now in
    let m = decimal (period t.hundreds) in
    let n = decimal t.number in
    let head = codes "  the frame of " ++ (m ++ (codes " us that ends behind message " ++ (n ++ codes " is "))) in
    let first : mid ≡ old ++ head = c.in_ok-write.ensures.bytes ∙ ap (λ (k : ℕ). old ++ (codes "  the frame of " ++ (decimal k ++ (codes " us that ends behind message " ++ (n ++ codes " is "))))) c.period_of-period.ensures in
    on_ok_weaker c.put_excess.result (λ e. two_put old head (excess_text t.ticks) mid (string_bytes c.put_excess.new.text) first e ∙ ap (λ (v : Text). old ++ (codes "  the frame of " ++ v)) (behind_four m (codes " us that ends behind message ") n (codes " is ") (excess_text t.ticks))) c.put_excess.ensures
