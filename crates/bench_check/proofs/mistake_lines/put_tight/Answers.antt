use Rattle.std.proofs.Common.{◌≡◌, ℕ, ◌∙◌, ◌++◌, ap, string_bytes}
use Rattle.std.specs.Prelude.{codes, decimal}
use Rattle.std.proofs.lemmas.Result.{on_ok_weaker}
use Rattle.text_lines.specs.Words.{Text}
use Rattle.bench_check.specs.FrameLines.{period}
use Rattle.bench_check.specs.MistakeLines.{worst_text}
use Rattle.bench_check.proofs.Pieces.{behind_four, two_put}
use Rattle.bench_check.proofs.mistake_lines.put_tight.Goals as goal

pub returns : goal.returns
returns c =
    let old = string_bytes c.args.text.now in
    let mid = string_bytes c.write.new.self in
    let t = c.args.tight.now in
    let m = decimal t.place in
    let n = decimal (period t.hundreds) in
    let head = codes "  frame " ++ (m ++ (codes " of the script, of " ++ (n ++ codes " us, may take "))) in
    let first : mid ≡ old ++ head = c.in_ok-write.ensures.bytes ∙ ap (λ (k : ℕ). old ++ (codes "  frame " ++ (m ++ (codes " of the script, of " ++ (decimal k ++ codes " us, may take "))))) c.period_of-period.ensures in
    on_ok_weaker c.put_worst.result (λ e. two_put old head (worst_text t.ticks) mid (string_bytes c.put_worst.new.text) first e ∙ ap (λ (v : Text). old ++ (codes "  frame " ++ v)) (behind_four m (codes " of the script, of ") n (codes " us, may take ") (worst_text t.ticks))) c.put_worst.ensures
