use Rattle.std.proofs.Common.{◌≡◌, ℕ, ◌+◌, Bool, cond, ap, ◌∙◌}
use Rattle.ch11_reader.specs.Contents.{capped}
use Rattle.bench_judge.specs.Losses.{jumps, overflows}
use Rattle.bench_judge.proofs.Losing.{losses, lost_more}
use Rattle.bench_judge.proofs.losses.Lost.note.Goals as goal

pub returns : goal.returns
returns c = λ packets few is.
    let old = c.args.self.now in
    let full : c.one_more-self.result ≡ capped (old.overflows + cond (overflows c.args.packet.now) 1 0) = c.one_more-self.ensures ∙ ap (λ (b : Bool). capped (old.overflows + cond b 1 0)) c.overflows.ensures in
    let jumped : c.one_more-self-2.result ≡ capped (old.jumps + cond (jumps c.args.packet.now) 1 0) = c.one_more-self-2.ensures ∙ ap (λ (b : Bool). capped (old.jumps + cond b 1 0)) c.jumps.ensures in
    ap (λ (n : ℕ). losses n c.one_more-self-2.result) full ∙ ap (losses (capped (old.overflows + cond (overflows c.args.packet.now) 1 0))) jumped ∙ lost_more packets c.args.packet.now old few is
