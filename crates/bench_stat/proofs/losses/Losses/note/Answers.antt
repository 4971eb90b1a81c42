use Rattle.std.proofs.Common.{◌≡◌, ℕ, ◌+◌, Bool, ap, ◌∙◌}
use Rattle.bench_stat.specs.Details.{overflows, jumps}
use Rattle.ch11_reader.specs.Contents.{capped}
use Rattle.bench_stat.specs.Figures.{one_if}
use Rattle.bench_stat.proofs.Telling.{losses, losses_more}
use Rattle.bench_stat.proofs.losses.Losses.note.Goals as goal

pub returns : goal.returns
returns c = λ packets few is.
    let old = c.args.self.now in
    let full : c.one_more-self.result ≡ capped (old.overflows + one_if (overflows c.args.channel c.args.packet.now)) = c.one_more-self.ensures ∙ ap (λ (b : Bool). capped (old.overflows + one_if b)) c.has_overflow.ensures in
    let jumped : c.one_more-self-2.result ≡ capped (old.jumps + one_if (jumps c.args.channel c.args.packet.now)) = c.one_more-self-2.ensures ∙ ap (λ (b : Bool). capped (old.jumps + one_if b)) c.is_jump.ensures in
    ap (λ (n : ℕ). losses n c.one_more-self-2.result) full ∙ ap (losses (capped (old.overflows + one_if (overflows c.args.channel c.args.packet.now)))) jumped ∙ losses_more c.args.channel packets c.args.packet.now old few is
