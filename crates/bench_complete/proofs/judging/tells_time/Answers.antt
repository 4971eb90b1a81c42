use Rattle.std.proofs.Common.{Bool, ◌&&◌, eq-eqb, sym, ap, ◌∙◌}
use Rattle.ch11_reader.specs.Recording.{body_of}
use Rattle.bench_clock.specs.TimeBody.{is_time_body}
use Rattle.bench_complete.proofs.judging.tells_time.Goals as goal

pub returns : goal.returns
returns c =
    c.is_time_body.ensures
    ∙ ap is_time_body c.body_in.ensures
    ∙ sym (ap (λ (b : Bool). b && is_time_body (body_of c.args.header.now c.args.bytes.now)) (eq-eqb c.args.header.now.kind 17 c.if-header-ne-TIME_DATA.false))
