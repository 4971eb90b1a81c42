use Rattle.std.proofs.Common.{subst, ◌∙◌}
use Rattle.bench_decode.specs.Waiting.{IsPut}
use Rattle.bench_decode.proofs.DumpLines.{skip-put}
use Rattle.bench_decode.proofs.printing.put_skip.Goals as goal

pub returns-clause-put : goal.returns-clause-put
returns-clause-put g c =
    let fault = subst (IsPut (g.W.Write.contents c.hand_on.new.out) c.put.new.self (g.W.Write.contents c.put_text.new.out) c.put_text.new.self) (c.as_bytes.ensures.value ∙ c.in_ok-fault.ensures.ok) c.in_ok-put_text.ensures.put in
    skip-put _ _ _ c.args.line.now c.hand_on.new.self c.put_labelled.new.self c.put_labelled-2.new.self c.put.new.self c.put_text.new.self c.end_line.new.self c.args.skip.now c.in_ok-hand_on.ensures.put c.put_labelled.ensures.put c.put_labelled-2.ensures.put
    c.put.ensures.put fault c.end_line.ensures
