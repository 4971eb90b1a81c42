use Rattle.std.proofs.Common.{◌≡◌, ◌+◌, ap, ◌∙◌}
use Rattle.ch11_layout.specs.Stamps.{Recorded}
use Rattle.bench_compare.specs.Channels.{origins_by}
use Rattle.bench_compare.specs.Passes.{pass_to_come}
use Rattle.bench_compare.proofs.Stepping.{missing_first, none_missing}
use Rattle.bench_compare.proofs.channels.compare_end.Goals as goal

pub returns-in-Some : goal.returns-in-Some
returns-in-Some g c = λ file other qs way read.
    let t = rw c.in-Ok-Some.field-0-is at (c.in-Ok-Some.ensures other qs way read) in
    let st = c.args.standing.now in
    let asked = c.args.asked.now in
    let count : c.in-Some.number ≡ st.same + 1 = c.in-Some.ensures.1 in
    missing_first asked.within st c.in-Ok-Some.second c.in-Some.number c.origins_of.result (pass_to_come asked.second.selection.now asked.second.channel qs c.args.pass.now) (pass_to_come asked.second.selection.now asked.second.channel qs c.next.new.self) t.first count
    (c.origins_of.ensures ∙ ap (λ n. origins_by st.origins 0 n) (c.stamp-stamp.ensures ∙ ap (λ (m : Recorded). m.stamp) c.view.ensures))

pub returns-in-Ok-None : goal.returns-in-Ok-None
returns-in-Ok-None g c = λ file other qs way read.
    let asked = c.args.asked.now in
    none_missing asked.within c.args.standing.now (pass_to_come asked.second.selection.now asked.second.channel qs c.args.pass.now) (rw c.in-Ok-None.field-0-is at (c.in-Ok-None.ensures other qs way read))
