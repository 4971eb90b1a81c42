use Rattle.std.proofs.Common.{Bool, Ok, subst, sym}
use Rattle.ch11_f1.specs.Views.{message_of}
use Rattle.ch11_layout.specs.Stamps.{Recorded, recorded}
use Rattle.bench_compare.specs.Channels.{ComparesAll}
use Rattle.bench_compare.specs.Chosen.{one_if}
use Rattle.bench_compare.proofs.Stepping.{compares_one}
use Rattle.bench_compare.proofs.channels.compare_if.Goals as goal

pub returns-in_ok-found-in-Ok-clause-compared : goal.returns-in_ok-found-in-Ok-clause-compared
returns-in_ok-found-in-Ok-clause-compared g c = λ file other qs way read.
    let asked = c.args.asked.now in
    let met : Recorded = recorded c.args.met.now.kind (message_of c.args.met.now.seen) in
    subst (λ (b : Bool). ComparesAll asked.within asked.second.selection.now asked.second.channel file other qs (one_if b met) (Ok c.in_ok-found-in-Ok.found) c.args.standing.now c.args.pass.now c.compare_message.new.standing c.next.new.self) (sym c.if-not-chosen.false)
    (compares_one asked.within asked.second.selection.now asked.second.channel file other qs met c.in-Ok.second c.in_ok-found-in-Ok.found c.args.standing.now c.compare_message.new.standing c.args.pass.now c.next.new.self
    (c.in-Ok.ensures other qs way read) c.in_ok-found-in-Ok.ensures.compared)
