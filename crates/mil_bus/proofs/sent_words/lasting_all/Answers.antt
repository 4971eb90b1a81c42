use Rattle.std.proofs.Common.{◌≡◌, ◌+◌, ◌-◌, ◌*◌, ◌<◌, arith}
use Rattle.mil_bus.specs.Times.{lasting}
use Rattle.mil_bus.proofs.KeptRuns.{end-whole}
use Rattle.mil_bus.proofs.sent_words.lasting_all.Goals as goal

pub returns-else-run-eq0-clause-value : goal.returns-else-run-eq0-clause-value
returns-else-run-eq0-clause-value c = λ tick values more long.
    let run = c.args.run.now in
    let some : 0 < run.count = omega (arith, c.if-run-eq0.false) in
    let is : c.lasting.result + 200 * c.from.result ≡ lasting c.args.place run.gap + 200 * (run.count - 1) = omega (arith, c.lasting.ensures.value, c.from.ensures) in
    end-whole c.args.place tick run values more (c.lasting.result + 200 * c.from.result) long some is
