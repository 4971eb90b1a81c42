use Rattle.std.proofs.Common.{ap, length, arith}
use Rattle.std.proofs.lemmas.Result.{err_from_is_err_and}
use Rattle.ch11_f1.specs.Views.{message_of}
use Rattle.bench_compare.proofs.Following.{found_in_it, goes_on}
use Rattle.bench_compare.proofs.channels.compare_messages.Goals as goal

pub returns-in_err-difference-clause-compared : goal.returns-in_err-difference-clause-compared
returns-in_err-difference-clause-compared g c = λ file other qs way read.
    let p = err_from_is_err_and c.from_residual.result c.from_residual.ensures.1 in
    rw (p.1, p.2) (c.in_err-difference.ensures.compared file other qs (c.messages.invariant.following other qs way read).way read)

pub returns-in-Some-2-clause-compared : goal.returns-in-Some-2-clause-compared
returns-in-Some-2-clause-compared g c = λ file other qs way read.
    let asked = c.args.asked.now in
    let f = c.messages.invariant.following other qs way read in
    rw (← c.of-kind.ensures)
    (found_in_it asked.within asked.first.selection.now asked.second.selection.now asked.first.channel asked.second.channel c.of-kind.result other qs c.args.standing.now c.args.pass.now c.args.packet.now.before c.messages.number c.args.messages c.messages.rest c.next.new.self (message_of c.in-Some.seen) c.selects-chosen.result c.messages.standing c.messages.pass c.in-Some-2.difference
    f c.in-Some.ensures.steps (rw c.view.ensures at c.selects-chosen.ensures) (rw c.in-Some-2.is at (c.in_ok-difference.ensures.compared file other qs f.way read)))

pub messages-preserved : goal.messages-preserved
messages-preserved g c = record {
  counted = omega (arith, c.messages.invariant.counted, ap length c.in-Some.ensures.steps);
  same = omega (arith, c.messages.invariant.same, c.compare_if.ensures.counted);
  following = λ other qs way read.
      let asked = c.args.asked.now in
      let f = c.messages.invariant.following other qs way read in
      let one = rw c.in_default-2.is at (c.in_ok-difference.ensures.compared other other qs f.way read) in
      goes_on asked.within asked.first.selection.now asked.second.selection.now asked.first.channel asked.second.channel c.of-kind.result other qs c.args.standing.now c.args.pass.now c.args.packet.now.before c.messages.number c.args.messages c.messages.rest c.next.new.self (message_of c.in-Some.seen) c.selects-chosen.result c.messages.standing c.compare_if.new.standing c.messages.pass c.compare_if.new.pass
      f c.in-Some.ensures.steps (rw c.view.ensures at c.selects-chosen.ensures) one.0 one.1;
}
