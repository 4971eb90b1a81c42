use Rattle.std.proofs.Common.{leb, rules, of_calls, arith}
use Rattle.std.proofs.lemmas.Fn.{always_returns_same}
use Rattle.bench_clock.specs.declared.clock.Mark.{Mark}
use Rattle.bench_clock.proofs.Halves.{parted, some_before, last_before, none_behind}
use Rattle.bench_clock.proofs.ruling.place_of.Goals as goal

pub overflow_sub-result : goal.overflow_sub-result
overflow_sub-result c =
    let point = c.partition_point.ensures.partitioned (λ (m : Mark). leb m.counter c.args.stamp) (always_returns_same _ _ _ (λ a r f k. search (rules, of_calls))) (parted c.args.marks.now c.args.stamp c.requires.rising) in
    omega (arith, some_before c.args.marks.now c.args.stamp c.partition_point.result point c.requires.some c.requires.first)

pub returns-clause-from : goal.returns-clause-from
returns-clause-from c m is =
    let point = c.partition_point.ensures.partitioned (λ (m : Mark). leb m.counter c.args.stamp) (always_returns_same _ _ _ (λ a r f k. search (rules, of_calls))) (parted c.args.marks.now c.args.stamp c.requires.rising) in
    last_before c.args.marks.now c.args.stamp c.partition_point.result point m (some_before c.args.marks.now c.args.stamp c.partition_point.result point c.requires.some c.requires.first) is

pub returns-clause-last : goal.returns-clause-last
returns-clause-last c j m lt is =
    let point = c.partition_point.ensures.partitioned (λ (m : Mark). leb m.counter c.args.stamp) (always_returns_same _ _ _ (λ a r f k. search (rules, of_calls))) (parted c.args.marks.now c.args.stamp c.requires.rising) in
    none_behind c.args.marks.now c.args.stamp c.partition_point.result point j m lt is
