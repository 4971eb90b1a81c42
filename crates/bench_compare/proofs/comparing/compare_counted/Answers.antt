use Rattle.std.proofs.Common.{◌<◌, List, ◌++◌, ◌∙◌, ap, sym, arith}
use Rattle.bench_compare.specs.Compared.{channel_of}
use Rattle.bench_compare.specs.declared.differences.Compared.{Compared}
use Rattle.bench_compare.proofs.Ordered.{none_below, one_more}
use Rattle.bench_compare.proofs.comparing.compare_counted.Goals as goal

pub channels-init : goal.channels-init
channels-init g c = λ file other ps qs one two read both firsts seconds. c.new-compared.ensures.items ∙ sym (none_below c.args.within c.args.sides.now.of_first c.args.sides.now.of_second ps qs)

pub channels-preserved : goal.channels-preserved
channels-preserved g c = λ file other ps qs one two read both firsts seconds.
    let place = c.channels.place in
    let small : place < 65536 = omega (arith, c.channels-test.true) in
    let sides = c.args.sides.now in
    c.in_ok-add_channel.ensures file other ps qs one two read both (firsts place small) (seconds place small)
    ∙ ap (λ (l : List Compared). l ++ channel_of c.args.within sides.of_first sides.of_second ps qs place) (c.channels.invariant file other ps qs one two read both firsts seconds)
    ∙ one_more c.args.within sides.of_first sides.of_second ps qs place
