use Rattle.std.proofs.Common.{◌≡◌, ◌+◌, arith}
use Rattle.ch11_reader.specs.Contents.{count_in}
use Rattle.bench_decode.proofs.Counts.{at_most, count_at, counts_at}
use Rattle.bench_decode.proofs.numbers.Numbers.next.Goals as goal

pub returns-clause-number : goal.returns-clause-number
returns-clause-number c = λ passed both.
    let counts = both.0 in
    let few = both.1 in
    let read = count_at passed c.args.self.now.counts.items c.args.channel c.from-place.result c.index.result.now c.from-place.ensures c.ranges.channel.fits counts c.index.ensures in
    omega (arith, c.saturating_add-number.ensures, read, at_most c.args.channel passed, few)

pub returns-clause-new : goal.returns-clause-new
returns-clause-new c = λ passed both.
    let counts = both.0 in
    let few = both.1 in
    let read = count_at passed c.args.self.now.counts.items c.args.channel c.from-place.result c.index.result.now c.from-place.ensures c.ranges.channel.fits counts c.index.ensures in
    let is : c.saturating_add-number.result ≡ 1 + count_in c.args.channel passed = omega (arith, c.saturating_add-number.ensures, read, at_most c.args.channel passed, few) in
    counts_at passed c.args.self.now.counts.items c.args.channel c.from-place.result c.saturating_add-number.result c.from-place.ensures c.ranges.channel.fits counts is
