use Rattle.std.proofs.Common.{◌≡◌, ◌-◌, false, [], ◌∙◌, arith, rules}
use Rattle.std.proofs.lemmas.List.{drop_all}
use Rattle.ch11_stream.specs.Feeding.{AreMoreReady}
use Rattle.ch11_stream.proofs.Feeding.{all_passed, both_passed, ends_few, reads_on}
use Rattle.ch11_stream.proofs.feed.pass.Goals as goal

pub returns-then-left-ready-clause-passed : goal.returns-then-left-ready-clause-passed
returns-then-left-ready-clause-passed g c =
    all_passed c.args.count c.reads.left (g.R.Read.remaining c.args.input.now) (g.R.Read.remaining c.reads.input) c.args.buffer.now.ready c.reads.buffer.ready c.pass.new.self.ready (omega arith) c.pass.ensures c.reads.invariant

pub returns-then-not-branch-clause-passed : goal.returns-then-not-branch-clause-passed
returns-then-not-branch-clause-passed g c =
    let none : c.make_room.new.self.ready ≡ [] = c.in_ok-make_room.ensures.ready ∙ c.in_ok-left.ensures.ready ∙ c.pass-in-reads.ensures ∙ drop_all c.len-ready.result c.reads.buffer.ready (omega arith) in
    let read : AreMoreReady (g.R.Read.remaining c.skim.new.input) (g.R.Read.remaining c.read.new.input) [] c.read.new.self.ready c.in_ok-read.field-0 = rw none at c.in_ok-read.ensures.read in
    let passed = both_passed c.args.count c.reads.left c.len-ready.result c.in_ok-left.field-0 (g.R.Read.remaining c.args.input.now) (g.R.Read.remaining c.reads.input) (g.R.Read.remaining c.skim.new.input)
    c.args.buffer.now.ready c.reads.buffer.ready c.len-ready.ensures (omega arith) c.in_ok-left.ensures.fewer c.in_ok-left.ensures.passed c.reads.invariant in
    let rest = c.reads.left - c.len-ready.result - c.in_ok-left.field-0 in
    let ended : c.in_ok-read.field-0 ≡ false = search rules in
    ends_few c.args.count rest (g.R.Read.remaining c.args.input.now) (g.R.Read.remaining c.skim.new.input) (g.R.Read.remaining c.read.new.input) c.args.buffer.now.ready c.read.new.self.ready (omega (arith, c.in_ok-left.ensures.fewer))
    (rw ended at read) passed

pub reads-preserved : goal.reads-preserved
reads-preserved g c =
    let none : c.make_room.new.self.ready ≡ [] = c.in_ok-make_room.ensures.ready ∙ c.in_ok-left.ensures.ready ∙ c.pass-in-reads.ensures ∙ drop_all c.len-ready.result c.reads.buffer.ready (omega arith) in
    let read : AreMoreReady (g.R.Read.remaining c.skim.new.input) (g.R.Read.remaining c.read.new.input) [] c.read.new.self.ready c.in_ok-read.field-0 = rw none at c.in_ok-read.ensures.read in
    let passed = both_passed c.args.count c.reads.left c.len-ready.result c.in_ok-left.field-0 (g.R.Read.remaining c.args.input.now) (g.R.Read.remaining c.reads.input) (g.R.Read.remaining c.skim.new.input)
    c.args.buffer.now.ready c.reads.buffer.ready c.len-ready.ensures (omega arith) c.in_ok-left.ensures.fewer c.in_ok-left.ensures.passed c.reads.invariant in
    let rest = c.reads.left - c.len-ready.result - c.in_ok-left.field-0 in
    reads_on c.args.count rest (g.R.Read.remaining c.args.input.now) (g.R.Read.remaining c.skim.new.input) (g.R.Read.remaining c.read.new.input) c.args.buffer.now.ready c.read.new.self.ready c.in_ok-read.field-0 read passed
