use Rattle.std.proofs.Common.{refl, sym, ◌∙◌}
use Rattle.bench_run.proofs.Arriving.{arrives_there, arrives_nowhere}
use Rattle.bench_run.proofs.Turning.{stands_there, none_there}
use Rattle.bench_run.proofs.beside.arrive.Goals as goal

pub returns-then-not-stands-clause-arrives : goal.returns-then-not-stands-clause-arrives
returns-then-not-stands-clause-arrives g c =
    let none = none_there c.args.ended c.comes_next-comes.result (sym c.one_of-stands.ensures ∙ c.if-not-stands.true) in
    arrives_nowhere c.args.run.now c.arrange.new.self c.args.posts.now c.arrange.ensures.arranged c.arrange.ensures.faults c.arrange.ensures.kept c.requires.room (c.comes_next-comes.ensures.none none)

pub returns-clause-arrives : goal.returns-clause-arrives
returns-clause-arrives g c =
    let r = c.args.run.now in
    let a = c.arrange.new.self in
    let still = stands_there c.args.ended c.comes_next-comes.result r a (sym c.one_of-stands.ensures ∙ c.if-not-stands.false) c.requires.ended c.comes_next-comes.ensures.some c.arrange.ensures.arranged in
    arrives_there r a (record a { machine = c.place_all.new.machine }) c.args.posts.now c.place_all.new.self c.arrange.ensures.arranged c.arrange.ensures.faults c.arrange.ensures.kept c.requires.room still
    c.place_all.ensures.takes (c.place_all.ensures.under_way c.arrange.ensures.kept.under_way) refl refl refl c.place_all.ensures.emptied c.place_all.ensures.left
