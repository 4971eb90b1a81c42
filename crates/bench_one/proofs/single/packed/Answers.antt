use Rattle.std.proofs.Common.{rules}
use Rattle.bench_one.specs.One.{channel_of}
use Rattle.bench_one.proofs.First.{first_is_held, first_packet}
use Rattle.bench_one.proofs.single.packed.Goals as goal

pub returns-in-Some : goal.returns-in-Some
returns-in-Some c =
    rw (← first_packet c.args.channel c.args.version c.args.line c.args.message.now c.args.recorded.now _ _ c.in-Some.packet.now
    c.requires.is c.in-Ok.ensures.fresh c.push.follows.holds-at-none c.in-Some.ensures.answer.1) (search rules)

pub returns : goal.returns
returns c =
    absurd (first_is_held (channel_of c.args.channel c.args.version) _ _ _ c.in-Ok.ensures.fresh c.push.follows.holds-at-none c.in-None.ensures.answer)
