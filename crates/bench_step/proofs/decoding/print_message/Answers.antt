use Rattle.bench_step.proofs.Telling.{printed, waits}
use Rattle.bench_step.proofs.decoding.print_message.Goals as goal

pub returns-clause-printed : goal.returns-clause-printed
returns-clause-printed g c =
    printed c.args.index.now c.args.number c.number_in_channel.result (c.in-Some.channel, c.in-Some.view) _ _ _ c.args.decoded.now c.write_message.new.line c.in-Some.ensures c.requires
    c.number_in_channel.ensures.value c.in_ok-write_message.ensures.put c.in_ok-finish.ensures.gone

pub returns-clause-waits : goal.returns-clause-waits
returns-clause-waits g c =
    waits _ _ c.args.decoded.now c.write_message.new.line c.finish.new.self _ c.requires c.in_ok-write_message.ensures.put c.in_ok-finish.ensures.new
