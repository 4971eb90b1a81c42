use Rattle.ch11_builder.proofs.OneMore.{latest_pushed}
use Rattle.ch11_builder.proofs.Runs as runs
use Rattle.ch11_builder.proofs.laws.run_gives_the_packets.Goals as goal

pub returns-clause-packets : goal.returns-clause-packets
returns-clause-packets c = runs.run_gives_the_packets

pub returns-clause-goes_on : goal.returns-clause-goes_on
returns-clause-goes_on c = λ s ns n. (runs.after_more s ns n, runs.closed_more s ns n)

pub returns-clause-latest : goal.returns-clause-latest
returns-clause-latest c = latest_pushed
