use Rattle.std.proofs.Common.{map, ◌≡◌, true, false, ◌∙◌}
use Rattle.mil_word.specs.Words.{data_wave}
use Rattle.mil_bus.specs.Exchange.{misses}
use Rattle.mil_bus.proofs.DataRuns.{run-heard, run-missed}
use Rattle.mil_bus.proofs.data_runs.hear_words.Goals as goal

pub returns-then-not-misses : goal.returns-then-not-misses
returns-then-not-misses c =
    let other : misses c.args.line c.args.run.now.source c.args.terminal.now ≡ false = cc in
    c.hear_values.ensures ∙ run-heard c.args.line c.args.run.now (map data_wave c.args.values.now) c.args.terminal.now other

pub returns-else-not-misses : goal.returns-else-not-misses
returns-else-not-misses c =
    let missed : misses c.args.line c.args.run.now.source c.args.terminal.now ≡ true = cc in
    run-missed c.args.line c.args.run.now (map data_wave c.args.values.now) c.args.terminal.now missed
