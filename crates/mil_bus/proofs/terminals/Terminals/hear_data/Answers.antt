use Rattle.std.proofs.Common.{map}
use Rattle.mil_word.specs.Words.{data_wave}
use Rattle.mil_bus.specs.DataRuns.{hearing_all, run_words}
use Rattle.mil_bus.proofs.DataRuns.{hearing_all-own}
use Rattle.mil_bus.proofs.Indexing.{index-map}
use Rattle.mil_bus.proofs.terminals.Terminals.hear_data.Goals as goal

pub invariant_of-self : goal.invariant_of-self
invariant_of-self c = (
  rw c.tell_all-self-inside.ensures.heard (index-map (hearing_all c.args.line (run_words c.args.run.now (map data_wave c.args.values.now))) c.self.inside.places c.self.inside.list.items (hearing_all-own c.args.line (run_words c.args.run.now (map data_wave c.args.values.now))) c.self.invariant.0),
  c.tell_all-self-inside.ensures.closed,
)
