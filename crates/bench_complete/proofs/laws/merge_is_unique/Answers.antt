use Rattle.bench_complete.proofs.Unique as unique
use Rattle.bench_complete.proofs.laws.merge_is_unique.Goals as goal

pub returns-clause-unique : goal.returns-clause-unique
returns-clause-unique c = unique.merge_is_unique

pub returns-clause-counters : goal.returns-clause-counters
returns-clause-counters c = unique.counters_stay

pub returns-clause-again : goal.returns-clause-again
returns-clause-again c = unique.merged_again
