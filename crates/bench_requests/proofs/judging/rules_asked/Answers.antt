use Rattle.bench_requests.proofs.judging.rules_asked.Goals as goal

pub returns-clause-rules : goal.returns-clause-rules
returns-clause-rules c = rw c.rules_text.ensures at c.rules_of.ensures.rules

pub returns-clause-refused : goal.returns-clause-refused
returns-clause-refused c = rw c.rules_text.ensures at c.rules_of.ensures.refused
