use Rattle.bench_check.proofs.checked.mistakes_in.Goals as goal

pub returns : goal.returns
returns c = λ spelled. record {
  found = c.in_ok-found.found.findings;
  of = c.in_ok-found.ensures.found spelled;
}
