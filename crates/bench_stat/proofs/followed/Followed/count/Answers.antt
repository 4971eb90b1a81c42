use Rattle.bench_stat.proofs.followed.Followed.count.Goals as goal

pub returns : goal.returns
returns c = λ shown history is. record {
  details = λ asked. c.count_details.ensures history (is.details asked);
  flows = λ asked. c.count_flows.ensures history (is.flows asked);
  load = λ asked. c.count_load.ensures history (is.load asked);
}
