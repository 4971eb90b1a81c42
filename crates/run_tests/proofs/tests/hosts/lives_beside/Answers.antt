use Rattle.bench_run.specs.Live.{AreInboxesOf}
use Rattle.run_tests.proofs.Ended.{ok_holds}
use Rattle.run_tests.proofs.tests.hosts.lives_beside.Goals as goal

pub returns-clause-inboxes : goal.returns-clause-inboxes
returns-clause-inboxes g c = ok_holds c.join-posted.result.1 c.ok.result c.expect-left.result (λ r. AreInboxesOf c.args.boxes.now r.1.items) c.ok.ensures.value c.expect-left.ensures c.join-posted.ensures.second
