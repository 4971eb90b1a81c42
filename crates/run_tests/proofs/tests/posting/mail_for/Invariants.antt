use Rattle.run_tests.specs.Hosts.{IsMail}
use Rattle.run_tests.proofs.tests.posting.mail_for.Given as goal

abbrev pub invariant-loop-job : goal.invariant-loop-job
invariant-loop-job g l = IsMail l.mail.boxes.items l.mail.firsts.items l.mail.seconds.items l.mail.inboxes.items
