use Rattle.run_tests.specs.Hosts.{HasPosted}
use Rattle.run_tests.proofs.tests.settled.post_three.Given as goal

abbrev pub invariant-loop-word : goal.invariant-loop-word
invariant-loop-word g l = HasPosted l.word l.mailbox l.poster
