use Rattle.run_tests.proofs.Along.{no_mail}
use Rattle.run_tests.proofs.tests.posting.no_mail.Goals as goal

pub returns : goal.returns
returns c = no_mail _ _ _ _ c.new-boxes.ensures.items c.new-firsts.ensures.items c.new-seconds.ensures.items c.new-inboxes.ensures.items
