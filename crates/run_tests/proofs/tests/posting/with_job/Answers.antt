use Rattle.run_tests.proofs.Along.{mail_push}
use Rattle.run_tests.proofs.tests.posting.with_job.Goals as goal

pub returns : goal.returns
returns g c =
    let mail = c.args.mail in
    mail_push mail.boxes.items c.with_one-boxes.result.items mail.firsts.items c.with_one-firsts.result.items mail.seconds.items c.with_one-seconds.result.items mail.inboxes.items c.with_one-inboxes.result.items
    _ _ _ _ c.requires c.two_hosts-mailbox.ensures.first c.two_hosts-mailbox.ensures.second c.two_hosts-mailbox.ensures.inbox
    c.with_one-boxes.ensures c.with_one-firsts.ensures c.with_one-seconds.ensures c.with_one-inboxes.ensures
