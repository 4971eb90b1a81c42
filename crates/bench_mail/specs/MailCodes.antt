-- The letters of a mailbox's refusals (own choice).
use Rattle.std.specs.Prelude.{ℕ, List, codes}
use Rattle.bench_mail.specs.declared.error.MailError.{MailError}
use Rattle.bench_mail.specs.declared.error.MailError.TheVariants as mail
use Rattle.bench_mail.specs.declared.error.PostError.{PostError}
use Rattle.bench_mail.specs.declared.error.PostError.TheVariants as post

abbrev pub mail_code : MailError → List ℕ
mail_code mail.Capacity = codes "E1"
mail_code mail.Memory = codes "E2"

abbrev pub post_code : PostError → List ℕ
post_code (post.NoTerminal action) = codes "E3"
post_code (post.Full action) = codes "E4"
