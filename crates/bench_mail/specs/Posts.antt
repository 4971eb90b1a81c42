-- What hosts post.
use Rattle.std.specs.Prelude.{ℕ}
use Rattle.bench_mail.specs.declared.mailbox.Post.{Post}

-- the host that asks for the action
abbrev pub host_of : Post → ℕ
host_of p = p.host
