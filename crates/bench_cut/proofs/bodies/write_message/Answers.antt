use Rattle.std.proofs.Common.{subst}
use Rattle.std.specs.Io.KnownBytes.{Appends}
use Rattle.ch11_f1.specs.Views.{message_of}
use Rattle.bench_complete.proofs.Running.{appends_both}
use Rattle.bench_cut.specs.Cut.{head_of}
use Rattle.bench_cut.proofs.bodies.write_message.Goals as goal

pub returns : goal.returns
returns g c = appends_both _ _ _ (head_of (message_of c.args.seen.now)) c.args.seen.now.words.now (subst (Appends _ _) c.head_of.ensures c.in_ok-write_all.ensures.bytes) c.in_ok-write_all-2.ensures.bytes
