use Rattle.std.proofs.Common.{ap, length, arith}
use Rattle.std.specs.Io.KnownBytes.{prepend_known}
use Rattle.ch11_stream.specs.Looking.{IsPast}
use Rattle.ch11_stream.proofs.Fronts.{faulty_past, past_both, past_kept, quiet_past, settled_unless_faulty}
use Rattle.ch11_stream.proofs.looking.pass_some.Goals as goal

pub returns-in-Faulty-clause-passed : goal.returns-in-Faulty-clause-passed
returns-in-Faulty-clause-passed g c =
    let left = g.R.Read.remaining c.args.input.now in
    let leaves = g.R.Read.remaining c.look.new.input in
    let before = c.args.buffer.now.ready in
    let quiet = c.bytes_without_sync-quiet.result in
    let middle = c.pass.new.self.ready in
    let q : IsPast quiet (prepend_known before left) (prepend_known middle left) =
    rw c.pass.ensures (quiet_past quiet left before (omega (arith, c.bytes_without_sync-quiet.ensures.within, ap length c.ready.ensures)) (rw c.ready.ensures at c.bytes_without_sync-quiet.ensures.skipped)) in
    let f = rw c.in-Faulty.is at c.in_ok-look.ensures.begins in
    rw c.pass-in-Faulty.ensures (past_both quiet 1 (prepend_known before left) (prepend_known middle left) _ q (faulty_past (prepend_known middle left) leaves c.look.new.buffer.ready c.in-Faulty.field-0 c.in_ok-look.ensures.kept f))

pub returns-in_default : goal.returns-in_default
returns-in_default g c =
    let left = g.R.Read.remaining c.args.input.now in
    let leaves = g.R.Read.remaining c.look.new.input in
    let before = c.args.buffer.now.ready in
    let quiet = c.bytes_without_sync-quiet.result in
    let middle = c.pass.new.self.ready in
    let q : IsPast quiet (prepend_known before left) (prepend_known middle left) =
    rw c.pass.ensures (quiet_past quiet left before (omega (arith, c.bytes_without_sync-quiet.ensures.within, ap length c.ready.ensures)) (rw c.ready.ensures at c.bytes_without_sync-quiet.ensures.skipped)) in
    record {
      passed = past_kept quiet (prepend_known before left) (prepend_known middle left) (prepend_known c.look.new.buffer.ready leaves) q c.in_ok-look.ensures.kept;
      settled = λ e. settled_unless_faulty c.in_ok-look.field-0 (prepend_known middle left) leaves c.look.new.buffer.ready c.in_default.not-Faulty c.in_ok-look.ensures.begins;
      failed = tt;
    }
