use Rattle.std.proofs.Common.{◌≡◌, true, false, rules}
use Rattle.std.specs.Io.KnownBytes.{prepend_known}
use Rattle.ch11_stream.proofs.Judged.{ends_early, other_taken}
use Rattle.ch11_stream.proofs.taking.take_other.Goals as goal

pub returns-then-not-branch : goal.returns-then-not-branch
returns-then-not-branch g c =
    let none : c.in_ok-pass.field-0 ≡ false = search rules in
    rw c.refused.ensures (ends_early c.args.offset (prepend_known c.args.buffer.now.ready (g.R.Read.remaining c.args.input.now)) c.args.header c.requires.next (c.in_ok-pass.ensures.passed.few none))

pub returns : goal.returns
returns g c =
    let all : c.in_ok-pass.field-0 ≡ true = search rules in
    other_taken (g.R.Read.remaining c.args.input.now) (g.R.Read.remaining c.pass.new.input) c.args.buffer.now.ready c.pass.new.buffer.ready c.in_ok-pass.field-0 c.args.header all c.requires.kind c.requires.next c.in_ok-pass.ensures.passed
