use Rattle.std.proofs.Common.{◌≡◌, true, false, Err, sym, ap, ◌∙◌, rules}
use Rattle.ch11_reader.specs.Recording.{packet_at}
use Rattle.ch11_stream.proofs.Fronts.{body_faulty, end_faulty}
use Rattle.ch11_stream.proofs.looking.judge_whole.Goals as goal

pub returns-then-not-branch-clause-begins : goal.returns-then-not-branch-clause-begins
returns-then-not-branch-clause-begins g c =
    let none : c.in_ok-fill.field-0 ≡ false = search rules in
    end_faulty (g.R.Read.remaining c.args.input.now) (g.R.Read.remaining c.fill.new.input) c.args.buffer.now.ready c.fill.new.buffer.ready c.in_ok-fill.field-0 c.args.header none c.requires c.in_ok-fill.ensures.more c.in_ok-fill.ensures.filled

pub returns-in-Err-clause-begins : goal.returns-in-Err-clause-begins
returns-in-Err-clause-begins g c =
    let all : c.in_ok-fill.field-0 ≡ true = search rules in
    let wrong : packet_at c.fill.new.buffer.ready ≡ Err c.in-Err.fault = ap packet_at (sym c.ready.ensures) ∙ c.in-Err.ensures.read in
    body_faulty (g.R.Read.remaining c.args.input.now) (g.R.Read.remaining c.fill.new.input) c.args.buffer.now.ready c.fill.new.buffer.ready c.in_ok-fill.field-0 c.args.header c.in-Err.fault all c.requires c.in_ok-fill.ensures.more c.in_ok-fill.ensures.filled wrong
