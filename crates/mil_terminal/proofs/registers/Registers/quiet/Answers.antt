use Rattle.std.proofs.Common.{◌≡◌, Some, sym, ◌∙◌}
use Rattle.mil_terminal.specs.declared.pending.Pending.{Pending}
use Rattle.mil_terminal.specs.Updates.{ending}
use Rattle.mil_terminal.proofs.Hears.{same_line_is}
use Rattle.mil_terminal.proofs.Quiets.{quiet_none, quiet_waits, quiet_silent, quiet_settles, own_stays}
use Rattle.mil_terminal.proofs.registers.Registers.quiet.Goals as goal

pub returns-in-None-clause-stands : goal.returns-in-None-clause-stands
returns-in-None-clause-stands g c = λ h is. (quiet_none c.args.self.now c.args.self.now.window c.args.line h c.in-None.is c.in-None.is is).stands

pub returns-in-None-clause-reply : goal.returns-in-None-clause-reply
returns-in-None-clause-reply g c = λ h is. (quiet_none c.args.self.now c.args.self.now.window c.args.line h c.in-None.is c.in-None.is is).silent

pub returns-in-None-take_quiet-clause-stands : goal.returns-in-None-take_quiet-clause-stands
returns-in-None-take_quiet-clause-stands g c = λ h is.
    (quiet_waits c.args.self.now c.in-Some.pending c.take_quiet.new.self c.args.line h c.in-Some.is (sym c.same_line.ensures ∙ c.if-same_line.true)
    c.take_quiet.ensures.line c.take_quiet.ensures.command (λ items pending. (c.in-None-take_quiet.ensures.pending c.args.self.now.own items pending).1) is).stands

pub returns-in-None-take_quiet-clause-reply : goal.returns-in-None-take_quiet-clause-reply
returns-in-None-take_quiet-clause-reply g c = λ h is.
    (quiet_waits c.args.self.now c.in-Some.pending c.take_quiet.new.self c.args.line h c.in-Some.is (sym c.same_line.ensures ∙ c.if-same_line.true)
    c.take_quiet.ensures.line c.take_quiet.ensures.command (λ items pending. (c.in-None-take_quiet.ensures.pending c.args.self.now.own items pending).1) is).silent

pub returns-in-Some-take_quiet-clause-stands : goal.returns-in-Some-take_quiet-clause-stands
returns-in-Some-take_quiet-clause-stands g c = λ h is.
    let same = sym c.same_line.ensures ∙ c.if-same_line.true in
    let q : Pending = ending (record c.args.self.now { window = Some c.take_quiet.new.self }) c.args.line c.take_quiet.new.self.command in
    rw c.settle.ensures.after
    (quiet_settles c.args.self.now c.in-Some.pending q c.in-Some-take_quiet.shape c.args.line h c.in-Some.is same
    (sym (same_line_is c.args.line c.in-Some.pending.line same)) c.take_quiet.ensures.command c.take_quiet.ensures.words (λ items pending. c.in-Some-take_quiet.ensures.decided c.args.self.now.own items pending) is).0

pub returns-in-Some-take_quiet-clause-reply : goal.returns-in-Some-take_quiet-clause-reply
returns-in-Some-take_quiet-clause-reply g c = λ h is.
    let same = sym c.same_line.ensures ∙ c.if-same_line.true in
    let q : Pending = ending (record c.args.self.now { window = Some c.take_quiet.new.self }) c.args.line c.take_quiet.new.self.command in
    c.settle.ensures.reply
    ∙ (quiet_settles c.args.self.now c.in-Some.pending q c.in-Some-take_quiet.shape c.args.line h c.in-Some.is same
    (sym (same_line_is c.args.line c.in-Some.pending.line same)) c.take_quiet.ensures.command c.take_quiet.ensures.words (λ items pending. c.in-Some-take_quiet.ensures.decided c.args.self.now.own items pending) is).1

pub returns-else-same_line-clause-stands : goal.returns-else-same_line-clause-stands
returns-else-same_line-clause-stands g c = λ h is. (quiet_silent c.args.self.now c.in-Some.pending c.args.line h c.in-Some.is (sym c.same_line.ensures ∙ c.if-same_line.false) is).stands

pub returns-else-same_line-clause-reply : goal.returns-else-same_line-clause-reply
returns-else-same_line-clause-reply g c = λ h is. (quiet_silent c.args.self.now c.in-Some.pending c.args.line h c.in-Some.is (sym c.same_line.ensures ∙ c.if-same_line.false) is).silent

pub returns-in-Some-take_quiet-clause-own : goal.returns-in-Some-take_quiet-clause-own
returns-in-Some-take_quiet-clause-own g c = rw c.settle.ensures.after (own_stays _ _ _ _ _ _)
