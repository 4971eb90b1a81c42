use Rattle.std.proofs.Common.{refl, arith, ◌+◌, ◌-◌, ◌∙◌}
use Rattle.std.specs.Prelude.{false}
use Rattle.mil_host.specs.declared.actions.Action.TheVariants.{Power}
use Rattle.mil_terminal.specs.Placing.{with_words, with_ramp}
use Rattle.mil_terminal.proofs.Acts.{acts, powers_on}
use Rattle.mil_terminal.proofs.Putting.{puts_words, puts_ramp, puts_none, told_none, sets_no_bit, turns_not_on, keeps_received, words_keep, ramp_keeps}
use Rattle.mil_terminal.proofs.registers.Registers.act.Goals as goal

pub returns-in-Transmit-clause-stands : goal.returns-in-Transmit-clause-stands
returns-in-Transmit-clause-stands c = λ h is.
    let r = c.args.self.now in
    let put = c.in-Transmit.put in
    rw (c.put_words.ensures, c.sub.ensures.value, c.words.ensures.value, c.in-Transmit.is)
    (acts r c.set.new.self (with_words r.block put.sub put.words) r.synced.bit_word _ h refl refl (rw c.in-Transmit.is at (c.set.ensures r.own h is.settings))
    (puts_words r.own r.block put h (omega arith) is.put_up)
    (keeps_received r.own r.block (with_words r.block put.sub put.words) h (words_keep r.block put is.put_up.long (omega arith))) is)

pub returns-in-Ramp-clause-stands : goal.returns-in-Ramp-clause-stands
returns-in-Ramp-clause-stands c = λ h is.
    let r = c.args.self.now in
    let x = c.in-Ramp.ramp in
    rw (c.put_ramp.ensures, c.sub-in-Ramp.ensures.value, c.index.ensures.value, c.start.ensures, c.add.ensures, c.in-Ramp.is)
    (acts r c.set.new.self (with_ramp r.block x.sub (x.index - 1) x.start x.add) r.synced.bit_word _ h refl refl (rw c.in-Ramp.is at (c.set.ensures r.own h is.settings))
    (puts_ramp r.own r.block x h (x.index - 1) (omega arith) (omega arith) (omega (arith, c.start.ensures)) is.put_up)
    (keeps_received r.own r.block (with_ramp r.block x.sub (x.index - 1) x.start x.add) h (ramp_keeps r.block x.sub (x.index - 1) x.start x.add is.put_up.long (omega arith))) is)

pub returns-in-BitWord-clause-stands : goal.returns-in-BitWord-clause-stands
returns-in-BitWord-clause-stands c = λ h is.
    let r = c.args.self.now in
    rw c.in-BitWord.is
    (acts r c.set.new.self r.block c.in-BitWord.word _ h refl refl (rw c.in-BitWord.is at (c.set.ensures r.own h is.settings))
    (puts_none r.own r.block _ h (λ sub place. refl, λ sub before. refl) is.put_up) (λ same. same) is)

pub returns-then-on-clause-stands : goal.returns-then-on-clause-stands
returns-then-on-clause-stands c = λ h is.
    let r = c.args.self.now in
    rw (c.renew.ensures.renewed, c.in-Power.is, c.if-on.true)
    (powers_on r c.set.new.self c.renew.new.self.block h (rw (c.in-Power.is, c.if-on.true) at (c.set.ensures r.own h is.settings)) c.renew.ensures.cleared c.renew.ensures.kept c.renew.ensures.long is)

pub returns-else-on-clause-stands : goal.returns-else-on-clause-stands
returns-else-on-clause-stands c = λ h is.
    let r = c.args.self.now in
    rw (c.in-Power.is, c.if-on.false)
    (acts r c.set.new.self r.block r.synced.bit_word (Power false) h refl refl (rw (c.in-Power.is, c.if-on.false) at (c.set.ensures r.own h is.settings))
    (puts_none r.own r.block (Power false) h (λ sub place. refl, λ sub before. refl) is.put_up) (λ same. same) is)

pub returns-in_default-clause-stands : goal.returns-in_default-clause-stands
returns-in_default-clause-stands c = λ h is.
    let r = c.args.self.now in
    let a = c.args.action.now in
    acts r c.set.new.self r.block r.synced.bit_word a h (turns_not_on a c.in_default.not-Power) (sets_no_bit a r.synced.bit_word c.in_default.not-BitWord) (c.set.ensures r.own h is.settings)
    (puts_none r.own r.block a h (told_none a c.in_default.not-Transmit c.in_default.not-Ramp) is.put_up) (λ same. same) is
