use Rattle.std.proofs.Common.{◌%◌, eq-eqb, refl, sym, arith}
use Rattle.ch11_reader.proofs.Walks.{body_fault}
use Rattle.ch11_reader.proofs.judge.Judge.body_fault.Goals as goal

pub returns-in-Some : goal.returns-in-Some
returns-in-Some c =
    let h = c.in-Ok.header in
    rw (← c.self.view_is)
    (body_fault c.self.inside.file.now c.split_at.result.1.now c.split_at-2.result.1.now c.split_at-3.result.0.now c.args.place c.body_start-start.result (c.read_u32-count.result % 16777216) h c.in-Some.fault
    c.split_at.ensures.back c.split_at-2.ensures.back c.split_at-3.ensures.front c.body_start-start.ensures (rw c.self.view_is c.requires) (sym c.in-Ok.ensures.answer) (omega (arith, c.if-bytes-header.false)) c.in-Ok.ensures.lengths.1
    (eq-eqb h.kind 25 c.if-header-ne-BUS_MESSAGES.false) (omega (arith, c.if-body-lt4.false)) (rw c.read_u32-count.ensures refl) (rw c.self.invariant at c.in-Some.ensures))
