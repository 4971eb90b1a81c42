use Rattle.std.proofs.Common.{◌∙◌, ◌+◌, ap, refl, arith}
use Rattle.frame_code.specs.declared.Op.TheVariants as op
use Rattle.bc_machine.specs.Moves.{gone}
use Rattle.bc_machine.proofs.Rows.{to_quiet_row, to_answer, ticks, waits_none, gap_at}
use Rattle.bc_machine.proofs.parts.Parts.step.Goals as goal

pub set_gap-requires : goal.set_gap-requires
set_gap-requires c = gap_at c.args.self.now c.in-SetGap.ticks c.requires.image c.in-SetGap.ensures

pub returns-in-SetGap-clause-value : goal.returns-in-SetGap-clause-value
returns-in-SetGap-clause-value c = to_quiet_row c.args.self.now (op.SetGap c.in-SetGap.ticks) c.in-SetGap.ensures c.go_on.new.self c.requires.counted refl (c.go_on.ensures.value ∙ ap (λ m. gone m (m.at.place + 1)) c.set_gap.ensures)

pub returns-in-SetGap-clause-answer : goal.returns-in-SetGap-clause-answer
returns-in-SetGap-clause-answer c = to_answer c.args.self.now (op.SetGap c.in-SetGap.ticks) c.in-SetGap.ensures c.go_on.new.self c.go_on.result (waits_none c.args.self.now (op.SetGap c.in-SetGap.ticks) c.in-SetGap.ensures refl) (returns-in-SetGap-clause-value c) c.go_on.ensures.answer

pub returns-in-Loop-clause-value : goal.returns-in-Loop-clause-value
returns-in-Loop-clause-value c = to_quiet_row c.args.self.now (op.Loop c.in-Loop.count) c.in-Loop.ensures c.go_on-in-Loop.new.self c.requires.counted refl (c.go_on-in-Loop.ensures.value ∙ ap (λ m. gone m (m.at.place + 1)) c.open_loop.ensures)

pub returns-in-Loop-clause-answer : goal.returns-in-Loop-clause-answer
returns-in-Loop-clause-answer c = to_answer c.args.self.now (op.Loop c.in-Loop.count) c.in-Loop.ensures c.go_on-in-Loop.new.self c.go_on-in-Loop.result (waits_none c.args.self.now (op.Loop c.in-Loop.count) c.in-Loop.ensures refl) (returns-in-Loop-clause-value c) c.go_on-in-Loop.ensures.answer

pub returns-in-Again-clause-value : goal.returns-in-Again-clause-value
returns-in-Again-clause-value c = to_quiet_row c.args.self.now (op.Again c.in-Again.place) c.in-Again.ensures c.again.new.self c.requires.counted refl (c.again.ensures.value)

pub returns-in-Again-clause-answer : goal.returns-in-Again-clause-answer
returns-in-Again-clause-answer c = to_answer c.args.self.now (op.Again c.in-Again.place) c.in-Again.ensures c.again.new.self c.again.result (waits_none c.args.self.now (op.Again c.in-Again.place) c.in-Again.ensures refl) (returns-in-Again-clause-value c) c.again.ensures.answer

pub returns-in-Leave-clause-value : goal.returns-in-Leave-clause-value
returns-in-Leave-clause-value c = to_quiet_row c.args.self.now (op.Leave c.in-Leave.place) c.in-Leave.ensures c.leave.new.self c.requires.counted refl (c.leave.ensures.value)

pub returns-in-Leave-clause-answer : goal.returns-in-Leave-clause-answer
returns-in-Leave-clause-answer c = to_answer c.args.self.now (op.Leave c.in-Leave.place) c.in-Leave.ensures c.leave.new.self c.leave.result (waits_none c.args.self.now (op.Leave c.in-Leave.place) c.in-Leave.ensures refl) (returns-in-Leave-clause-value c) c.leave.ensures.answer

pub returns-in-Jump-clause-value : goal.returns-in-Jump-clause-value
returns-in-Jump-clause-value c = to_quiet_row c.args.self.now (op.Jump c.in-Jump.place) c.in-Jump.ensures c.go.new.self c.requires.counted refl (c.go.ensures.value)

pub returns-in-Jump-clause-answer : goal.returns-in-Jump-clause-answer
returns-in-Jump-clause-answer c = to_answer c.args.self.now (op.Jump c.in-Jump.place) c.in-Jump.ensures c.go.new.self c.go.result (waits_none c.args.self.now (op.Jump c.in-Jump.place) c.in-Jump.ensures refl) (returns-in-Jump-clause-value c) c.go.ensures.answer

pub returns-in-Test-clause-value : goal.returns-in-Test-clause-value
returns-in-Test-clause-value c = to_quiet_row c.args.self.now (op.Test c.in-Test.test) c.in-Test.ensures c.go_on-in-Test.new.self c.requires.counted refl (c.go_on-in-Test.ensures.value ∙ ap (λ m. gone m (m.at.place + 1)) c.test.ensures)

pub returns-in-Test-clause-answer : goal.returns-in-Test-clause-answer
returns-in-Test-clause-answer c = to_answer c.args.self.now (op.Test c.in-Test.test) c.in-Test.ensures c.go_on-in-Test.new.self c.go_on-in-Test.result (waits_none c.args.self.now (op.Test c.in-Test.test) c.in-Test.ensures refl) (returns-in-Test-clause-value c) c.go_on-in-Test.ensures.answer

pub returns-in-JumpFalse-clause-value : goal.returns-in-JumpFalse-clause-value
returns-in-JumpFalse-clause-value c = to_quiet_row c.args.self.now (op.JumpFalse c.in-JumpFalse.place) c.in-JumpFalse.ensures c.jump_false.new.self c.requires.counted refl (c.jump_false.ensures.value)

pub returns-in-JumpFalse-clause-answer : goal.returns-in-JumpFalse-clause-answer
returns-in-JumpFalse-clause-answer c = to_answer c.args.self.now (op.JumpFalse c.in-JumpFalse.place) c.in-JumpFalse.ensures c.jump_false.new.self c.jump_false.result (waits_none c.args.self.now (op.JumpFalse c.in-JumpFalse.place) c.in-JumpFalse.ensures refl) (returns-in-JumpFalse-clause-value c) c.jump_false.ensures.answer

pub returns-in-Call-clause-value : goal.returns-in-Call-clause-value
returns-in-Call-clause-value c = to_quiet_row c.args.self.now (op.Call c.in-Call.routine) c.in-Call.ensures c.call.new.self c.requires.counted refl (c.call.ensures.value)

pub returns-in-Call-clause-answer : goal.returns-in-Call-clause-answer
returns-in-Call-clause-answer c = to_answer c.args.self.now (op.Call c.in-Call.routine) c.in-Call.ensures c.call.new.self c.call.result (waits_none c.args.self.now (op.Call c.in-Call.routine) c.in-Call.ensures refl) (returns-in-Call-clause-value c) c.call.ensures.answer

pub returns-in-Return-clause-value : goal.returns-in-Return-clause-value
returns-in-Return-clause-value c = to_quiet_row c.args.self.now op.Return c.in-Return.ensures c.come_back.new.self c.requires.counted refl (c.come_back.ensures.value)

pub returns-in-Return-clause-answer : goal.returns-in-Return-clause-answer
returns-in-Return-clause-answer c = to_answer c.args.self.now op.Return c.in-Return.ensures c.come_back.new.self c.come_back.result (waits_none c.args.self.now op.Return c.in-Return.ensures refl) (returns-in-Return-clause-value c) c.come_back.ensures.answer

pub returns-in-Begin-clause-value : goal.returns-in-Begin-clause-value
returns-in-Begin-clause-value c = to_quiet_row c.args.self.now op.Begin c.in-Begin.ensures c.go_on-in-Begin.new.self c.requires.counted refl (c.go_on-in-Begin.ensures.value ∙ ap (λ m. gone m (m.at.place + 1)) c.open_frame.ensures)

pub returns-in-Begin-clause-answer : goal.returns-in-Begin-clause-answer
returns-in-Begin-clause-answer c = to_answer c.args.self.now op.Begin c.in-Begin.ensures c.go_on-in-Begin.new.self c.go_on-in-Begin.result (waits_none c.args.self.now op.Begin c.in-Begin.ensures refl) (returns-in-Begin-clause-value c) c.go_on-in-Begin.ensures.answer

pub returns-in-Pace-clause-value : goal.returns-in-Pace-clause-value
returns-in-Pace-clause-value c = to_quiet_row c.args.self.now (op.Pace c.in-Pace.hundreds) c.in-Pace.ensures c.close_frame.new.self c.requires.counted refl (c.close_frame.ensures.value)

pub returns-in-Pace-clause-answer : goal.returns-in-Pace-clause-answer
returns-in-Pace-clause-answer c = to_answer c.args.self.now (op.Pace c.in-Pace.hundreds) c.in-Pace.ensures c.close_frame.new.self c.close_frame.result (waits_none c.args.self.now (op.Pace c.in-Pace.hundreds) c.in-Pace.ensures refl) (returns-in-Pace-clause-value c) c.close_frame.ensures.answer

pub returns-in-Pace-clause-soon : goal.returns-in-Pace-clause-soon
returns-in-Pace-clause-soon c =
    omega (arith, ticks c.args.self.now (op.Pace c.in-Pace.hundreds) c.in-Pace.ensures (waits_none c.args.self.now (op.Pace c.in-Pace.hundreds) c.in-Pace.ensures refl), c.close_frame.ensures.soon)
