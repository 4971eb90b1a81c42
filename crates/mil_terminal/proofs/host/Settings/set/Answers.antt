use Rattle.mil_terminal.proofs.Setting.{set_transmit, set_ramp, set_busy, set_service, set_once, set_subsystem, set_fault, set_control, set_vector, set_self_test, set_bit, set_illegal, set_legal}
use Rattle.mil_terminal.proofs.Setting.{set_illegal_mode, set_legal_mode, set_response, set_gap, set_deaf, set_mute, set_broadcast, set_power}
use Rattle.mil_terminal.proofs.host.Settings.set.Goals as goal

pub returns-in-Transmit : goal.returns-in-Transmit
returns-in-Transmit c = λ own h is. rw c.in-Transmit.is (set_transmit own c.args.self.now h is c.in-Transmit.field-0)

pub returns-in-Ramp : goal.returns-in-Ramp
returns-in-Ramp c = λ own h is. rw c.in-Ramp.is (set_ramp own c.args.self.now h is c.in-Ramp.field-0)

pub returns-in-Busy : goal.returns-in-Busy
returns-in-Busy c = λ own h is. rw c.in-Busy.is (set_busy own c.args.self.now h is c.in-Busy.on)

pub returns-in-Service : goal.returns-in-Service
returns-in-Service c = λ own h is. rw c.in-Service.is (set_service own c.args.self.now h is c.in-Service.on)

pub returns-in-Subsystem : goal.returns-in-Subsystem
returns-in-Subsystem c = λ own h is. rw c.in-Subsystem.is (set_subsystem own c.args.self.now h is c.in-Subsystem.on)

pub returns-in-Fault : goal.returns-in-Fault
returns-in-Fault c = λ own h is. rw c.in-Fault.is (set_fault own c.args.self.now h is c.in-Fault.on)

pub returns-in-Control : goal.returns-in-Control
returns-in-Control c = λ own h is. rw c.in-Control.is (set_control own c.args.self.now h is c.in-Control.on)

pub returns-in-Vector : goal.returns-in-Vector
returns-in-Vector c = λ own h is. rw c.in-Vector.is (set_vector own c.args.self.now h is c.in-Vector.word)

pub returns-in-SelfTest : goal.returns-in-SelfTest
returns-in-SelfTest c = λ own h is. rw c.in-SelfTest.is (set_self_test own c.args.self.now h is c.in-SelfTest.word)

pub returns-in-Broadcast : goal.returns-in-Broadcast
returns-in-Broadcast c = λ own h is. rw c.in-Broadcast.is (set_broadcast own c.args.self.now h is c.in-Broadcast.on)

pub returns-in-Power : goal.returns-in-Power
returns-in-Power c = λ own h is. rw c.in-Power.is (set_power own c.args.self.now h is c.in-Power.on)

pub returns-in-BitWord : goal.returns-in-BitWord
returns-in-BitWord c = λ own h is. rw c.in-BitWord.is (set_bit own c.args.self.now h is c.in-BitWord.word)

pub returns-in-ServiceOnce : goal.returns-in-ServiceOnce
returns-in-ServiceOnce c = λ own h is. rw c.in-ServiceOnce.is (set_once own c.args.self.now h is)

pub returns-in-Illegal : goal.returns-in-Illegal
returns-in-Illegal c = λ own h is. rw c.in-Illegal.is (set_illegal own c.args.self.now h is c.in-Illegal.mark c.set.new.self c.set.ensures.marks c.set.ensures.modes)

pub returns-in-Legal : goal.returns-in-Legal
returns-in-Legal c = λ own h is. rw c.in-Legal.is (set_legal own c.args.self.now h is c.in-Legal.mark c.set-in-Legal.new.self c.set-in-Legal.ensures.marks c.set-in-Legal.ensures.modes)

pub returns-in-IllegalMode : goal.returns-in-IllegalMode
returns-in-IllegalMode c = λ own h is. rw c.in-IllegalMode.is (set_illegal_mode own c.args.self.now h is c.in-IllegalMode.mark c.set_mode.new.self c.set_mode.ensures.modes c.set_mode.ensures.marks)

pub returns-in-LegalMode : goal.returns-in-LegalMode
returns-in-LegalMode c = λ own h is. rw c.in-LegalMode.is (set_legal_mode own c.args.self.now h is c.in-LegalMode.mark c.set_mode-in-LegalMode.new.self c.set_mode-in-LegalMode.ensures.modes c.set_mode-in-LegalMode.ensures.marks)

pub returns-in-Response : goal.returns-in-Response
returns-in-Response c = λ own h is. rw (c.in-Response.is, c.of-self.ensures, c.from.ensures, c.ticks.ensures.value) (set_response own c.args.self.now h is c.in-Response.gap)

pub returns-in-Gap : goal.returns-in-Gap
returns-in-Gap c = λ own h is. rw (c.in-Gap.is, c.of-self-in-Gap.ensures, c.from-in-Gap.ensures, c.ticks-in-Gap.ensures.value) (set_gap own c.args.self.now h is c.in-Gap.gap)

pub returns-in-Deaf : goal.returns-in-Deaf
returns-in-Deaf c = λ own h is. rw (c.in-Deaf.is, c.set-in-Deaf.ensures) (set_deaf own c.args.self.now h is c.in-Deaf.line c.in-Deaf.on)

pub returns-in-Mute : goal.returns-in-Mute
returns-in-Mute c = λ own h is. rw (c.in-Mute.is, c.set-in-Mute.ensures) (set_mute own c.args.self.now h is c.in-Mute.line c.in-Mute.on)
