-- An entry, a controller and an inbox may go to another thread, and a job and a mailbox may be seen by one.
use denote.RattleType.{RattleType}
use denote.Param.Send.{IsSend, IsSync, sendable, number_array_send, view_send, view_sync}
use denote.Param.{ArrayAt}
use denote.Param.SendFields.{declared_send, declared_sync, variants_send, as_row_send}
use denote.Struct.Field.{row_field}
use Rattle.std.specs.declared.default.Default.{Ghosts}
use Rattle.std.proofs.Crossing.{crosses}
use Rattle.std.proofs.MapsCrossing as maps
use Rattle.frame_load.specs.contracts.Program as program
use Rattle.mil_line.specs.contracts.plans.Plan as plan
use Rattle.mil_terminal.specs.contracts.blocks.Block as block
use Rattle.mil_terminal.specs.contracts.terminals.Terminal as terminal
use Rattle.mil_bus.specs.contracts.terminals.Terminals as terminals
use Rattle.mil_bus.specs.contracts.buses.Bus as bus
use Rattle.controller_host.specs.contracts.sources.Sources as sources
use Rattle.bc_machine.specs.contracts.placed.HostAction as host_action
use Rattle.bc_machine.specs.contracts.agenda.Agenda as agenda
use Rattle.bc_machine.specs.contracts.agenda.Agenda.TheInside as agenda_inside
use Rattle.bc_machine.specs.contracts.actions.Actions as actions
use Rattle.bc_machine.specs.contracts.action_rows.Row as row
use Rattle.bc_machine.specs.contracts.beside.Beside as beside
use Rattle.bc_machine.specs.contracts.beside.Beside.TheInside as beside_inside
use Rattle.bc_machine.specs.contracts.schedule.Schedule as schedule
use Rattle.bc_machine.specs.contracts.schedule.Schedule.TheInside as schedule_inside
use Rattle.bc_machine.specs.contracts.stack.Stack as stack
use Rattle.bc_machine.specs.contracts.stack.Stack.TheInside as inside
use Rattle.mil_bus.specs.contracts.outcomes.Outcome as outcome
use Rattle.bc_machine.specs.contracts.progress.Progress as progress
use Rattle.bc_machine.specs.contracts.parts.Parts as parts
use Rattle.bc_machine.specs.contracts.parts.Parts.TheInside as parts_inside
use Rattle.bc_machine.specs.contracts.machine.Machine as machine
use Rattle.job_moments.specs.contracts.waiting.Waiting as waiting
use Rattle.job_moments.specs.contracts.planning.Occasions as occasions
use Rattle.job_file.specs.contracts.jobs.Job as job
use Rattle.job_file.specs.contracts.job_run.Due as due
use Rattle.job_file.specs.contracts.job_run.JobRun as job_run
use Rattle.job_file.specs.contracts.timed.TimedAction as timed_action
use Rattle.job_file.specs.contracts.timed.TimedFault as timed_fault
use Rattle.job_file.specs.contracts.timed.TimedLines as timed_lines
use Rattle.bench_run.specs.contracts.channel.Course as course
use Rattle.bench_run.specs.contracts.entry.Entry as entry
use Rattle.bench_run.specs.contracts.entry.EntryTagged.TheImpl.{ghosts}
use Rattle.bench_run.specs.contracts.channel.Room as room
use Rattle.atomic_table.proofs.shared.Seat.TheSendSync as seat
use Rattle.mil_trunk.specs.contracts.trunk.Trunk as trunk
use Rattle.mil_trunk.proofs.trunk.Trunk.TheSendSync as crossing
use Rattle.mil_trunk.specs.contracts.trunk.Ticket as ticket
use Rattle.mil_trunk.specs.contracts.trunk.Taker as taker
use Rattle.bench_mail.specs.contracts.mailbox.Post as post
use Rattle.bench_mail.specs.contracts.mailbox.PostTagged.TheImpl as post_impl
use Rattle.bench_mail.specs.contracts.mailbox.Mailbox as mailbox
use Rattle.bench_mail.specs.contracts.mailbox.Inbox as inbox
use Rattle.bench_run.specs.contracts.posting.Posts as posts

pub entry_send : IsSend entry.the_row
entry_send = search (sendable, crosses) depth 40 fits 10000

program_send : IsSend program.the_row
program_send = search (sendable, crosses) depth 40 fits 10000

plan_send : IsSend plan.the_row
plan_send = search (maps.crosses, sendable, crosses) depth 40 fits 10000

block_send : IsSend block.the_row
block_send = search (sendable, crosses) depth 40 fits 10000

terminal_send : IsSend terminal.the_row
terminal_send = search (block_send, sendable, crosses) depth 40 fits 10000

terminals_send : IsSend terminals.the_row
terminals_send = search (terminal_send, sendable, crosses) depth 40 fits 10000

bus_send : IsSend bus.the_row
bus_send = search (terminals_send, sendable, crosses) depth 40 fits 10000

host_action_send : IsSend host_action.the_row
host_action_send = search (sendable, crosses) depth 40 fits 10000

sources_send : IsSend sources.the_row
sources_send = search (sendable, crosses) depth 40 fits 10000

row_send : IsSend row.the_row
row_send = search (sendable, crosses) depth 40 fits 10000

beside_send : IsSend beside.the_row
beside_send = view_send beside_inside.the_row _ _ _ _ (declared_send beside_inside.the_type ((search (sendable, crosses) depth 40 fits 20000), ((search (sendable, crosses) depth 40 fits 20000), ((search (sendable, crosses) depth 40 fits 20000), ((search (host_action_send, sendable, crosses) depth 40 fits 20000), tt)))))

schedule_send : IsSend schedule.the_row
schedule_send = view_send schedule_inside.the_row _ _ _ _ (declared_send schedule_inside.the_type ((search (row_send, sendable, crosses) depth 40 fits 20000), ((search (beside_send, sendable, crosses) depth 40 fits 20000), ((search (row_send, sendable, crosses) depth 40 fits 20000), ((search (sendable, crosses) depth 40 fits 20000), ((search (sendable, crosses) depth 40 fits 20000), ((search (sendable, crosses) depth 40 fits 20000), ((search (sources_send, sendable, crosses) depth 40 fits 20000), tt))))))))

agenda_send : IsSend agenda.the_row
agenda_send = view_send agenda_inside.the_row _ _ _ _ (declared_send agenda_inside.the_type ((search (schedule_send, sendable, crosses) depth 40 fits 20000), ((search (schedule_send, sendable, crosses) depth 40 fits 20000), ((search (sendable, crosses) depth 40 fits 20000), ((search (sendable, crosses) depth 40 fits 20000), ((search (sendable, crosses) depth 40 fits 20000), ((search (sendable, crosses) depth 40 fits 20000), tt)))))))

-- a stack, where what is in it may go
stack_send : (T N : RattleType) (given : Ghosts T.Denot) → IsSend T → IsSend (stack.the_row T N given)
stack_send T N given sent =
    let slots = as_row_send (row_field (ArrayAt T N)) (number_array_send T N sent) in
    view_send (inside.the_row T N given) _ _ _ _ (declared_send (inside.the_type T N given) (slots, (search (sendable, crosses) depth 40, tt)))

outcome_send : IsSend outcome.the_row
outcome_send = search (sendable, crosses) depth 40 fits 10000

progress_send : IsSend progress.the_row
progress_send = declared_send progress.the_type ((search (sendable, crosses) depth 40 fits 20000), ((search (sendable, crosses) depth 40 fits 20000), ((search (stack_send, sendable, crosses) depth 40 fits 20000), ((search (stack_send, sendable, crosses) depth 40 fits 20000), ((search (stack_send, sendable, crosses) depth 40 fits 20000), ((search (sendable, crosses) depth 40 fits 20000), ((search (sendable, crosses) depth 40 fits 20000), ((search (sendable, crosses) depth 40 fits 20000), ((search (outcome_send, sendable, crosses) depth 40 fits 20000), ((search (outcome_send, sendable, crosses) depth 40 fits 20000), tt))))))))))

parts_send : IsSend parts.the_row
parts_send = view_send parts_inside.the_row _ _ _ _ (declared_send parts_inside.the_type ((search (program_send, sendable, crosses) depth 40 fits 20000), ((search (plan_send, sendable, crosses) depth 40 fits 20000), ((search (agenda_send, sendable, crosses) depth 40 fits 20000), ((search (sendable, crosses) depth 40 fits 20000), ((search (progress_send, sendable, crosses) depth 40 fits 20000), ((search (bus_send, sendable, crosses) depth 40 fits 20000), ((search (sendable, crosses) depth 40 fits 20000), tt))))))))

pub machine_send : IsSend machine.the_row
machine_send = search (parts_send, sendable, crosses) depth 40 fits 10000

due_send : IsSend due.the_row
due_send = declared_send due.the_type (search (sendable, crosses) depth 40 fits 10000, (host_action_send, tt))

waiting_send : IsSend (waiting.the_row due.the_row)
waiting_send = search (due_send, sendable, crosses) depth 40 fits 40000

occasions_send : IsSend occasions.the_row
occasions_send = search (sendable, crosses) depth 40 fits 20000

job_run_send : IsSend job_run.the_row
job_run_send = declared_send job_run.the_type (machine_send, (waiting_send, (occasions_send, (search (sendable, crosses) depth 40 fits 10000, tt))))

course_send : IsSend course.the_row
course_send = variants_send course.enum ((machine_send, tt), ((job_run_send, tt), tt))

program_sync : IsSync program.the_row
program_sync = search (sendable, crosses) depth 40 fits 10000

host_action_sync : IsSync host_action.the_row
host_action_sync = search (sendable, crosses) depth 40 fits 10000

sources_sync : IsSync sources.the_row
sources_sync = search (sendable, crosses) depth 40 fits 10000

row_sync : IsSync row.the_row
row_sync = search (sendable, crosses) depth 40 fits 10000

beside_sync : IsSync beside.the_row
beside_sync = view_sync beside_inside.the_row _ _ _ _ (declared_sync beside_inside.the_type ((search (sendable, crosses) depth 40 fits 20000), ((search (sendable, crosses) depth 40 fits 20000), ((search (sendable, crosses) depth 40 fits 20000), ((search (host_action_sync, sendable, crosses) depth 40 fits 20000), tt)))))

schedule_sync : IsSync schedule.the_row
schedule_sync = view_sync schedule_inside.the_row _ _ _ _ (declared_sync schedule_inside.the_type ((search (row_sync, sendable, crosses) depth 40 fits 20000), ((search (beside_sync, sendable, crosses) depth 40 fits 20000), ((search (row_sync, sendable, crosses) depth 40 fits 20000), ((search (sendable, crosses) depth 40 fits 20000), ((search (sendable, crosses) depth 40 fits 20000), ((search (sendable, crosses) depth 40 fits 20000), ((search (sources_sync, sendable, crosses) depth 40 fits 20000), tt))))))))

actions_sync : IsSync actions.the_row
actions_sync = search (schedule_sync, sendable, crosses) depth 40 fits 10000

plan_sync : IsSync plan.the_row
plan_sync = search (maps.crosses, sendable, crosses) depth 40 fits 10000

timed_action_sync : IsSync timed_action.the_row
timed_action_sync = declared_sync timed_action.the_type (search (sendable, crosses) depth 40 fits 10000, (host_action_sync, tt))

timed_fault_sync : IsSync timed_fault.the_row
timed_fault_sync = search (sendable, crosses) depth 40 fits 10000

timed_lines_sync : IsSync timed_lines.the_row
timed_lines_sync = search (timed_action_sync, timed_fault_sync, sendable, crosses) depth 40 fits 20000

pub job_sync : IsSync job.the_row
job_sync = search (program_sync, actions_sync, plan_sync, timed_lines_sync, sendable, crosses) depth 40 fits 20000

post_send : IsSend post.the_row
post_send = declared_send post.the_type (search (sendable, crosses) depth 40 fits 10000, (host_action_send, tt))

taker_send : IsSend (taker.the_row post.the_row)
taker_send = search (post_send, seat.the_send, sendable, crosses) depth 40 fits 10000

inbox_send : IsSend inbox.the_row
inbox_send = declared_send inbox.the_type (taker_send, (search (sendable, crosses) depth 40 fits 10000, tt))

posts_send : IsSend posts.the_row
posts_send = declared_send posts.the_type (inbox_send, (search (sendable, crosses) depth 40 fits 10000, (search (schedule_send, sendable, crosses) depth 40 fits 10000, tt)))

pub room_send : IsSend room.the_row
room_send = declared_send room.the_type (search (sendable, crosses) depth 40 fits 10000, (course_send, (search (sendable, crosses) depth 40 fits 10000, (posts_send, tt))))

posts_sync : IsSync (trunk.the_row post.the_row post_impl.ghosts)
posts_sync = search (post_send, crossing.the_sync, crossing.the_field_sync, sendable, crosses) depth 40 fits 10000

pub mailbox_sync : IsSync mailbox.the_row
mailbox_sync = declared_sync mailbox.the_type (posts_sync, (search (sendable, crosses) depth 40 fits 10000, (search (sendable, crosses) depth 40 fits 10000, tt)))

pub trunk_sync : IsSync (trunk.the_row entry.the_row ghosts)
trunk_sync = search (entry_send, crossing.the_sync, crossing.the_field_sync, sendable, crosses) depth 40 fits 10000

pub ticket_send : IsSend (ticket.the_row entry.the_row)
ticket_send = search (entry_send, seat.the_send, sendable, crosses) depth 40 fits 10000
