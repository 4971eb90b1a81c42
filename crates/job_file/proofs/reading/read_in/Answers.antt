use Rattle.job_file.specs.Drafts.{shown}
use Rattle.job_file.specs.Spelled.{written_of}
use Rattle.job_file.proofs.FirstFaults.{first_fault}
use Rattle.job_file.proofs.Finishing.{accepted, room_wanted, spelled_job}
use Rattle.job_file.proofs.reading.read_in.Goals as goal

pub returns-clause-job : goal.returns-clause-job
returns-clause-job c =
    let h = c.in_ok-draft.field-0 in
    spelled_job c.args.text.now (written_of (shown h.draft) h.script.now) c.finish.result c.in_ok-draft.ensures.read c.finish.ensures.job

pub returns-clause-first : goal.returns-clause-first
returns-clause-first c =
    let h = c.in_ok-draft.field-0 in
    first_fault c.args.text.now (shown h.draft) h.line h.script.now c.finish.result c.in_ok-draft.ensures.head c.finish.ensures.first

pub returns-clause-accepted : goal.returns-clause-accepted
returns-clause-accepted c =
    let h = c.in_ok-draft.field-0 in
    accepted c.args.text.now (written_of (shown h.draft) h.script.now) c.finish.result c.in_ok-draft.ensures.read c.finish.ensures.job c.finish.ensures.well

pub returns-clause-room : goal.returns-clause-room
returns-clause-room c =
    let h = c.in_ok-draft.field-0 in
    room_wanted c.args.text.now (shown h.draft) h.line h.script.now c.finish.result c.in_ok-draft.ensures.head c.finish.ensures.job
