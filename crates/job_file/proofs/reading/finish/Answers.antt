use Rattle.std.proofs.Common.{ap}
use Rattle.std.specs.Option.{option_to_list}
use Rattle.std.proofs.lemmas.Result.{err_from_is_err_and}
use Rattle.frame_tree.specs.Tree.{tree_of}
use Rattle.job_file.specs.HeadLines.{is_none_yet}
use Rattle.job_file.specs.Drafts.{shown}
use Rattle.job_file.proofs.Finishing.{code_refused, program_made, complete_job, complete_refused, complete_first, complete_well, script_at_fault}
use Rattle.job_file.proofs.reading.finish.Goals as goal

pub returns-in_err-program-clause-refused : goal.returns-in_err-program-clause-refused
returns-in_err-program-clause-refused c =
    let p = err_from_is_err_and c.from_residual-in_err-program.result c.from_residual-in_err-program.ensures.1 in
    rw (p.1, p.2) (code_refused c.args.draft c.in-Some.channel c.args.script.now (tree_of c.in_ok-frame.frame) c.in_err-program.field-0.0 c.in-Some.is c.in_ok-frame.ensures.tree c.in_err-program.ensures.refused)

pub returns-in_err-frame-clause-first : goal.returns-in_err-frame-clause-first
returns-in_err-frame-clause-first c =
    let p = err_from_is_err_and c.from_residual.result c.from_residual.ensures.1 in
    let named = ap (λ o. is_none_yet (option_to_list o)) c.in-Some.is in
    rw (p.1, p.2) (script_at_fault (shown c.args.draft) c.args.line c.args.script.now c.in_err-frame.field-0.0 named c.in_err-frame.ensures.refused c.in_err-frame.ensures.place)

pub complete-requires-clause-program : goal.complete-requires-clause-program
complete-requires-clause-program c =
    program_made c.args.script.now (tree_of c.in_ok-frame.frame) c.in_ok-program.program c.in_ok-frame.ensures.tree c.in_ok-frame.ensures.sound c.in_ok-program.ensures.program

pub returns-clause-job : goal.returns-clause-job
returns-clause-job c =
    complete_job c.args.draft c.in-Some.channel c.args.script.now (tree_of c.in_ok-frame.frame) c.complete.result c.in-Some.is c.in_ok-frame.ensures.tree c.complete.ensures.job

pub returns-clause-refused : goal.returns-clause-refused
returns-clause-refused c =
    complete_refused c.args.draft c.in-Some.channel c.args.line c.args.script.now (tree_of c.in_ok-frame.frame) c.in_ok-program.program c.in-Some.is c.in_ok-frame.ensures.tree
    c.in_ok-program.ensures.program c.complete.result c.complete.ensures.many

pub returns-clause-first : goal.returns-clause-first
returns-clause-first c =
    complete_first c.args.draft c.in-Some.channel c.args.line c.args.script.now (tree_of c.in_ok-frame.frame) c.in_ok-program.program c.in-Some.is c.in_ok-frame.ensures.tree
    c.in_ok-program.ensures.program c.complete.result c.in_ok-program.ensures.well c.complete.ensures.many

pub returns-clause-well : goal.returns-clause-well
returns-clause-well c =
    complete_well c.args.draft c.in-Some.channel c.args.line c.args.script.now (tree_of c.in_ok-frame.frame) c.in_ok-program.program c.in-Some.is c.in_ok-frame.ensures.tree
    c.in_ok-program.ensures.program c.complete.result c.in_ok-program.ensures.well c.complete.ensures.few
