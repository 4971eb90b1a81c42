use Rattle.std.proofs.Common.{◌≡◌, ap, subst, ◌∙◌}
use Rattle.std.specs.Prelude.{Ok, Err}
use Rattle.std.proofs.lemmas.Result.{IfOk-weaker}
use Rattle.frame_tree.specs.Tree.{tree_of}
use Rattle.frame_text.specs.Reading.{RefusesScript}
use Rattle.frame_text.specs.Frames.{tree_of_text}
use Rattle.bench_check.specs.Fitting.{tight_frames}
use Rattle.bench_check.proofs.Heads.{tree_of_script, no_script}
use Rattle.bench_check.proofs.scripts.tight_frames_in.Goals as goal

pub returns-in_default : goal.returns-in_default
returns-in_default c = λ job e. absurd (no_script c.args.text.now job c.in_default.ensures e)

pub returns-in-Ok : goal.returns-in-Ok
returns-in-Ok c =
    IfOk-weaker c.tight_frames.result _ _ (λ l h job e.
    let read : tree_of_text c.in-Some.script.now ≡ Ok (tree_of c.in-Ok.frame) = c.in-Ok.ensures.tree in
    let due : tree_of_text c.in-Some.script.now ≡ Ok job.tree = tree_of_script c.args.text.now c.in-Some.script.now job c.in-Some.ensures e in
    let same : tree_of c.in-Ok.frame ≡ job.tree = cc in
    h ∙ ap tight_frames same) c.tight_frames.ensures

pub returns-in-Err-Text : goal.returns-in-Err-Text
returns-in-Err-Text c = λ job e.
    let read : tree_of_text c.in-Some.script.now ≡ Err c.in-Err-Text.field-0-0 =
    subst (λ why. RefusesScript why (tree_of_text c.in-Some.script.now)) c.in-Err-Text.field-0-is c.in-Err-Text.ensures.tree in
    let due : tree_of_text c.in-Some.script.now ≡ Ok job.tree = tree_of_script c.args.text.now c.in-Some.script.now job c.in-Some.ensures e in
    absurd (cc)
