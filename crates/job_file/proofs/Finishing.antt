-- The job of a draft and a script.
use Rattle.std.proofs.Common.{◌≡◌, ℕ, ◌+◌, ◌≤◌, List, [], ◌∷◌, refl, sym, ap, subst, ◌∙◌}
use Rattle.std.specs.Prelude.{false, Option, Some, Result, Ok, Err, IfOk, IfErr}
use Rattle.std.specs.Option.{option_to_list}
use Rattle.text_lines.specs.Words.{Text}
use Rattle.frame_tree.specs.Tree.{Tree}
use Rattle.frame_tree.specs.Bounds.{IsSound}
use Rattle.frame_text.specs.Frames.{tree_of_text}
use Rattle.frame_code.specs.Table.{Code}
use Rattle.frame_asm.specs.Shapes.{code_of_tree}
use Rattle.job_file.specs.Options.{◌>>=◌}
use Rattle.job_file.specs.HeadLines.{Head, is_none_yet}
use Rattle.job_file.specs.Drafts.{shown}
use Rattle.job_file.specs.Spelled.{ChannelJob, Written, job_with, written_with, written_of, written, job_meant, first_of, spelled}
use Rattle.job_file.specs.Timed.{resolved}
use Rattle.job_file.specs.Scripts.{tree_or_nothing, tree_spelled, IsProgramOf}
use Rattle.job_file.specs.Reading.{IsCodeRefusal, IsScriptRefusal, IsJobRefusal, HasProgram, AreTooMany, all_inserts}
use Rattle.job_file.specs.Faults.{IsJobHead, IsFirstFault, IsInsertsRefusal, IsScriptRefused, IsPlacedBelow}
use Rattle.frame_load.specs.Budget.{worst_messages}
use Rattle.job_file.specs.Jobs.{JobState, job_in}
use Rattle.job_file.specs.Texts.{HasAccepted, IsAccepted}
use Rattle.job_file.specs.declared.drafts.Draft.{Draft}
use Rattle.job_file.specs.declared.error.JobError.{JobError}
use Rattle.job_file.specs.declared.error.JobError.TheVariants as error
use Rattle.job_file.proofs.FirstFaults.{script_refused}

written_is : (d : Draft) (channel : ℕ) (text : Text) (tree : Tree) → d.channel ≡ Some channel → tree_of_text text ≡ Ok tree
    → written_of (shown d) text ≡ Some (written_with channel (shown d) tree)
written_is d channel text tree named read = rw (named, read) refl

refused : (o : Option Written) (w : Written) (e : JobError) → o ≡ Some w → IsCodeRefusal (code_of_tree w.job.tree) e → IsJobRefusal o e
refused o w (error.Line line why) is r = absurd r
refused o w (error.Script cause place) is r = absurd r
refused o w (error.Assembly line why) is r = (w, is, r)
refused o w (error.Loading line why) is r = (w, is, r)
refused o w (error.Inserts line) is r = absurd r
refused o w error.Memory is r = tt

-- a script without a program
pub code_refused : (d : Draft) (channel : ℕ) (text : Text) (tree : Tree) (e : JobError) → d.channel ≡ Some channel → tree_of_text text ≡ Ok tree
    → IsCodeRefusal (code_of_tree tree) e → IsJobRefusal (written_of (shown d) text) e
code_refused d channel text tree e named read r = refused _ (written_with channel (shown d) tree) e (written_is d channel text tree named read) r

module _ (d : Draft) (channel line : ℕ) (text : Text) (tree : Tree) (code : Code) (named : d.channel ≡ Some channel) (read : tree_of_text text ≡ Ok tree)
    (same : code ≡ code_of_tree tree) where
  -- a script that sends too many messages with those that are inserted
  inserts_refused : (e : JobError) → IsInsertsRefusal line (shown d) code e → IsJobRefusal (written_of (shown d) text) e
  inserts_refused (error.Line n why) r = absurd r
  inserts_refused (error.Script cause place) r = absurd r
  inserts_refused (error.Assembly n why) r = absurd r
  inserts_refused (error.Loading n why) r = absurd r
  inserts_refused (error.Inserts n) r =
      (written_with channel (shown d) tree, written_is d channel text tree named read, subst (λ (c : Code). AreTooMany d.actions d.timed.whens c) same r.1)
  inserts_refused error.Memory r = tt

  inserts_at_fault : (e : JobError) → HasProgram (code_of_tree tree) → IsInsertsRefusal line (shown d) code e → IsScriptRefused (shown d) line text e
  inserts_at_fault (error.Line n why) well r = absurd r
  inserts_at_fault (error.Script cause place) well r = absurd r
  inserts_at_fault (error.Assembly n why) well r = absurd r
  inserts_at_fault (error.Loading n why) well r = absurd r
  inserts_at_fault (error.Inserts n) well r = (
    ap (λ o. is_none_yet (option_to_list o)) named,
    r.0,
    record { tree = tree; spells = read; well = well; many = subst (λ (c : Code). AreTooMany d.actions d.timed.whens c) same r.1 },
  )
  inserts_at_fault error.Memory well r = ap (λ o. is_none_yet (option_to_list o)) named

  pub complete_refused : (r : Result JobState JobError) → IfErr r (IsInsertsRefusal line (shown d) code) → IfErr r (IsJobRefusal (written_of (shown d) text))
  complete_refused (Ok j) many = tt
  complete_refused (Err e) many = inserts_refused e many

  pub complete_first : (r : Result JobState JobError) → HasProgram (code_of_tree tree) → IfErr r (IsInsertsRefusal line (shown d) code)
      → IfErr r (IsScriptRefused (shown d) line text)
  complete_first (Ok j) well many = tt
  complete_first (Err e) well many = inserts_at_fault e well many

  pub complete_well : (r : Result JobState JobError) → HasProgram (code_of_tree tree)
      → IfOk r (λ _. all_inserts d.actions d.timed.whens + worst_messages code.operations ≤ 1000000) → IfOk r (λ _. HasAccepted (written_of (shown d) text))
  complete_well (Ok j) well few = record {
    says = written_with channel (shown d) tree;
    reads = written_is d channel text tree named read;
    operations = well.operations;
    messages = well.messages;
    within = well.within;
    short = well.short;
    few = subst (λ (c : Code). all_inserts d.actions d.timed.whens + worst_messages c.operations ≤ 1000000) same few;
  }
  complete_well (Err e) well few = tt

-- the tree of a text that has one
spelled_is : (text : Text) (tree : Tree) → tree_of_text text ≡ Ok tree → tree_spelled text ≡ tree
unfolding tree_spelled
spelled_is text tree read = ap tree_or_nothing read

-- the code of that tree is the program of the text
pub program_made : (text : Text) (tree : Tree) (program : Code) → tree_of_text text ≡ Ok tree → IsSound tree → program ≡ code_of_tree tree → IsProgramOf text program
program_made text tree program read sound is =
    let e : tree ≡ tree_spelled text = sym (spelled_is text tree read) in
    record { spells = read ∙ ap Ok e; sound = subst IsSound e sound; program_is = is ∙ ap code_of_tree e }

-- and the job is that of the draft and the text
pub complete_job : (d : Draft) (channel : ℕ) (text : Text) (tree : Tree) (r : Result JobState JobError) → d.channel ≡ Some channel → tree_of_text text ≡ Ok tree
    → IfOk r (λ j. job_in j ≡ resolved (job_with channel (shown d) (tree_spelled text)) d.timed) → IfOk r (λ j. job_meant (written_of (shown d) text) ≡ Some (job_in j))
complete_job d channel text tree (Ok j) named read is =
    let same : tree ≡ tree_spelled text = sym (spelled_is text tree read) in
    ap job_meant (written_is d channel text (tree_spelled text) named (read ∙ ap Ok same)) ∙ ap Some (sym is)
complete_job d channel text tree (Err e) named read is = tt

-- what is written is what a text spells
spelled_as : (text : Text) (o : Option Written) → written text ≡ o → spelled text ≡ job_meant o
unfolding spelled
spelled_as text o read = ap job_meant read

pub spelled_job : (text : Text) (o : Option Written) (r : Result JobState JobError) → written text ≡ o → IfOk r (λ j. job_meant o ≡ Some (job_in j))
    → IfOk r (λ j. spelled text ≡ Some (job_in j))
spelled_job text o (Ok j) read is = spelled_as text o read ∙ is
spelled_job text o (Err e) read is = tt

-- a text that gives a job
pub accepted : (text : Text) (o : Option Written) (r : Result JobState JobError) → written text ≡ o → IfOk r (λ j. job_meant o ≡ Some (job_in j)) → IfOk r (λ _. HasAccepted o)
    → IfOk r (λ _. IsAccepted text)
accepted text o (Ok j) read is well = record {
  job = job_in j;
  spells = spelled_as text o read ∙ is;
  well = subst HasAccepted (sym read) well;
}
accepted text o (Err e) read is well = tt

named : (channels : List ℕ) (next : ℕ → Option Written) (y : ChannelJob) → job_meant (first_of channels >>= next) ≡ Some y → is_none_yet channels ≡ false
named [] next y e = absurd (cc)
named (n ∷ ns) next y e = refl

-- and may want memory at its script at the latest
pub room_wanted : (text : Text) (head : Head) (n : ℕ) (behind : Text) (r : Result JobState JobError) → IsJobHead text head n behind → IfOk r (λ j. job_meant (written_of head behind) ≡ Some (job_in j))
    → IfOk r (λ _. IsFirstFault text error.Memory)
room_wanted text head n behind (Ok j) h is = script_refused text head n behind error.Memory h (named head.channels _ (job_in j) is)
room_wanted text head n behind (Err e) h is = tt

-- a script that is refused below a head that names the channel
pub script_at_fault : (head : Head) (line : ℕ) (below : Text) (e : JobError) → is_none_yet head.channels ≡ false → IsScriptRefusal (tree_of_text below) e → IsPlacedBelow line below e
    → IsScriptRefused head line below e
script_at_fault head line below (error.Line n why) named r p = absurd r
script_at_fault head line below (error.Script cause place) named r p = (named, r, p)
script_at_fault head line below (error.Assembly n why) named r p = absurd r
script_at_fault head line below (error.Loading n why) named r p = absurd r
script_at_fault head line below (error.Inserts n) named r p = absurd r
script_at_fault head line below error.Memory named r p = named
