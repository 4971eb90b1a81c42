-- What lines take memory for.
use Rattle.std.proofs.Common.{Result, Ok, Err, inr, refl}
use Rattle.frame_tree.specs.Tree.{Condition}
use Rattle.frame_text.specs.declared.faults.Cause.{Cause}
use Rattle.replay.specs.declared.error.ReplayError.TheVariants as error
use Rattle.replay.specs.Moves.{ReplayState}
use Rattle.judge_rules.specs.Faults.{Read}
use Rattle.judge_rules.specs.declared.rules.Selector.{Selector}
use Rattle.bench_step.specs.Commands.{Asked, forward, back, go, go_time, seek, find, find_back, select, select_back, state, show, show_at, help, quit, no_condition, unknown, finding, condition_asked, selecting, selects, TakesMemory}
use Rattle.bench_step.specs.Session.{Replies}
use Rattle.bench_step.specs.declared.commands.Way.{Way}
use Rattle.bench_step.specs.declared.commands.Way.TheVariants.{On, Back}
use Rattle.bench_step.specs.declared.replies.Reply.TheVariants as reply

selecting_takes : (way : Way) (read : Read Selector) → TakesMemory (selecting (selects way) read)
selecting_takes On (Ok selector) = tt
selecting_takes On (Err fault) = tt
selecting_takes Back (Ok selector) = tt
selecting_takes Back (Err fault) = tt

pub finding_takes : (way : Way) (read : Result Condition Cause) (other : Read Selector) → TakesMemory (finding (condition_asked way) (selects way) read other)
finding_takes On (Ok test) other = tt
finding_takes On (Err cause) other = selecting_takes On other
finding_takes Back (Ok test) other = tt
finding_takes Back (Err cause) other = selecting_takes Back other

pub refused_memory : (s : ReplayState) (a : Asked) → TakesMemory a → Replies s a (reply.Refused error.Memory)
refused_memory s (forward n) never = absurd never
refused_memory s (back n) never = absurd never
refused_memory s (go n) never = absurd never
refused_memory s (go_time ticks) never = absurd never
refused_memory s (seek sought n) never = absurd never
refused_memory s (find test) taken = inr refl
refused_memory s (find_back test) taken = inr refl
refused_memory s (select selector) taken = inr refl
refused_memory s (select_back selector) taken = inr refl
refused_memory s (state detail) never = absurd never
refused_memory s show never = absurd never
refused_memory s (show_at n) never = absurd never
refused_memory s help never = absurd never
refused_memory s quit never = absurd never
refused_memory s no_condition taken = refl
refused_memory s unknown never = absurd never
