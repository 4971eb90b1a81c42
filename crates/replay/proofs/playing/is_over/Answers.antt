use Rattle.std.proofs.Common.{◌≡◌, ℕ, Bool, true, false, not, List, length, Option, Some, None, sym, ap, subst, inl, inr}
use Rattle.std.specs.Bool.{MatchBool}
use Rattle.std.specs.Option.{is_some}
use Rattle.std.specs.Iterator.{YieldsFirstBy}
use Rattle.ch11_f1.specs.declared.seen.Seen.{Seen}
use Rattle.ch11_f1.specs.BodyReading.{Message}
use Rattle.ch11_f1.specs.Views.{message_of}
use Rattle.job_file.specs.Jobs.{JobState, job_in}
use Rattle.bench_report.specs.Reports.{ChannelPart}
use Rattle.replay.specs.Accord.{played}
use Rattle.replay.specs.Playing.{IsOver, HasOneMore}
use Rattle.replay.proofs.playing.is_over.Goals as goal

pub returns-in-Some : goal.returns-in-Some
returns-in-Some c = inl (c.in-Some.field-0, c.in-Some.ensures.record (job_in c.args.job.now) c.args.part.now.placed c.program-sound.ensures.sound c.requires.of_job)

ends : (job : JobState) (part : ChannelPart) (n : ℕ) (hs rest : List Message) (r : Option Seen) → n ≡ length (played job part)
    → YieldsFirstBy {S = List Message} message_of (λ s. s) hs r rest → MatchBool (not (is_some r)) (IsOver job part n hs) (HasOneMore job part n hs)
ends job part n hs rest None all yields = (all, yields.0)
ends job part n hs rest (Some x) all yields = inr (all, (message_of x, rest, yields))

turned : (a b : Bool) → not a ≡ b → a ≡ not b
turned true b e = ap not e
turned false b e = ap not e

pub returns-in-None : goal.returns-in-None
returns-in-None c =
    subst (λ b. MatchBool b (IsOver c.args.job.now c.args.part.now c.args.machine.now.point.number c.args.heard.now) (HasOneMore c.args.job.now c.args.part.now c.args.machine.now.point.number c.args.heard.now)) (sym (turned c.is_none.result (is_some c.next.result) (sym c.is_none.ensures)))
    (ends c.args.job.now c.args.part.now c.args.machine.now.point.number c.args.heard.now c.next.new.self c.next.result
    (c.in-None.ensures.all (job_in c.args.job.now) c.args.part.now.placed c.program-sound.ensures.sound c.requires.of_job) c.next.ensures.steps)
