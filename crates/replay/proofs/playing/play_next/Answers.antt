use Rattle.std.proofs.Common.{◌≡◌, false, List, [], Option, Some, None, ◌∙◌, inl, inr, rules}
use Rattle.std.specs.Bool.{IsTrue}
use Rattle.std.specs.Iterator.{YieldsFirstBy}
use Rattle.ch11_f1.specs.declared.seen.Seen.{Seen}
use Rattle.ch11_f1.specs.BodyReading.{Message}
use Rattle.ch11_f1.specs.Views.{message_of}
use Rattle.job_file.specs.Jobs.{job_in}
use Rattle.replay.proofs.PlayingNext.{passed, kept, another, missing}
use Rattle.replay.proofs.playing.play_next.Goals as goal

pub returns-in_default : goal.returns-in_default
returns-in_default c = inl (c.in_default.ensures.all (job_in c.args.job.now) c.args.part.now.placed c.program-sound.ensures.sound c.requires.of_job)

pub returns-then-is_refused : goal.returns-then-is_refused
returns-then-is_refused c =
    passed c.args.job.now c.args.part.now c.args.machine.now.point.number c.in-Some.made
    (c.in-Some.ensures.record (job_in c.args.job.now) c.args.part.now.placed c.program-sound.ensures.sound c.requires.of_job)
    c.number.result c.is_refused.result c.is_refused.ensures (c.number.ensures.value ∙ c.in-Some.ensures.number)
    c.next_record.new.machine c.args.heard.now
    (c.in-Some.ensures.of_job (job_in c.args.job.now) c.args.part.now.placed c.requires.of_job) c.in-Some.ensures.number (c.in-Some.ensures.told c.requires.told)
    c.if-is_refused.true

pub returns-in-Some-next : goal.returns-in-Some-next
returns-in-Some-next c =
    kept c.args.job.now c.args.part.now c.args.machine.now.point.number c.in-Some.made
    (c.in-Some.ensures.record (job_in c.args.job.now) c.args.part.now.placed c.program-sound.ensures.sound c.requires.of_job)
    c.number.result c.is_refused.result c.is_refused.ensures (c.number.ensures.value ∙ c.in-Some.ensures.number)
    c.next_record.new.machine c.args.heard.now c.next.new.self (message_of c.in-Some-next.seen)
    (c.in-Some.ensures.of_job (job_in c.args.job.now) c.args.part.now.placed c.requires.of_job) c.in-Some.ensures.number (c.in-Some.ensures.told c.requires.told)
    c.if-is_refused.false c.in-Some-next.ensures.steps (c.if-is_record.ensures.0 (search rules))

pub returns-in_default-next : goal.returns-in_default-next
returns-in_default-next c =
    inr (another c.args.job.now c.args.part.now c.args.machine.now.point.number c.in-Some.made
    (c.in-Some.ensures.record (job_in c.args.job.now) c.args.part.now.placed c.program-sound.ensures.sound c.requires.of_job)
    c.number.result c.is_refused.result c.is_refused.ensures (c.number.ensures.value ∙ c.in-Some.ensures.number)
    c.args.heard.now c.next.new.self (message_of c.in-Some-next.seen) c.if-is_refused.false c.in-Some-next.ensures.steps
    (λ same. absurd (let wrong : IsTrue false = c.if-is_record.ensures.1 same in search rules)))

none : (hs rest : List Message) (r : Option Seen) → YieldsFirstBy {S = List Message} message_of (λ s. s) hs r rest → r ≡ None → hs ≡ []
none hs rest None yields is = yields.0
none hs rest (Some x) yields is = absurd cc

pub returns-in_default-next-2 : goal.returns-in_default-next-2
returns-in_default-next-2 c =
    inr (missing c.args.job.now c.args.part.now c.args.machine.now.point.number c.in-Some.made
    (c.in-Some.ensures.record (job_in c.args.job.now) c.args.part.now.placed c.program-sound.ensures.sound c.requires.of_job)
    c.number.result c.is_refused.result c.is_refused.ensures (c.number.ensures.value ∙ c.in-Some.ensures.number)
    c.args.heard.now c.if-is_refused.false (none c.args.heard.now c.next.new.self c.next.result c.next.ensures.steps c.in_default-next.is))
