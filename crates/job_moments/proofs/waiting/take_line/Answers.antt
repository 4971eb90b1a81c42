use Rattle.std.proofs.Common.{subst}
use Rattle.job_moments.specs.Awaiting.{IsFirstAt}
use Rattle.job_moments.proofs.Taking.{picked_one}
use Rattle.job_moments.proofs.waiting.take_line.Goals as goal

pub returns-in-Some : goal.returns-in-Some
returns-in-Some g c = picked_one c.args.counts.now.made c.args.next.now c.args.lines.now.items c.remove.new.self.items
    c.in-Some.place c.remove.result
    (subst (λ lines. IsFirstAt c.args.counts.now.made c.args.next.now lines c.in-Some.place) c.deref.ensures.value c.in-Some.ensures) c.remove.ensures.value c.remove.ensures.items
