use Rattle.std.proofs.Common.{◌≡◌, true, sym, ◌∙◌, arith}
use Rattle.std.proofs.lemmas.Grind.{common_steps}
use Rattle.job_moments.specs.Groups.{lines_inside}
use Rattle.job_moments.specs.Rules.{occasion_of}
use Rattle.job_moments.proofs.Chunking.{quiet_lines}
use Rattle.job_moments.proofs.Planned.{due_none}
use Rattle.job_moments.proofs.planning.add_group.Goals as goal

pub returns-else-not-has : goal.returns-else-not-has
returns-else-not-has c = λ before is.
    let group = c.args.group.now in
    let made = c.args.counts.now.made in
    let next = c.args.next.now in
    let yes : c.has.result ≡ true = grind (arith, common_steps, c.if-not-has.false) in
    is ∙ sym (due_none made next before (lines_inside group)
    (quiet_lines occasion_of group.quiet made next (lines_inside group) c.requires.known.sleeps (c.has.ensures made c.number.ensures yes)))
