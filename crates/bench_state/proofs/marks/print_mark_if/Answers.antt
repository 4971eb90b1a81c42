use Rattle.bench_state.specs.Marks.{mark_text}
use Rattle.bench_state.proofs.Listing.{part_appends}
use Rattle.bench_state.proofs.marks.print_mark_if.Goals as goal

pub returns-clause-text : goal.returns-clause-text
returns-clause-text g c =
    rw c.if-not-on.false (part_appends (g.W.Write.contents c.args.out.now) (g.W.Write.contents c.print_lead.new.out) (g.W.Write.contents c.write.new.self) c.args.begun c.args.address (mark_text c.args.mark) c.in_ok-print_lead.ensures c.in_ok-write.ensures.bytes)
