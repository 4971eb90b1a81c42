use Rattle.std.proofs.Common.{List, drop, subst, sym, take}
use Rattle.bench_export.specs.Merging.{IsCut}
use Rattle.bench_export.specs.declared.changes.Change.{Change}
use Rattle.bench_export.proofs.Waiting.{cut_at}
use Rattle.bench_export.proofs.merging.write_due.Goals as goal

pub returns : goal.returns
returns g c =
    let sorted = c.put_in_order.new.changes.items in
    let place = c.due_of-due.result in
    let early = rw c.deref.ensures.value at c.due_of-due.ensures.early in (
      take place sorted,
      subst (λ (l : List Change). IsCut c.args.lag c.args.waiting.now.items (take place sorted) l) (sym c.in_ok-rest.ensures.tail)
          (cut_at c.args.lag place c.args.waiting.now.items sorted c.in_ok-put_in_order.ensures early),
      rw (c.deref-2.ensures.value, c.in_ok-rest.ensures.items) at c.in_ok-last.ensures.last,
      rw (c.deref-2.ensures.value, c.in_ok-rest.ensures.items) at c.in_ok-last.ensures.shown,
      rw (c.deref-2.ensures.value, c.in_ok-rest.ensures.items) at c.in_ok-last.ensures.written,
    )
