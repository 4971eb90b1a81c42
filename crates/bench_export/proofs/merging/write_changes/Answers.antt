use Rattle.std.proofs.Common.{◌++◌, List, drop, get_or, refl, sym, ap, ◌∙◌, arith}
use Rattle.std.proofs.lemmas.List.{drop_all, take_more}
use Rattle.bench_export.specs.Merging.{last_tick}
use Rattle.bench_export.specs.declared.changes.Change.{Change}
use Rattle.bench_export.proofs.Dumping.{begins, ends, goes_on, shown_all, split_at, no_change}
use Rattle.bench_export.proofs.Putting.{whole_rest}
use Rattle.bench_export.proofs.merging.write_changes.Goals as goal

pub changes-init : goal.changes-init
changes-init g c = record { writing = λ cs shown. begins _ c.args.told _ cs c.args.changes.now shown; last = refl }

pub changes-preserved : goal.changes-preserved
changes-preserved g c =
    let i = c.changes.change-index in
    let split = split_at c.args.changes.now i no_change c.changes-test.true in
    record {
      writing = λ cs shown.
          goes_on _ _ _ _ c.changes.last i c.changes.lines.shown.items _ cs c.args.changes.now (get_or c.args.changes.now i no_change) split (take_more c.args.changes.now i no_change c.changes-test.true)
          (c.changes.invariant.writing cs shown)
          (rw (whole_rest c.put_change-start.new.room c.put_change-start.result 346 c.put_change-start.ensures.long, c.put_change-start.ensures.put, c.of.ensures, c.wire.ensures.on_b, c.wire.ensures.channel) at c.in_ok-write_all.ensures.bytes) c.in_ok-note.ensures;
      last = ap (λ (l : List Change). last_tick c.changes.last l) (sym split) ∙ c.changes.invariant.last;
    }

pub returns-clause-written : goal.returns-clause-written
returns-clause-written g c cs shown = ends _ _ c.args.told c.changes.last c.changes.change-index _ cs c.args.changes.now (omega (arith, c.changes-test.false)) (c.changes.invariant.writing cs shown)

pub returns-clause-shown : goal.returns-clause-shown
returns-clause-shown g c cs shown = shown_all _ _ c.args.told c.changes.last c.changes.change-index _ cs c.args.changes.now (omega (arith, c.changes-test.false)) (c.changes.invariant.writing cs shown)

pub returns-clause-last : goal.returns-clause-last
returns-clause-last g c =
    ap (λ (l : List Change). last_tick c.changes.last l) (sym (drop_all c.changes.change-index c.args.changes.now (omega (arith, c.changes-test.false))))
    ∙ c.changes.invariant.last
