use Rattle.std.proofs.Common.{rules}
use Rattle.std.proofs.lemmas.List.{drop_all}
use Rattle.bench_one.specs.Lines.{lines_of}
use Rattle.bench_one.proofs.Shown.{appends_none, shown_step}
use Rattle.bench_one.proofs.print.print_bytes.Goals as goal

pub loop-place-init : goal.loop-place-init
unfolding lines_of
loop-place-init g c = λ end more. more

pub loop-place-preserved : goal.loop-place-preserved
loop-place-preserved g c = λ end more.
    c.loop-place.invariant end (shown_step _ _ end c.args.bytes.now _ c.loop-place.place c.loop-place-test.true (search rules) c.in_ok-write_all.ensures.bytes more)

pub returns : goal.returns
returns g c = record { written = c.loop-place.invariant _ (rw (drop_all c.loop-place.place c.args.bytes.now c.loop-place-test.false) (appends_none _)) }
