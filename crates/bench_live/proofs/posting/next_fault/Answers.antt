use Rattle.std.proofs.Common.{arith, ◌<◌, length}
use Rattle.bench_live.proofs.Gone.{begins, line_bytes, still_on, ends, tells}
use Rattle.bench_live.proofs.posting.next_fault.Goals as goal

pub lines-init : goal.lines-init
lines-init g c = record { again = (tt, tt); hands = c.requires.hands; counted = begins c.args.desk.now c.args.number.now _ _ (omega (arith, c.number_fits.ensures)) }

pub returns-then-branch-eq0-clause-done : goal.returns-then-branch-eq0-clause-done
returns-then-branch-eq0-clause-done g c =
    ends c.args.desk.now _ _ _ _ _ _ _ c.lines.invariant.counted (c.in_ok-read_until.ensures.end c.if-branch-eq0.true) c.in_ok-read_until.ensures.rest

pub returns-in-Err-clause-done : goal.returns-in-Err-clause-done
returns-in-Err-clause-done g c =
    let some : 0 < length c.deref.result.now = omega (arith, c.deref.ensures.len, c.in_ok-read_until.ensures.ok, c.clear.ensures.len, c.if-branch-eq0.false) in
    let gave = line_bytes _ _ _ c.deref.result.now c.clear.ensures.items c.deref.ensures.value c.in_ok-read_until.ensures.bytes in
    tells c.args.desk.now _ _ _ _ _ _ c.without_end.result.now c.deref.result.now c.in-Err.fault _ _ _ c.lines.invariant.counted c.saturating_add.ensures some c.without_end.ensures gave
    c.in_ok-read_until.ensures.rest c.in-Err.ensures.done

pub lines-preserved : goal.lines-preserved
lines-preserved g c =
    let some : 0 < length c.deref.result.now = omega (arith, c.deref.ensures.len, c.in_ok-read_until.ensures.ok, c.clear.ensures.len, c.if-branch-eq0.false) in
    let gave = line_bytes _ _ _ c.deref.result.now c.clear.ensures.items c.deref.ensures.value c.in_ok-read_until.ensures.bytes in
    record {
      again = (tt, tt);
      hands = c.post_line.ensures.hands;
      counted = still_on c.args.desk.now _ _ _ _ _ _ c.without_end.result.now c.deref.result.now _ _ _ _ c.lines.invariant.counted c.saturating_add.ensures some c.without_end.ensures gave
          c.in_ok-read_until.ensures.rest c.in_default.ensures.done;
    }
