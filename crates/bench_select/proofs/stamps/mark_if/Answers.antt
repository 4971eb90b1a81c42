use Rattle.std.proofs.Common.{◌≡◌, length, vec_len, rules, arith}
use Rattle.bench_select.proofs.Stamping.{is_marked, not_marked}
use Rattle.bench_select.proofs.stamps.mark_if.Goals as goal

pub returns-then-not-unknown : goal.returns-then-not-unknown
returns-then-not-unknown c = rw c.if-not-unknown.true (not_marked c.args.channel c.args.marks.now.items)

pub returns : goal.returns
returns c =
    let made = c.make_mark.new.marks in
    let all : length made.items ≡ vec_len made = search rules in
    is_marked c.args.channel c.args.unknown c.args.marks.now.items made.items _ (omega (arith, all, c.in_ok-make_mark.ensures.place)) c.make_mark.ensures.same c.put_mark.ensures
