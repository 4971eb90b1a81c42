use Rattle.std.proofs.Common.{◌≡◌, length, vec_len, rules, arith}
use Rattle.bench_select.proofs.Stamping.{has_begun, not_begun}
use Rattle.bench_select.proofs.stamps.begin_at.Goals as goal

pub returns-in-None : goal.returns-in-None
returns-in-None c = rw c.in-None.is (not_begun c.args.channel c.args.origins.now.items)

pub returns-in_ok-make_origin-in-Some : goal.returns-in_ok-make_origin-in-Some
returns-in_ok-make_origin-in-Some c =
    let made = c.make_origin.new.origins in
    let all : length made.items ≡ vec_len made = search rules in
    has_begun c.args.channel c.args.ticks c.args.origins.now.items made.items _ (omega (arith, all, c.in_ok-make_origin-in-Some.ensures.place)) c.make_origin.ensures.same c.put_origin.ensures
