use Rattle.std.proofs.Common.{◌≡◌, ◌++◌, length, refl, arith}
use Rattle.bench_reproduce.proofs.Inside.{ends_inside, inside_on, inside_one, one_behind}
use Rattle.bench_reproduce.proofs.hearing.Heard.put.Goals as goal

pub invariant_of-self-in_err-push : goal.invariant_of-self-in_err-push
invariant_of-self-in_err-push c =
    rw (c.in_err-push.ensures.items, c.in_ok-extend_from_slice.ensures.items) (inside_on c.self.inside.words.items c.args.met.now.seen.words.now c.self.inside.heads.items c.self.invariant)

pub invariant_of-self-2 : goal.invariant_of-self-2
invariant_of-self-2 c =
    let s = c.self.inside in
    let m = c.args.met.now in
    let begins : c.len.result ≡ length s.words.items = omega (arith, c.len.ensures) in
    rw (c.in_ok-push.ensures.items, c.in_ok-extend_from_slice.ensures.items) (inside_one (s.words.items ++ m.seen.words.now) s.heads.items c.in_ok-head.head
    (inside_on s.words.items m.seen.words.now s.heads.items c.self.invariant)
    (ends_inside s.words.items m.seen.words.now s.heads.items c.args.self.now m.seen.stamp m.number m.seen.block m.seen.gaps c.len.result (length m.seen.words.now) m.kind c.in_ok-head.head c.in_ok-head.ensures begins refl))

pub returns : goal.returns
returns c =
    let s = c.self.inside in
    let m = c.args.met.now in
    let begins : c.len.result ≡ length s.words.items = omega (arith, c.len.ensures) in
    rw (c.in_ok-push.ensures.items, c.in_ok-extend_from_slice.ensures.items)
    (one_behind s.words.items m.seen.words.now s.heads.items c.args.self.now m.seen.stamp m.number m.seen.block m.seen.gaps c.len.result (length m.seen.words.now) m.kind c.in_ok-head.head c.in_ok-head.ensures
    c.self.invariant c.self.view_is begins refl)
