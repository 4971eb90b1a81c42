use Rattle.std.proofs.Common.{arith, refl, ap, sym, subst, ◌∙◌}
use Rattle.bc_machine.specs.Running.{MachineState}
use Rattle.bc_machine.specs.UnderWay.{IsUnderWay}
use Rattle.bench_mail.specs.Mail.{received_by, times_empty}
use Rattle.bench_run.proofs.PlacedPosts.{one_placed, one_lost, takes_none, takes_one, takes_lost}
use Rattle.bench_run.proofs.posting.Posts.place_all.Goals.{then-place, else-place}
use Rattle.bench_run.proofs.posting.Posts.place_all.Goals as goal

pub taking-preserved : goal.taking-preserved
taking-preserved g c =
    let was = c.taking.invariant in
    let took = c.in-Some.ensures.taken in
    let times = ap times_empty c.place.ensures.inbox ∙ c.in-Some.ensures.not_counted in
    let m = c.taking.machine in
    let p = c.taking.self in
    let from = c.args.machine.now in
    let first = c.args.self.now in
    elim c.if-place.branch [
      | then-place w ↦ rw w.self-is (record {
        inbox = rw c.place.ensures.inbox c.in-Some.ensures.inbox;
        ordered = c.place.ensures.ordered;
        point = ap (λ (z : MachineState). z.point) (c.place.ensures.placed w.if-place.true).0 ∙ was.point;
        low = was.low;
        left = omega (arith, c.place.ensures.left, was.left);
        times = times ∙ was.times;
        posted = λ most before job is.
            one_placed most before job m c.place.new.machine p _ c.in-Some.post (was.posted most before job is) c.taking-test.true (omega (arith, c.taking-test.true, c.place.ensures.left))
            (ap received_by c.place.ensures.inbox ∙ took) times (c.place.ensures.placed w.if-place.true).0 (c.place.ensures.placed w.if-place.true).1 (λ actions same. c.place.ensures.listed actions w.if-place.true same);
        takes = takes_one from m c.place.new.machine first p _ c.in-Some.post was.takes c.taking-test.true (omega (arith, c.taking-test.true, c.place.ensures.left))
            (ap received_by c.place.ensures.inbox ∙ took) times (c.place.ensures.placed w.if-place.true).0;
        under_way = λ _. (c.place.ensures.placed w.if-place.true).1;
      })
      | else-place w ↦ rw w.self-is (record {
        inbox = rw c.place.ensures.inbox c.in-Some.ensures.inbox;
        ordered = c.place.ensures.ordered;
        point = ap (λ (z : MachineState). z.point) (c.place.ensures.same w.if-place.false).0 ∙ was.point;
        low = was.low;
        left = omega arith;
        times = times ∙ was.times;
        posted = λ most before job is.
            one_lost most before job m c.place.new.machine p _ c.in-Some.post (was.posted most before job is) c.taking-test.true refl
            (ap received_by c.place.ensures.inbox ∙ took) (c.place.ensures.same w.if-place.false).0 (c.place.ensures.same w.if-place.false).1;
        takes = takes_lost from m c.place.new.machine first p _ c.in-Some.post was.takes c.taking-test.true refl
            (ap received_by c.place.ensures.inbox ∙ took) (c.place.ensures.same w.if-place.false).0;
        under_way = λ is. subst IsUnderWay (sym (c.place.ensures.same w.if-place.false).0) (was.under_way is);
      })
    ]

pub returns-then-number-ge-LAST-clause-takes : goal.returns-then-number-ge-LAST-clause-takes
returns-then-number-ge-LAST-clause-takes g c = takes_none c.args.machine.now c.args.self.now

pub taking-init : goal.taking-init
taking-init g c = record {
  inbox = c.requires.inbox;
  ordered = c.requires.ordered;
  point = refl;
  low = omega (arith, c.if-number-ge-LAST.false, c.number.ensures.value);
  left = omega arith;
  times = refl;
  posted = λ most before job is. is;
  takes = takes_none c.args.machine.now c.args.self.now;
  under_way = λ is. is;
}
