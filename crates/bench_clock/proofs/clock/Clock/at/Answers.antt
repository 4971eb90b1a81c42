use Rattle.std.proofs.Common.{◌≡◌, ◌≤◌, ◌+◌, ◌-◌, ◌*◌, List, length, sym, ap, subst, arith}
use Rattle.std.specs.Prelude.{slice_get, None, Some, option_map}
use Rattle.std.proofs.lemmas.Option.{slice_get_read}
use Rattle.bench_clock.specs.declared.clock.Mark.{Mark}
use Rattle.bench_clock.specs.Clock.{time_at}
use Rattle.bench_clock.specs.Time.{time_of}
use Rattle.bench_clock.specs.declared.time.TimeOfDay.{TimeOfDay}
use Rattle.bench_clock.proofs.Rulings.{time_is, no_time}
use Rattle.bench_clock.proofs.clock.Clock.at.Goals as goal

pub returns-then-stamp-first : goal.returns-then-stamp-first
returns-then-stamp-first c =
    let there : slice_get c.self.inside.marks.items 0 ≡ Some c.in_ok-first.first.now = subst (λ (l : List Mark). slice_get l 0 ≡ Some c.in_ok-first.first.now) c.deref.ensures.value (sym c.in_ok-first.ensures.value) in
    subst (λ (ms : List Mark). None ≡ time_at ms c.args.stamp) c.self.view_is
    (no_time c.self.inside.marks.items c.args.stamp
    (λ j m is. let later = c.self.invariant.order 0 j c.in_ok-first.first.now m (omega arith) there is in omega (arith, c.if-stamp-first.true, later)))

pub overflow_sub-passed : goal.overflow_sub-passed
overflow_sub-passed c =
    let there = slice_get_read c.self.inside.marks.items (length c.as_slice.result.now) c.place_of.result c.index-mark.result.now (ap length c.as_slice.ensures.value) c.place_of.ensures.within c.index-mark.ensures in
    c.place_of.ensures.from c.index-mark.result.now (subst (λ (l : List Mark). slice_get l c.place_of.result ≡ Some c.index-mark.result.now) (sym c.as_slice.ensures.value) there)

pub time_behind-requires : goal.time_behind-requires
time_behind-requires c =
    let there = slice_get_read c.self.inside.marks.items (length c.as_slice.result.now) c.place_of.result c.index-mark.result.now (ap length c.as_slice.ensures.value) c.place_of.ensures.within c.index-mark.ensures in
    c.self.invariant.times c.place_of.result c.index-mark.result.now there

pub returns : goal.returns
returns c =
    let there = slice_get_read c.self.inside.marks.items (length c.as_slice.result.now) c.place_of.result c.index-mark.result.now (ap length c.as_slice.ensures.value) c.place_of.ensures.within c.index-mark.ensures in
    let from = c.place_of.ensures.from c.index-mark.result.now (subst (λ (l : List Mark). slice_get l c.place_of.result ≡ Some c.index-mark.result.now) (sym c.as_slice.ensures.value) there) in
    subst (λ (ms : List Mark). option_map (λ (t : TimeOfDay). time_of t) c.time_behind.result ≡ time_at ms c.args.stamp) c.self.view_is
    (time_is c.self.inside.marks.items c.place_of.result c.index-mark.result.now c.args.stamp _ there from
    (λ j x lt is. c.place_of.ensures.last j x lt (subst (λ (l : List Mark). slice_get l j ≡ Some x) (sym c.as_slice.ensures.value) is))
    c.time_behind.ensures)
