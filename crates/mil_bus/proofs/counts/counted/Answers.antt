use Rattle.std.proofs.Common.{◌≡◌, ◌+◌, ◌-◌, ◌<◌, ◌≤◌, take, drop, length, get_or, true, arith, ap, ◌∙◌, sym, length-take, length-drop}
use Rattle.std.proofs.lemmas.List.{take_all}
use Rattle.mil_bus.specs.Counts.{counts_of}
use Rattle.mil_bus.specs.Lengthened.{AreLike, goes_on, lengthened}
use Rattle.mil_bus.proofs.Passes.{controllers-few, one-few, two-few}
use Rattle.mil_bus.proofs.Lengthening.{counts_of-like, one_noted}
use Rattle.mil_bus.proofs.counts.counted.Goals as goal
use Rattle.mil_bus.proofs.counts.counted.Goals.{then-goes_on, else-goes_on}

pub note-requires-clause-controllers : goal.note-requires-clause-controllers
note-requires-clause-controllers c =
    rw c.loop-step.invariant.seen (omega (arith, controllers-few c.args.commands c.args.due (take c.loop-step.from c.args.sent.now), length-take c.loop-step.from c.args.sent.now, c.requires.few))

pub note-requires-clause-one : goal.note-requires-clause-one
note-requires-clause-one c =
    rw c.loop-step.invariant.seen (omega (arith, one-few c.args.commands c.args.due (take c.loop-step.from c.args.sent.now), length-take c.loop-step.from c.args.sent.now, c.requires.few))

pub note-requires-clause-two : goal.note-requires-clause-two
note-requires-clause-two c =
    rw c.loop-step.invariant.seen (omega (arith, two-few c.args.commands c.args.due (take c.loop-step.from c.args.sent.now), length-take c.loop-step.from c.args.sent.now, c.requires.few))

pub lengthen-requires-clause-controllers : goal.lengthen-requires-clause-controllers
lengthen-requires-clause-controllers c =
    let xs = c.args.sent.now in
    let from = c.loop-step.from in
    let lt : from < length xs = omega (arith, c.loop-step.invariant.within, c.if-from-sent.false) in
    let e = one_noted c.args.commands c.args.due c.requires.two xs from c.loop-step.seen c.note.new.self c.index-sent-from-in-loop-step.result lt c.loop-step.invariant.seen c.note.ensures c.index-sent-from-in-loop-step.is in
    rw e (omega (arith, controllers-few c.args.commands c.args.due (take (from + 1) xs), length-take (from + 1) xs, c.requires.few, c.count_like-more.ensures.within, length-take (length xs - (from + 1)) (drop (from + 1) xs), length-drop (from + 1) xs))

pub lengthen-requires-clause-one : goal.lengthen-requires-clause-one
lengthen-requires-clause-one c =
    let xs = c.args.sent.now in
    let from = c.loop-step.from in
    let lt : from < length xs = omega (arith, c.loop-step.invariant.within, c.if-from-sent.false) in
    let e = one_noted c.args.commands c.args.due c.requires.two xs from c.loop-step.seen c.note.new.self c.index-sent-from-in-loop-step.result lt c.loop-step.invariant.seen c.note.ensures c.index-sent-from-in-loop-step.is in
    rw e (omega (arith, one-few c.args.commands c.args.due (take (from + 1) xs), length-take (from + 1) xs, c.requires.few, c.count_like-more.ensures.within, length-take (length xs - (from + 1)) (drop (from + 1) xs), length-drop (from + 1) xs))

pub lengthen-requires-clause-two : goal.lengthen-requires-clause-two
lengthen-requires-clause-two c =
    let xs = c.args.sent.now in
    let from = c.loop-step.from in
    let lt : from < length xs = omega (arith, c.loop-step.invariant.within, c.if-from-sent.false) in
    let e = one_noted c.args.commands c.args.due c.requires.two xs from c.loop-step.seen c.note.new.self c.index-sent-from-in-loop-step.result lt c.loop-step.invariant.seen c.note.ensures c.index-sent-from-in-loop-step.is in
    rw e (omega (arith, two-few c.args.commands c.args.due (take (from + 1) xs), length-take (from + 1) xs, c.requires.few, c.count_like-more.ensures.within, length-take (length xs - (from + 1)) (drop (from + 1) xs), length-drop (from + 1) xs))

pub loop-step-preserved : goal.loop-step-preserved
loop-step-preserved c =
    let xs = c.args.sent.now in
    let from = c.loop-step.from in
    let lt : from < length xs = omega (arith, c.loop-step.invariant.within, c.if-from-sent.false) in
    let e = one_noted c.args.commands c.args.due c.requires.two xs from c.loop-step.seen c.note.new.self c.index-sent-from-in-loop-step.result lt c.loop-step.invariant.seen c.note.ensures c.index-sent-from-in-loop-step.is in
    let run = (get_or xs from c.index-sent-from.result).run in
    elim c.if-goes_on.branch [
      | then-goes_on w ↦
          let more = w.count_like-more.result in
          let rest = take_all (length xs - (from + 1)) (drop (from + 1) xs) (omega (arith, length-drop (from + 1) xs)) in
          let few : from + 1 + more ≤ length xs = omega (arith, w.count_like-more.ensures.within, length-take (length xs - (from + 1)) (drop (from + 1) xs), length-drop (from + 1) xs, lt) in
          let on : goes_on c.args.commands c.args.due (counts_of c.args.commands c.args.due (take (from + 1) xs)) run ≡ true = ap (λ s. goes_on c.args.commands c.args.due s run) (sym e) ∙ sym w.if-goes_on.ensures in
          let like : AreLike run more (drop (from + 1) xs) = rw rest at w.count_like-more.ensures.like in
          record {
            seen = w.seen-is ∙ w.lengthen.ensures ∙ ap (λ s. lengthened s run more) e ∙ sym (counts_of-like c.args.commands c.args.due c.requires.two xs (from + 1) run more few on like) ∙ ap (λ k. counts_of c.args.commands c.args.due (take k xs)) (sym w.from-is);
            within = omega (arith, w.from-is, few);
            near = omega (arith, w.from-is, c.loop-step.invariant.near);
          }
      | else-goes_on w ↦ record {
        seen = w.seen-is ∙ e ∙ ap (λ k. counts_of c.args.commands c.args.due (take k xs)) (sym w.from-is);
        within = omega (arith, w.from-is, lt);
        near = omega (arith, w.from-is, c.loop-step.invariant.near);
      }
    ]
