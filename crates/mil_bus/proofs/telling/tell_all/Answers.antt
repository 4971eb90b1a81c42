use Rattle.std.proofs.Common.{◌≡◌, ◌<◌, length, get_or, take, sym, ap, ◌∙◌, arith}
use Rattle.std.proofs.lemmas.List.{take_all}
use Rattle.std.specs.Option.{option_or}
use Rattle.mil_bus.specs.Index.{first_answer}
use Rattle.mil_bus.proofs.Stations.{kept-more, option_or_none}
use Rattle.mil_bus.proofs.Coming.{has_begun, one_more, all_met, all_closed}
use Rattle.mil_bus.proofs.telling.tell_all.Goals as goal

pub loop-step-init : goal.loop-step-init
loop-step-init g c = record {
  come = has_begun (g.C.Coming.makes c.args.coming.now) c.args.terminals.now.items 0;
  first = sym (option_or_none (g.C.Coming.answered c.args.answer.now));
  far = omega arith;
  near = omega arith;
  count = omega (arith, c.len-count.ensures);
}

pub pass_between-requires-clause-order : goal.pass_between-requires-clause-order
pass_between-requires-clause-order g c = omega (arith, c.next_set.ensures.from, c.loop-step.invariant.far, c.min-at.ensures)

pub pass_between-requires-clause-end : goal.pass_between-requires-clause-end
pass_between-requires-clause-end g c = omega (arith, c.min-at.ensures, c.loop-step.invariant.count, c.loop-step.invariant.come.long)

pub pass_between-requires-clause-other : goal.pass_between-requires-clause-other
pass_between-requires-clause-other g c = λ k d le lt.
    rw (c.loop-step.invariant.come.rest k d le)
    (c.requires.other k d (omega (arith, c.min-at.ensures, c.loop-step.invariant.count)) (c.next_set.ensures.none_between k le (omega (arith, c.min-at.ensures)) (omega (arith, c.min-at.ensures, c.loop-step.invariant.count, c.requires.few))))

pub pass_between-requires-clause-closed : goal.pass_between-requires-clause-closed
pass_between-requires-clause-closed g c = λ k d le lt.
    rw (c.loop-step.invariant.come.rest k d le)
    (c.requires.closed k d (omega (arith, c.min-at.ensures, c.loop-step.invariant.count)) (c.next_set.ensures.none_between k le (omega (arith, c.min-at.ensures)) (omega (arith, c.min-at.ensures, c.loop-step.invariant.count, c.requires.few))))

pub returns-then-at-count-clause-heard : goal.returns-then-at-count-clause-heard
returns-then-at-count-clause-heard g c =
    all_met (g.C.Coming.makes c.args.coming.now) c.args.terminals.now.items c.pass_between.new.terminals.items c.min-at.result c.loop-step.opened (omega (arith, c.loop-step.invariant.count))
    (c.pass_between.ensures.come c.args.terminals.now.items c.loop-step.opened c.loop-step.invariant.come)

pub returns-then-at-count-clause-first : goal.returns-then-at-count-clause-first
returns-then-at-count-clause-first g c =
    let f = g.C.Coming.answers c.args.coming.now in
    c.loop-step.invariant.first
    ∙ ap (option_or (g.C.Coming.answered c.args.answer.now))
    (sym (c.pass_between.ensures.silent c.args.terminals.now.items c.loop-step.opened c.loop-step.invariant.come)
    ∙ ap (first_answer f) (take_all c.min-at.result c.args.terminals.now.items (omega (arith, c.loop-step.invariant.count))))

pub returns-then-at-count-clause-closed : goal.returns-then-at-count-clause-closed
returns-then-at-count-clause-closed g c =
    all_closed (g.C.Coming.makes c.args.coming.now) c.args.terminals.now.items c.pass_between.new.terminals.items c.min-at.result c.loop-step.opened (omega (arith, c.loop-step.invariant.count))
    (c.pass_between.ensures.come c.args.terminals.now.items c.loop-step.opened c.loop-step.invariant.come)

pub index_mut-terminal-requires : goal.index_mut-terminal-requires
index_mut-terminal-requires g c =
    let come = c.pass_between.ensures.come c.args.terminals.now.items c.loop-step.opened c.loop-step.invariant.come in
    omega (arith, come.long, c.min-at.ensures, c.loop-step.invariant.count)

pub returns-clause-heard : goal.returns-clause-heard
returns-clause-heard g c =
    all_met (g.C.Coming.makes c.args.coming.now) c.args.terminals.now.items c.loop-step.terminals.items c.loop-step.from c.loop-step.opened (omega (arith, c.loop-step.invariant.near, c.requires.few))
    c.loop-step.invariant.come

pub returns-clause-first : goal.returns-clause-first
returns-clause-first g c =
    c.loop-step.invariant.first
    ∙ ap (λ xs. option_or (g.C.Coming.answered c.args.answer.now) (first_answer (g.C.Coming.answers c.args.coming.now) xs))
    (take_all c.loop-step.from c.args.terminals.now.items (omega (arith, c.loop-step.invariant.near, c.requires.few)))

pub returns-clause-closed : goal.returns-clause-closed
returns-clause-closed g c =
    all_closed (g.C.Coming.makes c.args.coming.now) c.args.terminals.now.items c.loop-step.terminals.items c.loop-step.from c.loop-step.opened (omega (arith, c.loop-step.invariant.near, c.requires.few))
    c.loop-step.invariant.come

pub loop-step-preserved : goal.loop-step-preserved
loop-step-preserved g c =
    let come = c.pass_between.ensures.come c.args.terminals.now.items c.loop-step.opened c.loop-step.invariant.come in
    let at_lt : c.min-at.result < length c.args.terminals.now.items = omega (arith, c.min-at.ensures, c.loop-step.invariant.count) in
    let z = c.index_mut-terminal.result.now in
    let f = g.C.Coming.answers c.args.coming.now in
    let before = g.C.Coming.answered c.args.answer.now in
    let kept : g.C.Coming.answered c.loop-step.answer ≡ option_or before (first_answer f (take c.min-at.result c.args.terminals.now.items)) =
    c.loop-step.invariant.first
    ∙ ap (option_or before) (sym (c.pass_between.ensures.silent c.args.terminals.now.items c.loop-step.opened c.loop-step.invariant.come)) in
    let is : z ≡ get_or c.args.terminals.now.items c.min-at.result z = c.index_mut-terminal.ensures.value ∙ come.rest c.min-at.result z (omega arith) in
    record {
      come = one_more (g.C.Coming.makes c.args.coming.now) c.args.terminals.now.items c.pass_between.new.terminals.items c.min-at.result c.loop-step.opened c.with_bit-opened.result c.tell.new.terminal c.index_mut-terminal.result.now at_lt
          come c.tell.ensures.after c.index_mut-terminal.ensures.value
          (λ clear. c.is_open-is_open.ensures (c.with_bit-opened.ensures.there clear)) (λ k lt clear. c.with_bit-opened.ensures.kept k clear);
      first = kept-more f c.args.terminals.now.items c.min-at.result z before (g.C.Coming.answered c.loop-step.answer) (g.C.Coming.answered c.tell.new.answer) at_lt kept is c.tell.ensures.first;
      far = omega (arith, at_lt, c.loop-step.invariant.count);
      near = omega (arith, c.loop-step.invariant.near, c.next_set.ensures.from, c.min-at.ensures, c.loop-step.invariant.far);
      count = c.loop-step.invariant.count;
    }
