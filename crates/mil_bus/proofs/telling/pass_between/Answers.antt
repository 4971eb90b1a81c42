use Rattle.std.proofs.Common.{◌≡◌, length-set, get_or, take, refl, sym, ap, ◌∙◌, arith}
use Rattle.std.specs.Option.{option_or}
use Rattle.mil_bus.specs.Index.{first_answer}
use Rattle.mil_bus.proofs.Stations.{rest-more, first_answer-more, option_or_none}
use Rattle.mil_bus.proofs.Coming.{one_more}
use Rattle.mil_bus.proofs.telling.pass_between.Goals as goal

pub loop-i-init : goal.loop-i-init
loop-i-init g c = record { long = refl; rest = λ k d le. refl; come = λ old opened begun. begun; silent = λ old opened begun. refl }

pub loop-i-preserved : goal.loop-i-preserved
loop-i-preserved g c =
    let z = c.index_mut-terminal.result.now in
    let f = g.C.Coming.answers c.args.coming.now in
    record {
      long = length-set c.loop-i.terminals.items c.loop-i.i c.pass.new.terminal ∙ c.loop-i.invariant.long;
      rest = rest-more c.args.terminals.now.items c.loop-i.terminals.items c.loop-i.i c.pass.new.terminal c.loop-i.invariant.rest;
      come = λ old opened begun.
          one_more (g.C.Coming.makes c.args.coming.now) old c.loop-i.terminals.items c.loop-i.i opened opened c.pass.new.terminal z (omega (arith, begun.long))
          (c.loop-i.invariant.come old opened begun) c.pass.ensures.after c.index_mut-terminal.ensures.value (λ clear. c.pass.ensures.closed) (λ k lt clear. clear);
      silent = λ old opened begun.
          let come = c.loop-i.invariant.come old opened begun in
          let is : z ≡ get_or old c.loop-i.i z = c.index_mut-terminal.ensures.value ∙ come.rest c.loop-i.i z (omega arith) in
          first_answer-more f old c.loop-i.i z (omega (arith, begun.long))
          ∙ ap (λ s. option_or (first_answer f (take c.loop-i.i old)) (f s)) (sym is)
          ∙ ap (λ o. option_or (first_answer f (take c.loop-i.i old)) o) c.pass.ensures.silent
          ∙ option_or_none (first_answer f (take c.loop-i.i old))
          ∙ c.loop-i.invariant.silent old opened begun;
    }

pub returns-clause-come : goal.returns-clause-come
returns-clause-come g c = λ old opened begun.
    let e : c.loop-i.i ≡ c.args.to = omega (arith, c.loop-i.auto.i-end c.requires.order) in
    rw e at (c.loop-i.invariant.come old opened begun)

pub returns-clause-silent : goal.returns-clause-silent
returns-clause-silent g c = λ old opened begun.
    let e : c.loop-i.i ≡ c.args.to = omega (arith, c.loop-i.auto.i-end c.requires.order) in
    rw e at (c.loop-i.invariant.silent old opened begun)
