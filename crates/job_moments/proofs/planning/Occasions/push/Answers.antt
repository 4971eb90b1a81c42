use Rattle.std.proofs.Common.{◌≡◌, ◌++◌, sym, ◌∷◌, [], length, ap, subst, ◌∙◌, arith, length-append}
use Rattle.std.proofs.lemmas.List.{append-nil, map-append}
use Rattle.std.proofs.lemmas.List.Elements.{All-nil, All-cons}
use Rattle.std.specs.Prelude.{Option}
use Rattle.judge_rules.specs.declared.rules.Selector.{Selector}
use Rattle.job_moments.specs.declared.planning.Rule.{Rule}
use Rattle.job_moments.specs.Groups.{lines_of_groups}
use Rattle.job_moments.specs.Counting.{HasCounter}
use Rattle.job_moments.specs.Planning.{PlanState, counted_of}
use Rattle.job_moments.specs.Rules.{occasion_of, planned_of, plans_of, HasItsCounter}
use Rattle.job_moments.proofs.Grouping.{group_put_known, group_lines}
use Rattle.job_moments.proofs.Joined.{on_err}
use Rattle.job_moments.proofs.Planned.{same_plans}
use Rattle.job_moments.proofs.planning.Occasions.push.Goals as goal

pub invariant_of-self-in_err-put_behind : goal.invariant_of-self-in_err-put_behind
invariant_of-self-in_err-put_behind c =
    let old = c.self.inside.groups.items in
    let new = c.put_behind.new.groups.items in
    record {
      known = group_put_known HasItsCounter occasion_of old new [] c.self.inside.counts c.counter_of.new.self
          (ap (λ (v : PlanState). v.made) c.self.view_is ∙ c.requires.made) c.counter_of.ensures.made
          (λ rule stood. record {
            counter = c.counter_of.ensures.others rule.counter (counted_of rule.occasion) stood.counter;
            stands = stood.stands;
          })
          c.in_err-put_behind.ensures (All-nil (HasItsCounter c.counter_of.new.self.selectors)) c.self.invariant.known;
      count = omega (arith, c.self.invariant.count, ap length (group_lines old new [] c.in_err-put_behind.ensures), length-append (lines_of_groups old) []);
    }

pub invariant_of-self-2 : goal.invariant_of-self-2
invariant_of-self-2 c =
    let old = c.self.inside.groups.items in
    let new = c.put_behind.new.groups.items in
    let line : Rule = record { occasion = c.args.occasion; counter = c.in_ok-counter.counter; fault = c.args.fault } in
    let selectors = c.counter_of.new.self.selectors in
    record {
      known = group_put_known HasItsCounter occasion_of old new (line ∷ []) c.self.inside.counts c.counter_of.new.self
          (ap (λ (v : PlanState). v.made) c.self.view_is ∙ c.requires.made) c.counter_of.ensures.made
          (λ rule stood. record {
            counter = c.counter_of.ensures.others rule.counter (counted_of rule.occasion) stood.counter;
            stands = stood.stands;
          })
          c.in_ok-put_behind.ensures
          (All-cons (HasItsCounter selectors) line [] (record {
            counter = subst (λ (o : Option Selector). HasCounter selectors c.in_ok-counter.counter o) c.selector.ensures c.in_ok-counter.ensures.counter;
            stands = c.requires.stands;
          }) (All-nil (HasItsCounter selectors)))
          c.self.invariant.known;
      count = omega (
        arith,
        c.in-Some.ensures.1,
        c.self.invariant.count,
        ap length (group_lines old new (line ∷ []) c.in_ok-put_behind.ensures),
        length-append (lines_of_groups old) (line ∷ []),
      );
    }

pub returns-in_err-put_behind-clause-same : goal.returns-in_err-put_behind-clause-same
returns-in_err-put_behind-clause-same c =
    let old = c.self.inside.groups.items in
    let new = c.put_behind.new.groups.items in
    let lines : lines_of_groups new ≡ lines_of_groups old =
    group_lines old new [] c.in_err-put_behind.ensures ∙ append-nil (lines_of_groups old) in
    let faults : plans_of (lines_of_groups new) ≡ c.args.self.now.faults =
    ap plans_of lines ∙ ap (λ (v : PlanState). v.faults) c.self.view_is in
    on_err c.from_residual-in_err-put_behind.result (same_plans _ c.args.self.now faults (c.counter_of.ensures.made ∙ sym c.requires.made))

pub returns-clause-pushed : goal.returns-clause-pushed
returns-clause-pushed c =
    let old = c.self.inside.groups.items in
    let new = c.put_behind.new.groups.items in
    let line : Rule = record { occasion = c.args.occasion; counter = c.in_ok-counter.counter; fault = c.args.fault } in
    let faults : plans_of (lines_of_groups new) ≡ c.args.self.now.faults ++ planned_of line ∷ [] =
    ap plans_of (group_lines old new (line ∷ []) c.in_ok-put_behind.ensures) ∙ map-append planned_of (lines_of_groups old) (line ∷ [])
    ∙ ap (λ (v : PlanState). v.faults ++ planned_of line ∷ []) c.self.view_is in
    same_plans _ _ faults c.counter_of.ensures.made
