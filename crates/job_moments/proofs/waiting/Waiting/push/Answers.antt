use Rattle.std.proofs.Common.{◌≡◌, ◌++◌, sym, ◌∷◌, [], length, ap, subst, ◌∙◌, arith, length-append}
use Rattle.std.proofs.lemmas.List.{append-nil, map-append}
use Rattle.std.proofs.lemmas.List.Elements.{All-nil, All-cons}
use Rattle.std.specs.Prelude.{Option}
use Rattle.judge_rules.specs.declared.rules.Selector.{Selector}
use Rattle.job_moments.specs.declared.waiting.Pending.{Pending}
use Rattle.job_moments.specs.Awaiting.{awaited, awaited_of, due_of, HasItsCounter}
use Rattle.job_moments.specs.Groups.{lines_of_groups}
use Rattle.job_moments.specs.Counting.{HasCounter}
use Rattle.job_moments.specs.Moments.{counted_for}
use Rattle.job_moments.specs.Waits.{Waits}
use Rattle.job_moments.proofs.Grouping.{beside_unknown, group_put_known, group_lines}
use Rattle.job_moments.proofs.Joined.{on_err}
use Rattle.job_moments.proofs.Taking.{same_waits}
use Rattle.job_moments.proofs.waiting.Waiting.push.Goals as goal

pub invariant_of-self-in_err-put_behind : goal.invariant_of-self-in_err-put_behind
invariant_of-self-in_err-put_behind g c =
    let old = c.self.inside.groups.items in
    let new = c.put_behind.new.groups.items in
    record {
      known = group_put_known HasItsCounter due_of old new [] c.self.inside.counts c.counter_of.new.self
          (ap (λ v. v.made) c.self.view_is ∙ c.requires) c.counter_of.ensures.made
          (λ line stood. c.counter_of.ensures.others line.counter (counted_for line.moment) stood)
          c.in_err-put_behind.ensures (All-nil (HasItsCounter c.counter_of.new.self.selectors)) c.self.invariant.known;
      beside = beside_unknown due_of c.counter_of.new.self.made c.none-self-inside.result.others c.none-self-inside.result.place new c.none-self-inside.ensures;
      count = omega (arith, c.self.invariant.count, ap length (group_lines old new [] c.in_err-put_behind.ensures), length-append (lines_of_groups old) []);
    }

pub invariant_of-self-2 : goal.invariant_of-self-2
invariant_of-self-2 g c =
    let old = c.self.inside.groups.items in
    let new = c.put_behind.new.groups.items in
    let line : Pending g.row.T.Denot = record { moment = c.args.moment; counter = c.in_ok-counter.counter; payload = c.args.payload } in
    let selectors = c.counter_of.new.self.selectors in
    record {
      known = group_put_known HasItsCounter due_of old new (line ∷ []) c.self.inside.counts c.counter_of.new.self
          (ap (λ v. v.made) c.self.view_is ∙ c.requires) c.counter_of.ensures.made
          (λ other stood. c.counter_of.ensures.others other.counter (counted_for other.moment) stood)
          c.in_ok-put_behind.ensures
          (All-cons (HasItsCounter selectors) line []
          (subst (λ (o : Option Selector). HasCounter selectors c.in_ok-counter.counter o) c.selector.ensures c.in_ok-counter.ensures.counter)
          (All-nil (HasItsCounter selectors)))
          c.self.invariant.known;
      beside = beside_unknown due_of c.counter_of.new.self.made c.none-self-inside.result.others c.none-self-inside.result.place new c.none-self-inside.ensures;
      count = omega (
        arith,
        c.in-Some.ensures.1,
        c.self.invariant.count,
        ap length (group_lines old new (line ∷ []) c.in_ok-put_behind.ensures),
        length-append (lines_of_groups old) (line ∷ []),
      );
    }

pub returns-in_err-put_behind-clause-same : goal.returns-in_err-put_behind-clause-same
returns-in_err-put_behind-clause-same g c =
    let old = c.self.inside.groups.items in
    let new = c.put_behind.new.groups.items in
    let lines : lines_of_groups new ≡ lines_of_groups old =
    group_lines old new [] c.in_err-put_behind.ensures ∙ append-nil (lines_of_groups old) in
    let left : awaited_of (lines_of_groups new) ≡ c.args.self.now.left =
    ap awaited_of lines ∙ ap (λ (v : Waits g.row.T.Denot). v.left) c.self.view_is in
    on_err c.from_residual-in_err-put_behind.result (same_waits _ c.args.self.now left (c.counter_of.ensures.made ∙ sym c.requires))

pub returns-clause-pushed : goal.returns-clause-pushed
returns-clause-pushed g c =
    let old = c.self.inside.groups.items in
    let new = c.put_behind.new.groups.items in
    let line : Pending g.row.T.Denot = record { moment = c.args.moment; counter = c.in_ok-counter.counter; payload = c.args.payload } in
    let left : awaited_of (lines_of_groups new) ≡ c.args.self.now.left ++ awaited line ∷ [] =
    ap awaited_of (group_lines old new (line ∷ []) c.in_ok-put_behind.ensures) ∙ map-append awaited (lines_of_groups old) (line ∷ [])
    ∙ ap (λ (v : Waits g.row.T.Denot). v.left ++ awaited line ∷ []) c.self.view_is in
    same_waits _ _ left c.counter_of.ensures.made
