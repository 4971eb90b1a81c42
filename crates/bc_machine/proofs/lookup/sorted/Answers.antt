use Rattle.std.proofs.Common.{◌≡◌, sym, ap, subst, ◌∙◌, rules}
use Rattle.std.specs.Prelude.{All}
use Rattle.std.proofs.lemmas.List.Sorted.{answers_always, IsNonDecreasingBy-from_sort_by_key, All-permutation}
use Rattle.bc_machine.specs.declared.action_rows.Row.{Row}
use Rattle.bc_machine.specs.Rows.{rows_at, IsRow}
use Rattle.bc_machine.proofs.Listed.{sorted_rows}
use Rattle.bc_machine.proofs.lookup.sorted.Goals as goal

pub returns : goal.returns
returns c = λ beside all.
    let old = c.in_ok-sorted.sorted.items in
    let new = c.sort_by_key.new.self.items in
    let same : old ≡ c.args.rows.now = search rules in
    record {
      all = All-permutation (IsRow beside) old new c.sort_by_key.ensures.permutation (subst (All (IsRow beside)) (sym same) all);
      rising = IsNonDecreasingBy-from_sort_by_key (λ (r : Row). r.number) _ c.in_ok-sort_by_key.ensures.sorted (λ a r q k. search rules);
      same = λ n. sorted_rows old new (c.in_ok-sort_by_key.ensures.stable (λ (r : Row). r.number) (answers_always _ _ _ (λ f a r q k. search rules))) n ∙ ap (rows_at n) same;
    }
