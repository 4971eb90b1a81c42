use Rattle.std.proofs.Common.{◌≡◌, ℕ, ◌+◌, ◌<◌, ◌≤◌, List, [], ◌∷◌, ◌++◌, length, take, get_or, sym, ap, ◌∙◌, arith}
use Rattle.std.specs.Prelude.{Option, Some, None}
use Rattle.std.specs.List.{filter_map, cons_option}
use Rattle.std.proofs.lemmas.List.{length-append, take_more}
use Rattle.std.proofs.lemmas.List.Elements.{filter_map-append}
use Rattle.controller_host.specs.Values.{InsertionValue}
use Rattle.bc_machine.specs.Hosting.{insertion_of}
use Rattle.job_file.specs.TimedLines.{timed_inserts}
use Rattle.job_file.specs.declared.timed.TimedAction.{TimedAction}
use Rattle.job_file.proofs.timed.TimedLines.inserts.Goals as goal

one_at_most : (o : Option InsertionValue) → length (cons_option o []) ≤ 1
one_at_most None = omega arith
one_at_most (Some x) = omega arith

-- one action more
inserts_more : (ws : List TimedAction) (i : ℕ) (w : TimedAction) → i < length ws → w ≡ get_or ws i w
    → timed_inserts (take (i + 1) ws) ≡ timed_inserts (take i ws) + timed_inserts (w ∷ [])
inserts_more ws i w less is =
    let inserted : TimedAction → Option InsertionValue = λ v. insertion_of v.action in
    ap timed_inserts (take_more ws i w less ∙ ap (λ (v : TimedAction). take i ws ++ v ∷ []) (sym is))
    ∙ ap length (filter_map-append inserted (take i ws) (w ∷ []))
    ∙ length-append (filter_map inserted (take i ws)) (filter_map inserted (w ∷ []))

pub loop-when-preserved : goal.loop-when-preserved
loop-when-preserved c =
    let w = c.when-item.result in
    let one : timed_inserts (w ∷ []) ≤ 1 = one_at_most (insertion_of w.action) in
    let more = inserts_more c.deref-when-items.result.now c.loop-when.when-index w c.loop-when-test.true c.when-item.is in
    record {
      few = omega (arith, c.loop-when.invariant.few, c.inserts-count.ensures, one);
      count = omega (arith, c.loop-when.invariant.count, c.inserts-count.ensures, more);
    }
