use Rattle.std.proofs.Common.{◌≡◌, ◌+◌, List, [], ◌∷◌, ◌++◌, sym, ap, ap₂, ◌∙◌, append_assoc, arith, map}
use Rattle.std.specs.List.{range_with_len}
use Rattle.std.proofs.lemmas.List.FromFn.{map-range_with_len_more}
use Rattle.bc_machine.specs.declared.placed.Placed.{Placed}
use Rattle.job_file.specs.HeadLines.{Head}
use Rattle.job_file.specs.Spans.{placed_at}
use Rattle.job_file.proofs.drafts.Draft.place_series.Goals as goal

pub loop-before-preserved : goal.loop-before-preserved
loop-before-preserved c =
    let k = c.loop-before.before in
    let at = placed_at c.args.series.now in
    let first = c.reserve.new.self in
    let was : c.loop-before.self.actions ≡ first ++ map at (range_with_len 0 k) = ap (λ (h : Head). h.actions) c.loop-before.invariant in
    let more : c.push.new.self ≡ first ++ map at (range_with_len 0 (k + 1)) =
    c.in-Ok.ensures.pushed
    ∙ ap₂ (λ (ps : List Placed) (p : Placed). ps ++ p ∷ []) was c.placed.ensures
    ∙ append_assoc first (map at (range_with_len 0 k)) (at k ∷ [])
    ∙ ap (λ ps. first ++ ps) (sym (map-range_with_len_more at 0 k k (omega arith))) in
    ap₂ (λ (h : Head) (ps : List Placed). record h { actions = ps }) c.loop-before.invariant more
