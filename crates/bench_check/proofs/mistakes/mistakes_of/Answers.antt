use Rattle.std.proofs.Common.{◌≡◌, ◌++◌, List, ℕ, ap, ◌∙◌}
use Rattle.std.specs.List.{flat_map}
use Rattle.mil_line.specs.Plans.{Planned}
use Rattle.bc_machine.specs.declared.placed.Placed.{Placed}
use Rattle.bench_check.specs.declared.frames.Overrun.{Overrun}
use Rattle.bench_check.specs.Mistakes as spec
use Rattle.bench_check.proofs.Pieces.{two_put}
use Rattle.bench_check.proofs.mistakes.mistakes_of.Goals as goal

pub returns : goal.returns
returns c =
    let f = c.args.findings.now in
    let job = c.args.job.now in
    let a = spec.unmet_of_all f.made f.unmet.items in
    let b = spec.tight_of c.args.tight.now in
    let d = spec.late_of f.overruns.items in
    let e = flat_map (spec.undone_at f.made) job.actions in
    let n = spec.uncarried_of f.uncarried.items in
    let s = spec.strangers_below job.addresses f.calls 31 in
    let u = flat_map (spec.uncalled_at f.calls) job.addresses in
    let w = spec.further c.args.is_all job.addresses f.oddities in
    let x0 = c.args.lines.items in
    let x1 = c.add_unmet.new.found.items in
    let x2 = c.add_tight.new.found.items in
    let x3 = c.add_late.new.found.items in
    let x4 = c.add_undone.new.found.items in
    let x5 = c.add_uncarried.new.found.items in
    let x6 = c.add_strangers.new.found.items in
    let x7 = c.add_uncalled.new.found.items in
    let x8 = c.add_further.new.found.items in
    let p1 : x1 ≡ x0 ++ a = c.in_ok-add_unmet.ensures ∙ ap (λ (v : List Planned). x0 ++ spec.unmet_of_all f.made v) c.as_slice.ensures.value in
    let p3 : x3 ≡ x2 ++ d = c.in_ok-add_late.ensures ∙ ap (λ (v : List Overrun). x2 ++ spec.late_of v) c.as_slice-2.ensures.value in
    let p4 : x4 ≡ x3 ++ e = c.in_ok-add_undone.ensures ∙ ap (λ (v : List Placed). x3 ++ flat_map (spec.undone_at f.made) v) c.actions.ensures.value in
    let p5 : x5 ≡ x4 ++ n = c.in_ok-add_uncarried.ensures ∙ ap (λ (v : List Placed). x4 ++ spec.uncarried_of v) c.as_slice-3.ensures.value in
    let p6 : x6 ≡ x5 ++ s = c.in_ok-add_strangers.ensures ∙ ap (λ (v : List ℕ). x5 ++ spec.strangers_below v f.calls 31) c.addresses-addresses.ensures.value in
    let p7 : x7 ≡ x6 ++ u = c.in_ok-add_uncalled.ensures ∙ ap (λ (v : List ℕ). x6 ++ flat_map (spec.uncalled_at f.calls) v) c.addresses-addresses.ensures.value in
    let p8 : x8 ≡ x7 ++ w = c.in_ok-add_further.ensures ∙ ap (λ (v : List ℕ). x7 ++ spec.further c.args.is_all v f.oddities) c.addresses-addresses.ensures.value in
    two_put x0 a (b ++ (d ++ (e ++ (n ++ (s ++ (u ++ w)))))) x1 x8 p1
    (two_put x1 b (d ++ (e ++ (n ++ (s ++ (u ++ w))))) x2 x8 c.in_ok-add_tight.ensures
    (two_put x2 d (e ++ (n ++ (s ++ (u ++ w)))) x3 x8 p3
    (two_put x3 e (n ++ (s ++ (u ++ w))) x4 x8 p4
    (two_put x4 n (s ++ (u ++ w)) x5 x8 p5
    (two_put x5 s (u ++ w) x6 x8 p6
    (two_put x6 u w x7 x8 p7 p8))))))
