use Rattle.std.proofs.Common.{ℕ, List, [], Some, sym, ap, ◌∙◌}
use Rattle.bench_complete.specs.declared.placed.Placed.{Placed}
use Rattle.bench_complete.specs.Complete.{extent_of}
use Rattle.bench_complete.specs.Judging.{misuse_by}
use Rattle.bench_complete.specs.Pieces.{kept_entries}
use Rattle.bench_complete.proofs.Planned.{planned, placed_below, plan_is, first_small, misuse_same}
use Rattle.bench_complete.proofs.completion.Completion.of.Goals as goal

pub lowest-low-requires : goal.lowest-low-requires
lowest-low-requires g c =
    let is = c.extent_of-extent.ensures [] ∙ ap (λ (es : List Placed). extent_of (kept_entries [] es)) c.as_slice-packets.ensures.value in
    rw (c.times_of-times.ensures) (first_small (kept_entries [] c.args.listed.packets.items) c.args.additions.now c.extent_of-extent.result (placed_below [] c.args.listed.packets.items c.requires.small) is)

pub invariant_of-result : goal.invariant_of-result
invariant_of-result g c =
    let extent = λ (file : List ℕ). c.extent_of-extent.ensures file ∙ ap (λ (es : List Placed). extent_of (kept_entries file es)) c.as_slice-packets.ensures.value in
    let none = ap (λ (es : List Placed). misuse_by es c.args.listed.timed c.args.additions.now c.extent_of-extent.result) (sym c.as_slice-packets.ensures.value) ∙ c.in_default.ensures in
    planned c.args.listed c.args.additions.now c.extent_of-extent.result c.times_of-times.result c.lowest-low.result c.requires.small extent none c.times_of-times.ensures c.lowest-low.ensures c.requires.text

pub returns-in-Err : goal.returns-in-Err
returns-in-Err g c file ps is listed =
    let extent = λ (file : List ℕ). c.extent_of-extent.ensures file ∙ ap (λ (es : List Placed). extent_of (kept_entries file es)) c.as_slice-packets.ensures.value in
    sym (misuse_same file ps c.args.listed c.args.additions.now c.extent_of-extent.result listed extent)
    ∙ ap (λ (es : List Placed). misuse_by es c.args.listed.timed c.args.additions.now c.extent_of-extent.result) (sym c.as_slice-packets.ensures.value)
    ∙ c.in-Err.ensures

pub returns : goal.returns
returns g c file ps is listed =
    let extent = λ (file : List ℕ). c.extent_of-extent.ensures file ∙ ap (λ (es : List Placed). extent_of (kept_entries file es)) c.as_slice-packets.ensures.value in (
      sym (misuse_same file ps c.args.listed c.args.additions.now c.extent_of-extent.result listed extent)
          ∙ ap (λ (es : List Placed). misuse_by es c.args.listed.timed c.args.additions.now c.extent_of-extent.result) (sym c.as_slice-packets.ensures.value)
          ∙ c.in_default.ensures,
      rw is (ap Some (plan_is file ps c.args.listed c.args.additions.now c.extent_of-extent.result c.times_of-times.result listed extent c.times_of-times.ensures)),
    )
