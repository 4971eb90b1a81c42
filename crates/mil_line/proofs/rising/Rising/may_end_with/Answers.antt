use Rattle.std.proofs.Common.{ℕ, ◌≤◌, subst, sym}
use Rattle.std.specs.Prelude.{All}
use Rattle.mil_line.specs.StandsFor.{IsBehind}
use Rattle.mil_line.proofs.Beside.{all_behind, behind_all}
use Rattle.mil_line.proofs.rising.Rising.may_end_with.Goals as goal

pub returns : goal.returns
returns c =
    let ns = c.self.inside.numbers.items in
    let fs = c.self.inside.faults.items in
    let n = c.args.number in (
      λ is. subst (IsBehind n) c.self.view_is (behind_all ns fs n c.self.invariant.beside (subst (All (λ (k : ℕ). k ≤ n)) c.as_slice.ensures.value (c.is_behind.ensures.0 is))),
      λ all. c.is_behind.ensures.1 (subst (All (λ (k : ℕ). k ≤ n)) (sym c.as_slice.ensures.value) (all_behind ns fs n c.self.invariant.beside (subst (IsBehind n) (sym c.self.view_is) all))),
    )
