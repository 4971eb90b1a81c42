use Rattle.std.proofs.Common.{◌≡◌, ℕ, List, [], ◌∷◌, ◌++◌, ap, subst, sym, ◌∙◌}
use Rattle.std.specs.List.{zip}
use Rattle.mil_line.specs.declared.faults.Fault.{Fault}
use Rattle.mil_line.specs.Plans.{Planned}
use Rattle.mil_line.specs.StandsFor.{AreRising, IsBehind}
use Rattle.mil_line.proofs.Beside.{rising_push, zip_push}
use Rattle.mil_line.proofs.rising.Rising.push.Goals as goal

pub invariant_of-self-2 : goal.invariant_of-self-2
invariant_of-self-2 c =
    let ns = c.self.inside.numbers.items in
    let fs = c.self.inside.faults.items in
    let n = c.args.number in
    let behind : IsBehind n (zip ns fs) = subst (IsBehind n) (sym c.self.view_is) c.requires in
    let numbers : c.push_reserved.new.self.items ≡ ns ++ n ∷ [] = cc in
    let faults : c.push_reserved-2.new.self.items ≡ fs ++ c.args.fault ∷ [] = cc in
    subst (λ (xs : List ℕ). AreRising xs c.push_reserved-2.new.self.items) (sym numbers)
    (subst (λ (ys : List Fault). AreRising (ns ++ n ∷ []) ys) (sym faults) (rising_push ns fs n c.args.fault c.self.invariant behind))

pub returns-clause-ok : goal.returns-clause-ok
returns-clause-ok c =
    let ns = c.self.inside.numbers.items in
    let fs = c.self.inside.faults.items in
    let n = c.args.number in
    let numbers : c.push_reserved.new.self.items ≡ ns ++ n ∷ [] = cc in
    let faults : c.push_reserved-2.new.self.items ≡ fs ++ c.args.fault ∷ [] = cc in
    ap (λ (xs : List ℕ). zip xs c.push_reserved-2.new.self.items) numbers
    ∙ ap (λ (ys : List Fault). zip (ns ++ n ∷ []) ys) faults
    ∙ zip_push ns fs n c.args.fault c.self.invariant.beside
    ∙ ap (λ (ps : List Planned). ps ++ (n, c.args.fault) ∷ []) c.self.view_is
