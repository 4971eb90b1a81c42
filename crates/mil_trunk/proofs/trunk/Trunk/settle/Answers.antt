use Rattle.std.proofs.Common.{ap}
use Rattle.mil_trunk.proofs.Steps.{pops, agrees, after_pop}
use Rattle.mil_trunk.proofs.Parts.{gathering, parting_ends}
use Rattle.mil_trunk.proofs.trunk.Trunk.settle.Goals as goal

pub absorb-requires-clause-rule : goal.absorb-requires-clause-rule
absorb-requires-clause-rule g c =
    let ticket = c.requires.ends.0.1 in
    let taker = c.requires.ends.1.1 in
    gathering g.T.Tagged.tag_of _ _ _ _ (ap (λ v. v.live) ticket) (ap (λ v. v.live) taker) (ap (λ v. v.takes) taker)

pub pop_as-taken-requires-clause-rule : goal.pop_as-taken-requires-clause-rule
pop_as-taken-requires-clause-rule g c =
    let live = ap (λ v. v.live) c.absorb.ensures.rule in
    let takes = ap (λ v. v.takes) c.absorb.ensures.rule in
    (pops g.T.Tagged.tag_of _ _ live takes, agrees g.T.Tagged.tag_of _ _ live takes)

pub another-end-requires-clause-rule : goal.another-end-requires-clause-rule
another-end-requires-clause-rule g c =
    let live = ap (λ v. v.live) c.absorb.ensures.rule in
    let takes = ap (λ v. v.takes) c.absorb.ensures.rule in
    let both = after_pop _ c.pop_as-taken.result _ _ c.pop_as-taken.ensures.rule live takes in
    parting_ends g.T.Tagged.tag_of _ _ both.0 both.1
