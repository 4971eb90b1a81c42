use Rattle.std.proofs.Common.{◌≡◌, true, false, refl, sym, ◌∙◌}
use Rattle.bench_decode.specs.Superseding.{may_have_second, second_place}
use Rattle.bench_decode.proofs.superseding.second_command.Goals as goal

pub returns-then-may_have_second-clause-place : goal.returns-then-may_have_second-clause-place
unfolding second_place
returns-then-may_have_second-clause-place c =
    let is : may_have_second c.args.view.now ≡ true = sym c.may_have_second.ensures ∙ c.if-may_have_second.true in
    rw is c.second_among.ensures.place

pub returns-else-may_have_second-clause-place : goal.returns-else-may_have_second-clause-place
unfolding second_place
returns-else-may_have_second-clause-place c =
    let is : may_have_second c.args.view.now ≡ false = sym c.may_have_second.ensures ∙ c.if-may_have_second.false in
    rw is refl
