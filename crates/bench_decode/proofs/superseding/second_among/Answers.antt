use Rattle.std.proofs.Common.{◌≡◌, refl, arith}
use Rattle.ch11_layout.specs.Layouts.{commands_in}
use Rattle.bench_decode.specs.Superseding.{controller_words, second_among}
use Rattle.bench_decode.proofs.Seconds.{found_is, near_is}
use Rattle.bench_decode.proofs.superseding.second_among.Goals as goal

pub returns-clause-place : goal.returns-clause-place
unfolding second_among
returns-clause-place c =
    let m = c.args.view.now in
    let found = rw (c.command_count-from.ensures.many, c.from.ensures, c.controller_words.ensures) at c.first_answered.ensures in
    found_is m (commands_in m) (controller_words m) _ c.first_answered.result refl found

pub returns-clause-near : goal.returns-clause-near
returns-clause-near c = near_is c.args.view.now _ _ c.first_answered.result c.first_answered.ensures (omega (arith, c.command_count-from.ensures.few))
