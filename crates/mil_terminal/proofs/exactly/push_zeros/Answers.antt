use Rattle.std.proofs.Common.{◌≡◌, ℕ, ◌≤◌, ◌++◌, length, take, replicate, ap, ◌∙◌, arith}
use Rattle.std.proofs.lemmas.List.{length-replicate}
use Rattle.mil_terminal.proofs.SlotLemmas.{take_same, where_ok}
use Rattle.mil_terminal.proofs.exactly.push_zeros.Goals as goal

pub returns : goal.returns
returns g c =
    let z : ℕ = 0 in
    let is : take c.args.count (replicate 33 z) ≡ replicate c.args.count z = take_same z c.args.count c.requires.few in
    let long : length (take c.args.count (replicate 33 z)) ≡ c.args.count = ap length is ∙ length-replicate c.args.count z in
    where_ok c.try_extend_from_slice.result _ (c.try_extend_from_slice.ensures.variant.1 (omega (arith, long, c.requires.room))) c.try_extend_from_slice.ensures.ok ∙ ap (λ ws. c.args.words.now.items ++ ws) is
