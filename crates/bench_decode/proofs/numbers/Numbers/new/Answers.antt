use Rattle.std.proofs.Common.{ℕ, List, length, get_or, ap, ◌∙◌}
use Rattle.std.proofs.lemmas.List.{get_or-replicate, length-replicate}
use Rattle.bench_decode.proofs.numbers.Numbers.new.Goals as goal

pub returns : goal.returns
returns c =
    let zeros = c.in_ok-vec.ensures.items_if_clones_equal (λ x h. h) in
    record {
      many = ap (λ (xs : List ℕ). length xs) zeros ∙ length-replicate {A = ℕ} 65536 0;
      each = λ channel below. ap (λ (xs : List ℕ). get_or xs channel 0) zeros ∙ get_or-replicate 65536 channel 0 0 below;
    }
