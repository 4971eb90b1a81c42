-- Numbers, one behind the other.
use Rattle.std.proofs.Common.{◌≡◌, ℕ, List, [], ◌∷◌, length, sym, ap, ◌∙◌, arith}
use Rattle.std.specs.Prelude.{decimal}
use Rattle.bench_decode.specs.FormText.{numbers}
use Rattle.bench_decode.specs.Waiting.{Waiting, drawn_on, told}
use Rattle.bench_decode.proofs.Drawing.{on-none, on-text}

pub numbers-step : (w after : Waiting) (n : ℕ) (ns : List ℕ) → after ≡ told w (32 ∷ decimal n) → drawn_on after (numbers ns) ≡ drawn_on w (numbers (n ∷ ns))
unfolding numbers
numbers-step w after n ns is = ap (λ (x : Waiting). drawn_on x (numbers ns)) is ∙ sym (on-text w (32 ∷ decimal n) (numbers ns))

pub numbers-end : (w all : Waiting) (rest : List ℕ) → length rest ≡ 0 → drawn_on w (numbers rest) ≡ all → w ≡ all
unfolding numbers
numbers-end w all [] none is = sym (on-none w) ∙ is
numbers-end w all (n ∷ rest) none is = absurd (omega arith)
