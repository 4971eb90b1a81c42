use Rattle.std.proofs.Common.{◌≡◌, ◌+◌, ◌*◌, length, sym, ap, ◌∙◌, List, ℕ, arith}
use Rattle.bench_decode.specs.FormText.{numbers}
use Rattle.bench_decode.specs.Waiting.{drawn_on}
use Rattle.bench_decode.proofs.Numbered.{numbers-end, numbers-step}
use Rattle.bench_decode.proofs.fields.put_numbers.Goals as goal

pub numbers-preserved : goal.numbers-preserved
numbers-preserved c = record {
  put = numbers-step c.numbers.line c.put_small.new.self c.in-Some.number.now c.in-Some.others.now c.put_small.ensures.put ∙ ap (λ (l : List ℕ). drawn_on c.numbers.line (numbers l)) (sym c.in-Some.ensures.cases.0) ∙ c.numbers.invariant.put;
  few = omega (arith, c.numbers.invariant.few, c.put_small.ensures.few, c.in-Some.ensures.cases.1);
}

pub returns-clause-put : goal.returns-clause-put
returns-clause-put c = numbers-end c.numbers.line _ c.numbers.rest.now c.in_default.ensures.cases c.numbers.invariant.put
