use Rattle.std.proofs.Common.{◌≡◌, ◌+◌, ◌*◌, ◌≤◌, length}
use Rattle.bench_decode.specs.FormText.{numbers}
use Rattle.bench_decode.specs.Waiting.{drawn_on}
use Rattle.bench_decode.proofs.fields.put_numbers.Given as goal

abbrev pub invariant-numbers : goal.invariant-numbers
invariant-numbers l = record {
  put : drawn_on l.line (numbers l.rest) ≡ drawn_on l.fn.line (numbers l.fn.numbers);
  few : length l.line.text + 21 * length l.rest ≤ length l.fn.line.text + 21 * length l.fn.numbers;
}

abbrev pub decreases-numbers : goal.decreases-numbers
decreases-numbers l = length l.rest
