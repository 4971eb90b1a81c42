use Rattle.std.proofs.Common.{◌≡◌, ◌+◌, length}
use Rattle.bench_judge.specs.Checks as spec
use Rattle.bench_judge.proofs.checks.words_agree.Given as goal

-- the words so far agree
abbrev pub invariant-words : goal.invariant-words
invariant-words l = record {
  counted : l.next + length l.rest ≡ l.place + length l.wanted;
  left : spec.words_agree l.view.bytes l.next l.rest ≡ spec.words_agree l.view.bytes l.place l.wanted;
}

abbrev pub decreases-words : goal.decreases-words
decreases-words l = length l.rest
