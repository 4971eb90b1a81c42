use Rattle.std.proofs.Common.{◌≡◌, ◌+◌, ◌*◌, ◌^◌, ◌≤◌}
use Rattle.mil_word.specs.Wave.{number, wave_of}
use Rattle.mil_word.proofs.Digits.{rest}
use Rattle.mil_tests.proofs.tests.plain.encode.Given as goal

-- what is spelled so far and the pairs to come are the wave
abbrev pub invariant-loop-place : goal.invariant-loop-place
invariant-loop-place l = record {
  wave : wave_of l.word ≡ l.half_bits * 2 ^ (2 * l.place + 2) + number (rest l.place l.word.value l.ones);
  few : l.ones + l.place ≤ 16;
}
