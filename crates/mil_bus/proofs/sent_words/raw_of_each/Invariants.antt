use Rattle.std.proofs.Common.{◌≡◌, ◌≤◌, map, take, length}
use Rattle.mil_word.specs.Wave.{raw_of}
use Rattle.mil_bus.specs.declared.talks.Sent.{Sent}
use Rattle.mil_bus.proofs.sent_words.raw_of_each.Given as goal

abbrev pub invariant-loop-word : goal.invariant-loop-word
invariant-loop-word l = record {
  words : l.words.items ≡ map (λ (w : Sent). raw_of w.wave) (take l.word-index l.sent);
  few : length l.sent ≤ 40;
}
