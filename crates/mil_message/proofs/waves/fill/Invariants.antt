use Rattle.std.proofs.Common.{◌≡◌, length, map, take}
use Rattle.mil_word.specs.Words.{data_wave}
use Rattle.mil_message.proofs.waves.fill.Given as goal

abbrev pub invariant-loop-i : goal.invariant-loop-i
invariant-loop-i l = record {
  filled : take l.i l.room ≡ map data_wave (take l.i l.values);
  places : length l.room ≡ length l.values;
}
