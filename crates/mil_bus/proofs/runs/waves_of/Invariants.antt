use Rattle.std.proofs.Common.{◌≡◌, ◌≤◌, map, take, length}
use Rattle.mil_word.specs.Words.{command_wave}
use Rattle.mil_bus.proofs.runs.waves_of.Given as goal

abbrev pub invariant-loop-value : goal.invariant-loop-value
invariant-loop-value l = record {
  waves : l.waves ≡ map command_wave (take l.value-index l.commands);
  few : length l.commands ≤ 34;
}
