use Rattle.std.proofs.Common.{length, take, ap, arith, length-take}
use Rattle.std.proofs.lemmas.List.{length-map}
use Rattle.mil_word.specs.Words.{command_wave}
use Rattle.mil_bus.proofs.KeptRuns.{parts-length}
use Rattle.mil_bus.proofs.runs.waves_of.Goals as goal

pub loop-value-init : goal.loop-value-init
loop-value-init c = record {
  waves = c.none-waves.ensures;
  few = omega (arith, c.len-count.ensures.value, c.len-count.ensures.fits, ap length c.parts.ensures.commands, ap length c.parts.ensures.«data», parts-length c.args.values.now.commands c.args.values.now.words.items);
}

pub put_data-requires : goal.put_data-requires
put_data-requires c =
    let commands = c.parts.result.0.now in
    omega (
      arith,
      c.len-count.ensures.value,
      c.len-count.ensures.fits,
      ap length c.parts.ensures.commands,
      ap length c.parts.ensures.«data»,
      parts-length c.args.values.now.commands c.args.values.now.words.items,
      ap length c.loop-value.invariant.waves,
      length-map (take c.loop-value.value-index commands) command_wave,
      length-take c.loop-value.value-index commands,
    )
