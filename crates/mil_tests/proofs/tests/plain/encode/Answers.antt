use Rattle.std.proofs.Common.{◌-◌, sym, ◌∙◌, ap, arith}
use Rattle.mil_word.specs.Wave.{number, sync_halves}
use Rattle.mil_word.proofs.WaveLemmas.{command_sync, data_sync, wave_below}
use Rattle.mil_tests.proofs.BitByBit.{first_pair, whole_wave, one_more_of, room}
use Rattle.mil_tests.proofs.tests.plain.encode.Goals as goal
use Rattle.mil_tests.proofs.tests.plain.encode.Goals.{in-CommandSync, in-DataSync}

pub loop-place-init : goal.loop-place-init
loop-place-init c = record { wave = elim c.match-word.branch [ in-CommandSync w ↦ first_pair c.args.word c.match-word.half_bits (w.half_bits-is ∙ command_sync ∙ sym (ap (λ s. number (sync_halves s)) w.in-CommandSync.is)) | in-DataSync w ↦ first_pair c.args.word c.match-word.half_bits (w.half_bits-is ∙ data_sync ∙ sym (ap (λ s. number (sync_halves s)) w.in-DataSync.is)) ]; few = omega arith }

pub with_pair-half_bits-requires-clause-room : goal.with_pair-half_bits-requires-clause-room
with_pair-half_bits-requires-clause-room c = room c.loop-place.place c.loop-place.half_bits _ _ c.loop-place.invariant.wave (wave_below c.args.word)

pub with_pair-half_bits-requires-2-clause-room : goal.with_pair-half_bits-requires-2-clause-room
with_pair-half_bits-requires-2-clause-room c = room c.loop-place.place c.loop-place.half_bits _ _ c.loop-place.invariant.wave (wave_below c.args.word)

pub loop-place-preserved : goal.loop-place-preserved
loop-place-preserved c = record {
  wave = one_more_of c.loop-place.place (c.loop-place.place - 1) c.args.word.value c.loop-place.ones c.loop-place.half_bits c.bit_at-bit.result c.with_pair-half_bits.result _ (omega arith) c.bit_at-bit.ensures c.with_pair-half_bits.ensures c.loop-place.invariant.wave;
  few = omega arith;
}

pub of-requires : goal.of-requires
of-requires c = omega (arith, whole_wave c.loop-place.place c.args.word.value c.loop-place.ones c.loop-place.half_bits _ c.loop-place-test.false c.loop-place.invariant.wave, wave_below c.args.word)

pub returns : goal.returns
returns c = c.of.ensures ∙ c.with_pair-half_bits-2.ensures ∙ whole_wave c.loop-place.place c.args.word.value c.loop-place.ones c.loop-place.half_bits _ c.loop-place-test.false c.loop-place.invariant.wave
