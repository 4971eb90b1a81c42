use Rattle.std.proofs.Common.{◌∙◌, sym}
use Rattle.std.specs.Prelude.{true, false}
use Rattle.mil_word.specs.declared.Word.{Word}
use Rattle.mil_word.proofs.Reading.{found_is, word_of_is}
use Rattle.mil_tests.proofs.tests.plain.decode.Goals as goal

pub returns-then-is_wave_of-clause-read : goal.returns-then-is_wave_of-clause-read
returns-then-is_wave_of-clause-read c =
    let read : Word = record { sync = c.sync_of.result; value = c.raw_bits.result } in
    found_is c.args.wave read true c.sync_of.ensures.small c.sync_of.ensures.sync c.raw_bits.ensures (sym c.if-is_wave_of.true ∙ c.is_wave_of.ensures)

pub returns-else-is_wave_of-clause-read : goal.returns-else-is_wave_of-clause-read
returns-else-is_wave_of-clause-read c =
    let read : Word = record { sync = c.sync_of.result; value = c.raw_bits.result } in
    found_is c.args.wave read false c.sync_of.ensures.small c.sync_of.ensures.sync c.raw_bits.ensures (sym c.if-is_wave_of.false ∙ c.is_wave_of.ensures)

pub returns-then-is_wave_of-clause-sound : goal.returns-then-is_wave_of-clause-sound
returns-then-is_wave_of-clause-sound c = λ word small. word_of_is c.args.wave _ word c.sync_of.ensures.small (returns-then-is_wave_of-clause-read c) small

pub returns-else-is_wave_of-clause-sound : goal.returns-else-is_wave_of-clause-sound
returns-else-is_wave_of-clause-sound c = λ word small. word_of_is c.args.wave _ word c.sync_of.ensures.small (returns-else-is_wave_of-clause-read c) small
