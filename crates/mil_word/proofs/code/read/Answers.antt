use Rattle.std.proofs.Common.{◌∙◌, sym}
use Rattle.std.specs.Prelude.{true, false}
use Rattle.std.proofs.lemmas.Bool.{eq-eqb, ne_eqb}
use Rattle.mil_word.specs.declared.Word.{Word}
use Rattle.mil_word.specs.Wave.{wave_of}
use Rattle.mil_word.proofs.Reading.{found_is}
use Rattle.mil_word.proofs.code.read.Goals as goal

pub returns-then-half_bits_of-half_bits : goal.returns-then-half_bits_of-half_bits
returns-then-half_bits_of-half_bits c =
    let read : Word = record { sync = c.sync_of.result; value = c.raw_in.result } in
    found_is c.args.half_bits read true c.requires c.sync_of.ensures c.raw_in.ensures (sym (eq-eqb (wave_of read) c.args.half_bits (sym c.half_bits_of.ensures.value ∙ c.if-half_bits_of-half_bits.true)))

pub returns-else-half_bits_of-half_bits : goal.returns-else-half_bits_of-half_bits
returns-else-half_bits_of-half_bits c =
    let read : Word = record { sync = c.sync_of.result; value = c.raw_in.result } in
    found_is c.args.half_bits read false c.requires c.sync_of.ensures c.raw_in.ensures (sym (ne_eqb (wave_of read) c.args.half_bits (λ e. c.if-half_bits_of-half_bits.false (c.half_bits_of.ensures.value ∙ e))))
