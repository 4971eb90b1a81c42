use Rattle.std.proofs.Common.{ℕ, ◌/◌, ◌^◌, ◌∙◌, ap, sym}
use Rattle.std.proofs.lemmas.Nat.{and_mask}
use Rattle.mil_word.specs.Wave.{digits, number, first_halves}
use Rattle.mil_word.proofs.Parts.{raw_by_bytes}
use Rattle.mil_word.proofs.code.raw_in.Goals as goal

pub returns : goal.returns
returns c =
    let wave = c.args.half_bits in
    let at = λ (place : ℕ). ap (λ n. number (first_halves (digits 8 n))) (and_mask (wave / 2 ^ place) 8) in
    c.nibbles.ensures
    ∙ sym (raw_by_bytes wave c.firsts_of.result c.firsts_of-2.result c.firsts_of-3.result c.firsts_of-4.result (c.firsts_of.ensures.firsts ∙ at 26) (c.firsts_of-2.ensures.firsts ∙ at 18) (c.firsts_of-3.ensures.firsts ∙ at 10) (c.firsts_of-4.ensures.firsts ∙ at 2))
