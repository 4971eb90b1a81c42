use Rattle.std.proofs.Common.{arith, refl, sym}
use Rattle.mil_word.proofs.Keeping.{raw_kept}
use Rattle.mil_word.proofs.code.raw_bits.Goals as goal

pub returns-in-Some : goal.returns-in-Some
returns-in-Some c = sym (raw_kept c.args.wave c.in-Some.word ((c.in-Some.ensures.sound c.in-Some.word (omega arith)).0 refl) (omega arith))
