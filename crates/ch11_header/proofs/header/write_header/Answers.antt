use Rattle.std.proofs.Common.{refl}
use Rattle.ch11_header.specs.HeaderBytes.{header_bytes, summed_bytes, header_sum, word_sum}
use Rattle.ch11_header.proofs.header.write_header.Goals as goal

pub returns : goal.returns
unfolding header_bytes summed_bytes header_sum word_sum
returns c = rw (c.write_u16-3.ensures, c.sum_of_words-sum.ensures, c.write_u48.ensures, c.write_u32-2.ensures, c.write_u32.ensures, c.write_u16-2.ensures, c.write_u16.ensures) refl
