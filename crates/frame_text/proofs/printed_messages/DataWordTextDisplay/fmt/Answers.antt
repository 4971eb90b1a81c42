use Rattle.std.proofs.Common.{◌<◌, ◌/◌, ◌%◌, true, arith}
use Rattle.std.proofs.lemmas.Fmt.{hex_byte}
use Rattle.frame_text.proofs.printed_messages.DataWordTextDisplay.fmt.Goals as goal

pub returns-clause-writes : goal.returns-clause-writes
returns-clause-writes g c =
    let high : c.args.self.now.0 / 256 < 256 = omega arith in
    let low : c.args.self.now.0 % 256 < 256 = omega arith in
    let written = rw (c.laid_out.ensures, c.laid_out-2.ensures, c.in_radix.ensures, c.in_radix-2.ensures) at c.write.ensures.writes in
    rw (hex_byte true (c.args.self.now.0 / 256) high, hex_byte true (c.args.self.now.0 % 256) low) at written
