use Rattle.std.proofs.Common.{arith, ◌∙◌}
use Rattle.ch11_builder.proofs.SealedBytes.{sealed_packet}
use Rattle.ch11_builder.proofs.sealing.seal.Goals as goal

pub returns-clause-bytes : goal.returns-clause-bytes
returns-clause-bytes c =
    sealed_packet c.args.header.now c.args.count c.args.used c.padded-end.result c.args.buffer.now c.copy_from_slice.new.self c.write_u32.new.buf c.copy_from_slice-2.new.self
    (c.copy_from_slice.ensures.after ∙ c.write_header.ensures) c.requires.head c.padded-end.ensures (omega (arith, c.padded-end.ensures, c.requires.room)) c.write_u32.ensures c.copy_from_slice-2.ensures.after
