use Rattle.std.proofs.Common.{◌≡◌, true, eqb, eq-eqb, append_assoc}
use Rattle.bench_dump.specs.DumpText.{packet_contents}
use Rattle.bench_dump.proofs.lines.put_contents.Goals as goal

pub returns : goal.returns
unfolding packet_contents
returns c =
    let test : eqb c.args.packet.now.header.kind 25 ≡ true = eq-eqb c.args.packet.now.header.kind 25 c.if-packet-ne-BUS_MESSAGES.false in
    rw (test, c.in_ok-put-3.ensures, c.in_ok-put_number-2.ensures, c.in_ok-put-2.ensures, c.digits_of_byte.ensures, c.in_ok-put.ensures, c.in_ok-put_number.ensures) (simp append_assoc)
