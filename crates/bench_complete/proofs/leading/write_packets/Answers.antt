use Rattle.std.proofs.Common.{◌+◌, drop, sym, subst, ◌∙◌, arith}
use Rattle.std.proofs.lemmas.List.{drop_all}
use Rattle.bench_complete.proofs.Front.{HasWritten, all_written, next_written, next_left}
use Rattle.bench_complete.proofs.leading.write_packets.Goals as goal
use Rattle.bench_complete.proofs.leading.write_packets.Goals.{then-packet-ne-RECORDING_INDEX+in_ok-write_packet, else-packet-ne-RECORDING_INDEX}

pub packets-preserved : goal.packets-preserved
packets-preserved g c =
    let got = g.W.Write.contents c.args.out.now in
    let ps = c.args.packets.now in
    let i = c.packets.packet-index in
    elim c.if-packet-ne-RECORDING_INDEX.branch [
      | then-packet-ne-RECORDING_INDEX+in_ok-write_packet w ↦ record {
        stays = w.original-is ∙ w.write_packet.ensures.stays ∙ c.packets.invariant.stays;
        written = λ file is.
            subst (λ o. HasWritten file ps (drop (i + 1) ps) got (g.W.Write.contents o)) (sym w.out-is)
            (next_written file ps i got (g.W.Write.contents c.packets.out) (g.W.Write.contents w.write_packet.new.out) c.packets-test.true w.if-packet-ne-RECORDING_INDEX.true (c.packets.invariant.written file is)
            (w.in_ok-write_packet.ensures.written file (c.packets.invariant.stays ∙ is)));
      }
      | else-packet-ne-RECORDING_INDEX w ↦ record {
        stays = w.original-is ∙ c.packets.invariant.stays;
        written = λ file is.
            subst (λ o. HasWritten file ps (drop (i + 1) ps) got (g.W.Write.contents o)) (sym w.out-is)
            (next_left file ps i got (g.W.Write.contents c.packets.out) c.packets-test.true w.if-packet-ne-RECORDING_INDEX.false (c.packets.invariant.written file is));
      }
    ]

pub returns-clause-written : goal.returns-clause-written
returns-clause-written g c = λ file is.
    let got = g.W.Write.contents c.args.out.now in
    let gets = g.W.Write.contents c.packets.out in
    let ps = c.args.packets.now in
    let end = drop_all c.packets.packet-index ps (omega (arith, c.packets-test.false)) in
    all_written file ps got gets (subst (λ l. HasWritten file ps l got gets) end (c.packets.invariant.written file is))
