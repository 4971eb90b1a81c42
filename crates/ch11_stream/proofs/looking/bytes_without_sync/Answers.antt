use Rattle.std.proofs.Common.{◌≡◌, ◌<◌, ◌+◌, get_or, arith}
use Rattle.ch11_stream.proofs.Fronts.{one_quiet}
use Rattle.ch11_stream.proofs.looking.bytes_without_sync.Goals.{else-bytes-count-eq37-via-then-bytes-count-eq37+else-bytes-count, else-bytes-count-eq37-via-else-bytes-count-eq37}
use Rattle.ch11_stream.proofs.looking.bytes_without_sync.Goals as goal

pub bytes-preserved : goal.bytes-preserved
bytes-preserved c =
    let bytes = c.args.bytes.now in
    let count = c.bytes.count in
    let low : get_or bytes count 0 < 256 = omega (arith, c.type_inv.bytes count) in
    let high : get_or bytes (count + 1) 0 < 256 = omega (arith, c.type_inv.bytes (count + 1)) in
    let apart : get_or bytes count 0 ≡ 0x25 → get_or bytes (count + 1) 0 ≡ 0xEB → ⊥ =
    elim c.else-bytes-count-eq37.branch [
      | else-bytes-count-eq37-via-then-bytes-count-eq37+else-bytes-count w ↦ λ x y. omega (arith, y, w.if-bytes-count.false)
      | else-bytes-count-eq37-via-else-bytes-count-eq37 w ↦ λ x y. omega (arith, x, w.if-bytes-count-eq37.false)
    ] in
    record {
      within = omega (arith, c.bytes-test.true);
      quiet = λ others. omega (arith, c.bytes.invariant.quiet others, one_quiet bytes others count c.bytes-test.true low high apart);
    }
