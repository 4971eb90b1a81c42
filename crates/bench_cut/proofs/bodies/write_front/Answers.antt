use Rattle.std.proofs.Common.{ℕ, ◌+◌, ◌++◌, List, ap, subst, ◌∙◌}
use Rattle.std.specs.Prelude.{slice_index, slice_range}
use Rattle.std.specs.Io.KnownBytes.{Appends}
use Rattle.byteorder.specs.Endian.{little_bytes}
use Rattle.ch11_header.specs.HeaderReading.{body_start}
use Rattle.bench_complete.proofs.Running.{appends_both}
use Rattle.bench_cut.specs.Cut.{one}
use Rattle.bench_cut.proofs.bodies.write_front.Goals as goal

pub returns : goal.returns
returns g c =
    let bytes : List ℕ = c.args.bytes.now in
    let start : ℕ = body_start c.args.packet.now.header in
    let old = g.W.Write.contents c.args.out.now in
    let mid = g.W.Write.contents c.write_all.new.self in
    let new = g.W.Write.contents c.write_all-2.new.self in
    appends_both old mid new (slice_range bytes 24 start) (little_bytes 3 c.args.count ++ one (slice_index bytes (start + 3)))
    (subst (λ (n : ℕ). Appends old mid (slice_range bytes 24 n)) c.body_start-start.ensures c.in_ok-write_all.ensures.bytes)
    (subst (λ (l : List ℕ). Appends mid new l) (c.word_of.ensures ∙ ap (λ (n : ℕ). little_bytes 3 c.args.count ++ one (slice_index bytes (n + 3))) c.body_start-start.ensures) c.in_ok-write_all-2.ensures.bytes)
