use Rattle.std.proofs.Common.{ℕ, ◌-◌, ◌<◌, ◌^◌, List, length, drop, get_or, ap, subst, sym, ◌∙◌, arith}
use Rattle.std.proofs.lemmas.List.{length-drop, take_all}
use Rattle.std.specs.Io.KnownBytes.{Appends}
use Rattle.ch11_header.specs.declared.header.Header.{Header}
use Rattle.ch11_header.specs.HeaderBytes.{header_bytes}
use Rattle.bench_cut.specs.Packets.{part_read}
use Rattle.bench_cut.proofs.Known.{known}
use Rattle.bench_cut.proofs.Writing.{kept_written}
use Rattle.bench_cut.proofs.cutting.Crossing.write_kept.Goals as goal

pub write_head-requires : goal.write_head-requires
write_head-requires g c =
    let k = known c.args.self.now.packets.now c.args.self.now.packet.now c.requires.read (λ k. omega (arith, c.type_inv.bytes k, ap (λ (xs : List ℕ). get_or xs k 0) c.bytes-bytes.ensures)) in
    subst (λ (h : Header). h.counter < 2 ^ 48) (sym c.header_behind.ensures) k.lawful.fits.counter

pub slice_bounds-write_all-count : goal.slice_bounds-write_all-count
slice_bounds-write_all-count g c =
    let k = known c.args.self.now.packets.now c.args.self.now.packet.now c.requires.read (λ k. omega (arith, c.type_inv.bytes k, ap (λ (xs : List ℕ). get_or xs k 0) c.bytes-bytes.ensures)) in
    omega (arith, k.room.least, c.requires.read.size, ap length c.bytes-bytes.ensures)

pub slice_bounds-write_all-start : goal.slice_bounds-write_all-start
slice_bounds-write_all-start g c =
    let k = known c.args.self.now.packets.now c.args.self.now.packet.now c.requires.read (λ k. omega (arith, c.type_inv.bytes k, ap (λ (xs : List ℕ). get_or xs k 0) c.bytes-bytes.ensures)) in
    omega (arith, k.room.least, c.requires.read.size, ap length c.bytes-bytes.ensures)

pub returns : goal.returns
returns g c =
    kept_written c.args.self.now.loss (part_read c.args.self.now.selection.now c.args.self.now.packets.now c.args.self.now.packet.now) (g.W.Write.contents c.args.out.now) (g.W.Write.contents c.write_head.new.out) _ c.requires.all
    (subst (Appends _ _) (ap header_bytes c.header_behind.ensures) c.in_ok-write_head.ensures) (subst (Appends _ _) (take_all (length c.bytes-bytes.result.now - 24) (drop 24 c.bytes-bytes.result.now) (omega (arith, length-drop 24 c.bytes-bytes.result.now)) ∙ ap (drop 24) c.bytes-bytes.ensures) c.in_ok-write_all.ensures.bytes)
