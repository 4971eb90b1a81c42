use Rattle.std.proofs.Common.{ℕ, ◌+◌, ◌<◌, ◌≤◌, ◌^◌, List, length, get_or, ap, subst, sym, ◌∙◌, arith}
use Rattle.std.specs.Io.KnownBytes.{Appends}
use Rattle.std.proofs.lemmas.Result.{on_ok_weaker}
use Rattle.ch11_f1.specs.BodyReading.{Message}
use Rattle.ch11_header.specs.declared.header.Header.{Header}
use Rattle.ch11_header.specs.HeaderBytes.{header_bytes}
use Rattle.ch11_layout.specs.Stamps.{kind_of}
use Rattle.bench_cut.specs.declared.choosing.Chosen.{Chosen}
use Rattle.bench_cut.specs.Chosen.{what_of}
use Rattle.bench_cut.specs.Heads.{header_for}
use Rattle.bench_cut.specs.Packets.{part_read}
use Rattle.bench_cut.specs.Parts.{chosen_among}
use Rattle.bench_cut.specs.Short.{AreShort}
use Rattle.bench_cut.proofs.Known.{is_less}
use Rattle.bench_cut.proofs.Writing.{lost_written}
use Rattle.bench_cut.proofs.cutting.Crossing.write_lost.Goals as goal

pub header_with-requires-clause-fewer : goal.header_with-requires-clause-fewer
header_with-requires-clause-fewer g c =
    let less = is_less c.args.self.now.selection.now c.args.self.now.packets.now c.args.self.now.packet.now c.requires.read (λ k. omega (arith, c.type_inv.bytes k, ap (λ (xs : List ℕ). get_or xs k 0) c.bytes-bytes.ensures)) c.requires.some in
    subst (λ (x : Chosen). x.size + 18 ≤ c.args.self.now.packet.now.header.data_length) (sym c.requires.what) less.size

pub header_with-requires-clause-room : goal.header_with-requires-clause-room
header_with-requires-clause-room g c =
    let less = is_less c.args.self.now.selection.now c.args.self.now.packets.now c.args.self.now.packet.now c.requires.read (λ k. omega (arith, c.type_inv.bytes k, ap (λ (xs : List ℕ). get_or xs k 0) c.bytes-bytes.ensures)) c.requires.some in less.room

pub write_head-requires : goal.write_head-requires
write_head-requires g c =
    let less = is_less c.args.self.now.selection.now c.args.self.now.packets.now c.args.self.now.packet.now c.requires.read (λ k. omega (arith, c.type_inv.bytes k, ap (λ (xs : List ℕ). get_or xs k 0) c.bytes-bytes.ensures)) c.requires.some in
    let part = part_read c.args.self.now.selection.now c.args.self.now.packets.now c.args.self.now.packet.now in
    subst (λ (h : Header). h.counter < 2 ^ 48) (sym (c.header_behind.ensures ∙ ap (header_for c.args.self.now.loss) (c.header_with.ensures part.chosen c.requires.what))) less.counter

pub write_body-requires : goal.write_body-requires
write_body-requires g c =
    let less = is_less c.args.self.now.selection.now c.args.self.now.packets.now c.args.self.now.packet.now c.requires.read (λ k. omega (arith, c.type_inv.bytes k, ap (λ (xs : List ℕ). get_or xs k 0) c.bytes-bytes.ensures)) c.requires.some in record {
      few = omega (arith, c.requires.read.few, ap length c.messages-messages.ensures);
      short = subst AreShort (sym c.messages-messages.ensures) less.short;
      counted = subst (λ (x : Chosen). x.count < 2 ^ 24) (sym c.requires.what) less.few;
      small = subst (λ (x : Chosen). x.size + 4 < 2 ^ 64) (sym c.requires.what) less.small;
      body = omega (arith, less.body, ap length c.bytes-bytes.ensures);
      what = c.requires.what ∙ ap (λ (ms : List Message). what_of (chosen_among c.args.self.now.selection.now (kind_of c.args.self.now.packet.now.header) c.args.self.now.packet.now.before c.args.self.now.packet.now.header.channel ms)) (sym c.messages-messages.ensures);
    }

pub returns : goal.returns
returns g c =
    let part = part_read c.args.self.now.selection.now c.args.self.now.packets.now c.args.self.now.packet.now in
    let head = c.header_behind.ensures ∙ ap (header_for c.args.self.now.loss) (c.header_with.ensures part.chosen c.requires.what) in
    let rest = rw (c.bytes-bytes.ensures, c.messages-messages.ensures) at c.write_body.ensures in
    on_ok_weaker c.write_body.result
    (lost_written c.args.self.now.loss part (g.W.Write.contents c.args.out.now) (g.W.Write.contents c.write_head.new.out) (g.W.Write.contents c.write_body.new.out) c.requires.some (subst (Appends _ _) (ap header_bytes head) c.in_ok-write_head.ensures)) rest
