use Rattle.std.proofs.Common.{◌≡◌, ℕ, ◌<◌, true, false, set, refl, sym, ap, ◌∙◌, rules, arith}
use Rattle.bench_cut.specs.declared.choosing.Chosen.{Chosen}
use Rattle.bench_cut.specs.declared.losses.ChannelLoss.{ChannelLoss}
use Rattle.bench_cut.specs.Losses.{loss_left_out}
use Rattle.bench_cut.specs.Packets.{part_read}
use Rattle.bench_cut.specs.Parts.{Part, goes_over}
use Rattle.bench_cut.proofs.Going.{out_on, out_written, over_on, over_written}
use Rattle.bench_cut.proofs.cutting.cut_packet.Goals as goal

pub returns-then-not-goes_over-clause-losses : goal.returns-then-not-goes_over-clause-losses
returns-then-not-goes_over-clause-losses g c earlier are =
    let p : Part = part_read c.args.selection.now c.args.packets.now c.args.packet.now in
    let small : c.args.packet.now.header.channel < 65536 = omega (arith, c.from-place.ensures) in
    let test : c.goes_over.result ≡ false = search rules in
    let over : goes_over p ≡ false = sym (c.goes_over.ensures p refl c.requires.read.count (ap (λ (x : Chosen). x.count) c.choose_of-chosen.ensures)) ∙ test in
    out_on p earlier c.args.losses.now (set c.args.losses.now c.from-place.result c.left_out.result) c.loss_at-loss.result small c.requires.channels c.loss_at-loss.ensures are over
    (ap (λ (k : ℕ). set c.args.losses.now k c.left_out.result) c.from-place.ensures ∙ ap (λ (l : ChannelLoss). set c.args.losses.now c.args.packet.now.header.channel l) (c.left_out.ensures ∙ ap (loss_left_out c.loss_at-loss.result) c.has_overflow.ensures))

pub returns-then-not-goes_over-clause-written : goal.returns-then-not-goes_over-clause-written
returns-then-not-goes_over-clause-written g c earlier are =
    let p : Part = part_read c.args.selection.now c.args.packets.now c.args.packet.now in
    let test : c.goes_over.result ≡ false = search rules in
    let over : goes_over p ≡ false = sym (c.goes_over.ensures p refl c.requires.read.count (ap (λ (x : Chosen). x.count) c.choose_of-chosen.ensures)) ∙ test in
    out_written p earlier (g.W.Write.contents c.args.out.now) over

pub returns-clause-losses : goal.returns-clause-losses
returns-clause-losses g c earlier are =
    let p : Part = part_read c.args.selection.now c.args.packets.now c.args.packet.now in
    let small : c.args.packet.now.header.channel < 65536 = omega (arith, c.from-place.ensures) in
    let test : c.goes_over.result ≡ true = search rules in
    let over : goes_over p ≡ true = sym (c.goes_over.ensures p refl c.requires.read.count (ap (λ (x : Chosen). x.count) c.choose_of-chosen.ensures)) ∙ test in
    over_on p earlier c.args.losses.now (set c.args.losses.now c.from-place.result c.over.result) c.loss_at-loss.result small c.requires.channels c.loss_at-loss.ensures are over
    (ap (λ (k : ℕ). set c.args.losses.now k c.over.result) c.from-place.ensures ∙ ap (λ (l : ChannelLoss). set c.args.losses.now c.args.packet.now.header.channel l) c.over.ensures)

pub returns-clause-written : goal.returns-clause-written
returns-clause-written g c earlier are =
    let p : Part = part_read c.args.selection.now c.args.packets.now c.args.packet.now in
    let small : c.args.packet.now.header.channel < 65536 = omega (arith, c.from-place.ensures) in
    let test : c.goes_over.result ≡ true = search rules in
    let over : goes_over p ≡ true = sym (c.goes_over.ensures p refl c.requires.read.count (ap (λ (x : Chosen). x.count) c.choose_of-chosen.ensures)) ∙ test in
    over_written p earlier c.args.losses.now (set c.args.losses.now c.from-place.result c.over.result) c.loss_at-loss.result small c.requires.channels c.loss_at-loss.ensures are (g.W.Write.contents c.args.out.now) (g.W.Write.contents c.write_packet.new.out) over c.in_ok-write_packet.ensures
