use Rattle.std.proofs.Common.{ℕ, ◌<◌, ◌^◌, List, length, get_or, ap, subst, sym, ◌∙◌, arith}
use Rattle.ch11_f1.specs.BodyReading.{Message}
use Rattle.ch11_layout.specs.Stamps.{kind_of}
use Rattle.bench_cut.specs.Chosen.{what_of}
use Rattle.bench_cut.specs.Cut.{sizes_of}
use Rattle.bench_cut.specs.Parts.{chosen_among}
use Rattle.bench_cut.proofs.Known.{known, sizes_small}
use Rattle.bench_cut.proofs.cutting.choose_of.Goals as goal

pub choose-chosen-requires-clause-few : goal.choose-chosen-requires-clause-few
choose-chosen-requires-clause-few g c = omega (arith, c.requires.few, ap length c.messages.ensures)

pub choose-chosen-requires-clause-small : goal.choose-chosen-requires-clause-small
choose-chosen-requires-clause-small g c =
    subst (λ (ms : List Message). sizes_of ms < 2 ^ 64) (sym c.messages.ensures)
    (sizes_small c.args.packets.now c.args.packet.now (known c.args.packets.now c.args.packet.now c.requires (λ k. omega (arith, c.type_inv.bytes k, ap (λ (xs : List ℕ). get_or xs k 0) c.bytes-bytes.ensures))))

pub returns : goal.returns
returns g c = c.choose-chosen.ensures ∙ ap (λ (ms : List Message). what_of (chosen_among c.args.selection.now (kind_of c.args.packet.now.header) c.args.packet.now.before c.args.packet.now.header.channel ms)) c.messages.ensures
