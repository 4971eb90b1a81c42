use Rattle.std.proofs.Common.{◌≡◌, ℕ, ◌+◌, List, length, ap, subst, ◌∙◌}
use Rattle.std.specs.Io.KnownBytes.{Appends}
use Rattle.std.proofs.lemmas.Result.{on_ok_weaker}
use Rattle.ch11_f1.specs.BodyReading.{Message}
use Rattle.ch11_layout.specs.Stamps.{kind_of}
use Rattle.bench_complete.specs.SetupRecord.{filler_for}
use Rattle.bench_cut.specs.declared.choosing.Chosen.{Chosen}
use Rattle.bench_cut.specs.Cut.{bytes_of_messages, filler, front_with, sizes_of}
use Rattle.bench_cut.specs.Parts.{chosen_among}
use Rattle.bench_cut.proofs.Writing.{three_parts}
use Rattle.bench_cut.proofs.bodies.write_body.Goals as goal

pub returns : goal.returns
returns g c =
    let h = c.args.packet.now.header in
    let ms : List Message = chosen_among c.args.selection.now (kind_of h) c.args.packet.now.before h.channel c.args.messages in
    let count : c.filler_for.result ≡ filler_for (4 + sizes_of ms) = c.filler_for.ensures ∙ ap (λ (x : Chosen). filler_for (4 + x.size)) c.requires.what in
    let old = g.W.Write.contents c.args.out.now in
    let one = g.W.Write.contents c.write_front.new.out in
    let two = g.W.Write.contents c.write_chosen.new.out in
    let new = g.W.Write.contents c.write_filler.new.out in
    let first : Appends old one (front_with h c.args.bytes.now (length ms)) = subst (λ (x : Chosen). Appends old one (front_with h c.args.bytes.now x.count)) c.requires.what c.in_ok-write_front.ensures in
    on_ok_weaker c.write_filler.result
    (λ (third : Appends two new (filler c.filler_for.result)). three_parts old one two new (front_with h c.args.bytes.now (length ms)) (bytes_of_messages ms) (filler (filler_for (4 + sizes_of ms))) first c.in_ok-write_chosen.ensures
    (subst (λ (n : ℕ). Appends two new (filler n)) count third))
    c.write_filler.ensures
