use Rattle.std.proofs.Common.{ap, sym, ◌∙◌, length}
use Rattle.bench_compare.specs.Passes.{Passing}
use Rattle.bench_compare.proofs.Stepping.{taken}
use Rattle.bench_compare.proofs.channel_pass.ChannelPass.next.Goals as goal

pub returns : goal.returns
returns g c = λ file ps way read.
    let now : Passing = record { reading = c.self.inside.packets; kept = c.pop_front.new.self.items } in
    taken c.args.choice.selection.now c.args.choice.channel file ps c.args.self.now c.fill.new.self now c.pop_front.result c.self.inside.kept.len c.pop_front.new.self.len (c.in_ok-fill.ensures file ps way read)
    (c.self.inside.kept.ok.0 ∙ ap (λ (l : Passing). length l.kept) c.self.view_is) c.pop_front.ensures.cases (sym (ap (λ (l : Passing). l.kept) c.self.view_is) ∙ c.pop_front.ensures.items) (ap (λ (l : Passing). l.reading) c.self.view_is)
