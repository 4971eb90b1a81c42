use Rattle.std.proofs.Common.{◌≡◌, ℕ, List, drop, take, option_map, sym, ap, subst, ◌∙◌, arith, Option, Some}
use Rattle.std.specs.Result.{OnOk}
use Rattle.bench_complete.specs.Pieces.{kept_entries}
use Rattle.bench_complete.specs.Merging.{of_channel}
use Rattle.bench_complete.specs.Lanes.{Merges, parts_of}
use Rattle.bench_complete.proofs.Front.{front_size, front_within, front_placed, rest_placed, none_behind}
use Rattle.bench_complete.proofs.Written.{completed_if}
use Rattle.bench_complete.proofs.completion.Completion.write.Goals as goal

pub split_at-requires : goal.split_at-requires
split_at-requires g c = omega (arith, c.leading.ensures, front_within c.as_slice-packets.result.now)

pub heads-requires-clause-free : goal.heads-requires-clause-free
heads-requires-clause-free g c = λ file some.
    let es = c.self.inside.packets.items in
    let size = c.leading.ensures ∙ ap front_size c.as_slice-packets.ensures.value in
    let back = c.split_at.ensures.back ∙ ap (drop c.leading.result) c.as_slice-packets.ensures.value in
    ap (of_channel c.self.inside.times.channel) (sym (rest_placed file es c.split_at.result.1.now c.leading.result size back))
    ∙ none_behind c.self.inside.times.channel (kept_entries file es) (c.self.invariant.free file some)

pub returns-clause-written : goal.returns-clause-written
returns-clause-written g c =
    let es = c.self.inside.packets.items in
    let size = c.leading.ensures ∙ ap front_size c.as_slice-packets.ensures.value in
    let part = c.split_at.ensures.front ∙ ap (take c.leading.result) c.as_slice-packets.ensures.value in
    let back = c.split_at.ensures.back ∙ ap (drop c.leading.result) c.as_slice-packets.ensures.value in
    completed_if (option_map (λ text. text.now) c.self.inside.setup) c.self.inside.times c.self.inside.low es c.split_at.result.0.now c.split_at.result.1.now c.args.self.now c.self.inside.original
    (g.W.Write.contents c.args.out.now) (g.W.Write.contents c.write_front.new.out) (g.W.Write.contents c.write_packets.new.out) (g.W.Write.contents c.merge.new.out) c.merge.result
    (sym c.self.view_is) c.self.invariant.lowest (λ file. front_placed file es c.split_at.result.0.now c.leading.result size part) (λ file. rest_placed file es c.split_at.result.1.now c.leading.result size back)
    c.in_ok-write_front.ensures.written c.in_ok-write_packets.ensures.written
    (subst (λ (known : Option (List ℕ)).
    OnOk c.merge.result ((file : List ℕ) → known ≡ Some file
    → Merges (parts_of file c.split_at.result.1.now c.self.inside.times) (g.W.Write.contents c.write_packets.new.out) (g.W.Write.contents c.merge.new.out)))
    c.write_packets.ensures.stays c.merge.ensures.written)
