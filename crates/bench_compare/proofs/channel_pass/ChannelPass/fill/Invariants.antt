use Rattle.std.proofs.Common.{◌≡◌, ℕ, List, Ok}
use Rattle.ch11_reader.specs.Recording.{Found, packets_in}
use Rattle.bench_compare.specs.Passes.{IsUnderWay, pass_to_come}
use Rattle.bench_compare.proofs.channel_pass.ChannelPass.fill.Given as goal

-- what was to come still is
abbrev pub invariant-packets : goal.invariant-packets
invariant-packets g l = (file : List ℕ) (ps : List Found) → IsUnderWay file l.fn.self.reading → packets_in file ≡ Ok ps
    → IsUnderWay file l.self-inside.packets
    × (pass_to_come l.choice.selection.now l.choice.channel ps l.fn.self ≡ pass_to_come l.choice.selection.now l.choice.channel ps (record { reading = l.self-inside.packets; kept = l.self-inside.kept.items }))
