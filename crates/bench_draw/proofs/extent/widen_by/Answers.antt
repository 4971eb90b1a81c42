use Rattle.std.proofs.Common.{ap, arith}
use Rattle.ch11_layout.specs.declared.stamps.StampKind.{StampKind}
use Rattle.bench_draw.specs.Chosen.{chosen_in}
use Rattle.bench_draw.proofs.Counting.{ends}
use Rattle.bench_draw.proofs.extent.widen_by.Goals as goal

pub returns : goal.returns
returns c =
    omega (
      arith,
      c.saturating_add-total.ensures,
      c.messages.invariant.kept,
      ends _ _ _ _ _ _ _ _ _ _ c.messages.invariant c.in_default.ensures.steps.0,
      ap (λ (k : StampKind). chosen_in c.args.selection.now k c.args.packet.now.before c.args.packet.now.header.channel c.args.messages) c.of-kind.ensures,
    )
