use Rattle.std.proofs.Common.{ℕ, Vec, Global, sym, ap, ◌∙◌}
use Rattle.bench_export.specs.Heads.{part_text}
use Rattle.bench_export.specs.Waves.{marked}
use Rattle.bench_export.proofs.Dumping.{no_channels, channel_more, channel_same}
use Rattle.bench_export.proofs.heads.put_channels.Goals as goal
use Rattle.bench_export.proofs.heads.put_channels.Goals.{then-is_marked+in_ok-put_part, else-is_marked}

pub channels-init : goal.channels-init
channels-init c = no_channels c.args.text.now.items (part_text c.args.part) (marked c.args.marks.now)

pub channels-preserved : goal.channels-preserved
channels-preserved c = elim c.if-is_marked.branch [
  | then-is_marked+in_ok-put_part w ↦
      ap (λ (v : Vec ℕ Global). v.items) w.text-is
      ∙ channel_more c.args.text.now.items c.channels.text.items w.put_part.new.text.items (part_text c.args.part) (marked c.args.marks.now) c.channels.channel
      (sym c.is_marked.ensures ∙ w.if-is_marked.true) c.channels.invariant w.in_ok-put_part.ensures
  | else-is_marked w ↦
      ap (λ (v : Vec ℕ Global). v.items) w.text-is
      ∙ channel_same c.args.text.now.items c.channels.text.items (part_text c.args.part) (marked c.args.marks.now) c.channels.channel
      (sym c.is_marked.ensures ∙ w.if-is_marked.false) c.channels.invariant
]
