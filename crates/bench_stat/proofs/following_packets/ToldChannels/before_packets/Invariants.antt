use Rattle.std.proofs.Common.{[], take}
use Rattle.bench_select.specs.declared.selection.Selection.{Selection}
use Rattle.bench_stat.specs.Told.{AreTold}
use Rattle.bench_stat.proofs.following_packets.ToldChannels.before_packets.Given as goal

-- the channels so far are there
abbrev pub invariant-channels : goal.invariant-channels
invariant-channels l = (s : Selection) → AreTold l.shown s (take l.channel-index l.figures) [] l.told
