use Rattle.std.proofs.Common.{◌≡◌, ◌+◌, ◌++◌, length}
use Rattle.bench_names.specs.Describing as spec
use Rattle.bench_names.proofs.describing.put_channels.Given as goal

-- the channels so far are described
abbrev pub invariant-channels : goal.invariant-channels
invariant-channels l = record {
  counted : l.place + length l.rest ≡ 1 + length l.channels;
  so_far : l.text.items ++ spec.each l.place l.rest ≡ l.initial.text.items ++ spec.each 1 l.channels;
}

abbrev pub decreases-channels : goal.decreases-channels
decreases-channels l = length l.rest
