use Rattle.std.proofs.Common.{◌≡◌, ◌<◌, ◌^◌, ◌++◌}
use Rattle.bench_export.specs.Changes.{changes_up_to}
use Rattle.bench_export.specs.Moments.{begin_of}
use Rattle.bench_export.proofs.changes.push_message.Given as goal

-- the changes of the words so far were added, and the next one begins at a tick
abbrev pub invariant-words : goal.invariant-words
invariant-words l = record {
  changes : l.changes.items ≡ l.fn.changes.items ++ changes_up_to l.place l.message.number l.message.channel l.view;
  begin : l.begin ≡ begin_of l.view l.place;
  small : l.begin < 2 ^ 100;
}
