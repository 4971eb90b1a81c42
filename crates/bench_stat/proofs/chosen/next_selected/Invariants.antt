use Rattle.std.proofs.Common.{◌≡◌, ◌+◌, length}
use Rattle.bench_stat.specs.Chosen.{picked}
use Rattle.bench_stat.proofs.chosen.next_selected.Given as goal

-- the messages so far were not selected
abbrev pub invariant-messages : goal.invariant-messages
invariant-messages l = record {
  picked : picked l.selection l.kind l.channel l.before l.messages ≡ picked l.selection l.kind l.channel l.fn.before l.fn.messages;
  counted : l.before + length l.messages ≡ l.fn.before + length l.fn.messages;
}

abbrev pub decreases-messages : goal.decreases-messages
decreases-messages l = length l.messages
