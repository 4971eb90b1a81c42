use Rattle.std.proofs.Common.{◌≡◌, ◌+◌, ◌++◌, List, length}
use Rattle.ch11_layout.specs.Stamps.{Recorded}
use Rattle.bench_stat.specs.Chosen.{picked}
use Rattle.bench_stat.specs.Steps.{tally_of}
use Rattle.bench_stat.proofs.Histories.{IsAlong}
use Rattle.bench_stat.proofs.streaming.note_selected.Given as goal

-- the selected messages past are counted
abbrev pub invariant-messages : goal.invariant-messages
invariant-messages l = record {
  counted : l.number + length l.rest ≡ l.before + length l.fn.messages;
  along : (history : List Recorded) → l.fn.tally ≡ tally_of l.channel history
      → IsAlong (λ past. l.tally ≡ tally_of l.channel (past ++ history)) (picked l.selection l.kind l.channel l.before l.fn.messages) (picked l.selection l.kind l.channel l.number l.rest);
}

abbrev pub decreases-messages : goal.decreases-messages
decreases-messages l = length (picked l.selection l.kind l.channel l.number l.rest)
