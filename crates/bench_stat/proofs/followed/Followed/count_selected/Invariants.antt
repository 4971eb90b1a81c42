use Rattle.std.proofs.Common.{◌≡◌, ◌+◌, ◌++◌, List, length}
use Rattle.ch11_layout.specs.Stamps.{Recorded}
use Rattle.bench_stat.specs.declared.shown.Shown.{Shown}
use Rattle.bench_stat.specs.Chosen.{picked}
use Rattle.bench_stat.specs.Told.{IsFollowed}
use Rattle.bench_stat.proofs.Histories.{IsAlong}
use Rattle.bench_stat.proofs.followed.Followed.count_selected.Given as goal

-- the selected messages past are counted
abbrev pub invariant-messages : goal.invariant-messages
invariant-messages l = record {
  counted : l.number + length l.rest ≡ l.before + length l.fn.messages;
  along : (shown : Shown) (history : List Recorded) → IsFollowed shown history l.fn.self
      → IsAlong (λ past. IsFollowed shown (past ++ history) l.self) (picked l.selection l.kind l.channel l.before l.fn.messages) (picked l.selection l.kind l.channel l.number l.rest);
}

abbrev pub decreases-messages : goal.decreases-messages
decreases-messages l = length (picked l.selection l.kind l.channel l.number l.rest)
