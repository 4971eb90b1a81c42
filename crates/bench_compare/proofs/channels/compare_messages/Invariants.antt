use Rattle.std.proofs.Common.{◌≡◌, ℕ, ◌+◌, ◌≤◌, List, Ok, length}
use Rattle.ch11_reader.specs.Recording.{Found, packets_in}
use Rattle.bench_compare.specs.Passes.{IsUnderWay}
use Rattle.bench_compare.proofs.Following.{IsFollowing}
use Rattle.bench_compare.proofs.channels.compare_messages.Given as goal

abbrev pub invariant-messages : goal.invariant-messages
invariant-messages g l = record {
  counted : l.number + length l.rest ≡ l.fn.packet.before + length l.fn.messages;
  same : l.standing.same ≤ l.number;
  following : (other : List ℕ) (qs : List Found) → IsUnderWay other l.fn.pass.reading → packets_in other ≡ Ok qs
      → IsFollowing l.fn.asked.within l.fn.asked.first.selection.now l.fn.asked.second.selection.now l.fn.asked.first.channel l.fn.asked.second.channel l.kind other qs l.fn.standing l.fn.pass l.fn.packet.before l.number l.fn.messages l.rest l.standing l.pass;
}

abbrev pub decreases-messages : goal.decreases-messages
decreases-messages g l = length l.rest
