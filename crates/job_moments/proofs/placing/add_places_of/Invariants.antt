use Rattle.std.proofs.Common.{◌≡◌, ◌+◌, ◌++◌, length, take}
use Rattle.job_moments.specs.Chunks.{lines_of}
use Rattle.job_moments.specs.Planning.{places_from}
use Rattle.job_moments.specs.Rules.{plans_of}
use Rattle.job_moments.proofs.placing.add_places_of.Given as goal

-- the places of the chunks so far, and the one behind their rules
abbrev pub invariant-loop-chunk : goal.invariant-loop-chunk
invariant-loop-chunk l = record {
  places : l.places.items
      ≡ l.fn.places.items ++ places_from l.counts.made l.next l.first (plans_of (lines_of (take l.chunk-index l.chunks)));
  place : l.place ≡ l.first + length (lines_of (take l.chunk-index l.chunks));
}
