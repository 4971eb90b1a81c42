use Rattle.std.proofs.Common.{◌≡◌, ℕ, true, take}
use Rattle.controller_host.specs.declared.destinations.Destination.{Destination}
use Rattle.controller_host.specs.Destinations.{IsPlace}
use Rattle.controller_host.specs.Sources.{source_in}
use Rattle.controller_host.proofs.Words.{with_words}
use Rattle.controller_host.proofs.sources.Sources.put_words.Given as goal

-- the words so far are set
abbrev pub invariant-loop-i : goal.invariant-loop-i
invariant-loop-i l = record {
  ready : l.self.ready ≡ true;
  sources : (d : Destination) (place : ℕ) → IsPlace d place
      → source_in l.self.rows d place ≡ with_words l.destination (take l.i l.word-items) (source_in l.initial.self.rows d place) d place;
}
