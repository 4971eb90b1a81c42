use Rattle.std.proofs.Common.{◌≡◌, All, length, sym, arith}
use Rattle.std.specs.Vec.{with_items}
use Rattle.std.proofs.lemmas.List.{with_items_is}
use Rattle.std.proofs.lemmas.List.Elements.{All-same}
use Rattle.job_moments.specs.declared.chunks.Chunk.{Chunk}
use Rattle.job_moments.specs.declared.planning.Rule.{Rule}
use Rattle.job_moments.specs.Quiet.{IsPart}
use Rattle.job_moments.specs.Rules.{occasion_of, HasItsCounter, KnowsChunk}
use Rattle.job_moments.proofs.Grouping.{quiet_inside}
use Rattle.job_moments.proofs.planning.learn_inside.Goals as goal

pub returns-then-not-has-clause-known : goal.returns-then-not-has-clause-known
returns-then-not-has-clause-known c =
    let chunks = c.args.group.now.chunks in
    let counts = c.args.counts.now in
    let new = c.learn_all.new.chunks in
    let quiet = c.quiet_for_all-group.result in
    let long : length new ≡ chunks.len = omega (arith, c.learn_all.auto.chunks, c.deref_mut.ensures.len) in
    let now = (with_items chunks new).items in
    let known : All (KnowsChunk counts) now = All-same (KnowsChunk counts) now new (with_items_is chunks new long) c.learn_all.ensures.known in
    let parts : All (λ (k : Chunk Rule). IsPart quiet k.quiet) now =
    All-same (λ (k : Chunk Rule). IsPart quiet k.quiet) now c.deref.result.now (sym c.deref.ensures.value) c.quiet_for_all-group.ensures in
    record {
      chunks = known;
      sleeps = quiet_inside (HasItsCounter counts.selectors) occasion_of counts.made quiet now parts known;
    }
