use Rattle.std.proofs.Common.{◌≡◌, All, length, sym, ap, subst, ◌∙◌, arith}
use Rattle.std.specs.Vec.{with_items}
use Rattle.std.proofs.lemmas.List.{with_items_is}
use Rattle.std.proofs.lemmas.List.Elements.{All-same}
use Rattle.job_moments.specs.declared.chunks.Chunk.{Chunk}
use Rattle.job_moments.specs.declared.waiting.Pending.{Pending}
use Rattle.job_moments.specs.Awaiting.{due_of, HasItsCounter, KnowsChunk, Picks}
use Rattle.job_moments.specs.Chunks.{lines_of}
use Rattle.job_moments.specs.Quiet.{IsPart}
use Rattle.job_moments.proofs.Chunking.{drops_all, drops_lines}
use Rattle.job_moments.proofs.Grouping.{quiet_inside}
use Rattle.job_moments.proofs.waiting.take_inside.Goals as goal

pub returns-clause-taken : goal.returns-clause-taken
returns-clause-taken g c =
    let chunks = c.args.group.now.chunks in
    let made = c.args.counts.now.made in
    let next = c.args.next.now in
    let new = c.take_first-payload.new.chunks in
    let left = c.drop_empty.new.chunks.items in
    let long : length new ≡ chunks.len = omega (arith, c.take_first-payload.auto.chunks, c.deref_mut.ensures.len) in
    let same = with_items_is chunks new long in
    let lines : lines_of left ≡ lines_of new = drops_lines (with_items chunks new).items left c.drop_empty.ensures ∙ ap lines_of same in
    subst (λ ls. Picks made next (lines_of chunks.items) ls c.take_first-payload.result) (sym lines)
    (subst (λ cs. Picks made next (lines_of cs) (lines_of new) c.take_first-payload.result) c.deref_mut.ensures.value c.take_first-payload.ensures.taken)

pub returns-clause-known : goal.returns-clause-known
returns-clause-known g c =
    let chunks = c.args.group.now.chunks in
    let counts = c.args.counts.now in
    let new = c.take_first-payload.new.chunks in
    let left = c.drop_empty.new.chunks.items in
    let quiet = c.quiet_for_all-group.result in
    let long : length new ≡ chunks.len = omega (arith, c.take_first-payload.auto.chunks, c.deref_mut.ensures.len) in
    let now = (with_items chunks new).items in
    let known : All (KnowsChunk counts) left =
    drops_all (KnowsChunk counts) now left c.drop_empty.ensures
    (All-same (KnowsChunk counts) now new (with_items_is chunks new long) c.take_first-payload.ensures.known) in
    let parts : All (λ (k : Chunk (Pending g.row.T.Denot)). IsPart quiet k.quiet) left =
    All-same (λ (k : Chunk (Pending g.row.T.Denot)). IsPart quiet k.quiet) left c.deref.result.now (sym c.deref.ensures.value) c.quiet_for_all-group.ensures in
    record {
      chunks = known;
      sleeps = quiet_inside (HasItsCounter counts.selectors) due_of counts.made quiet left parts known;
    }
